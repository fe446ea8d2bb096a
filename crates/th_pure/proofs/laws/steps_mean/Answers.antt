use Rattle.th_pure.proofs.Ends.{all_end}
use Rattle.th_pure.proofs.Named.{variables_stand}
use Rattle.th_pure.proofs.Vanishing.{vanishes}
use Rattle.th_pure.proofs.laws.steps_mean.Goals as goal

pub returns-clause-rounds : goal.returns-clause-rounds
returns-clause-rounds c = all_end

pub returns-clause-variables : goal.returns-clause-variables
returns-clause-variables c = variables_stand

pub returns-clause-vanishes : goal.returns-clause-vanishes
returns-clause-vanishes c = vanishes c.one_sum.ensures.sum
