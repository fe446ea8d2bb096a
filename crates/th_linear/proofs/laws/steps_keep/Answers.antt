use Rattle.th_linear.proofs.Keeps.{value-scaled}
use Rattle.th_linear.proofs.Sums.{division_keeps, sum_follows, substitution_keeps, absent_stays}
use Rattle.th_linear.proofs.laws.steps_keep.Goals as goal

pub returns-clause-division : goal.returns-clause-division
returns-clause-division c = division_keeps

pub returns-clause-scaling : goal.returns-clause-scaling
returns-clause-scaling c = λ p ts s. value-scaled p ts s

pub returns-clause-sum : goal.returns-clause-sum
returns-clause-sum c = sum_follows

pub returns-clause-substitution : goal.returns-clause-substitution
returns-clause-substitution c = substitution_keeps

pub returns-clause-absent : goal.returns-clause-absent
returns-clause-absent c = absent_stays
