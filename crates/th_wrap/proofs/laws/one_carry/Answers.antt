use Rattle.th_wrap.proofs.Range.{sum_one_carry, difference_one_carry, negation_one_carry}
use Rattle.th_wrap.proofs.laws.one_carry.Goals as goal

pub returns-clause-sum : goal.returns-clause-sum
returns-clause-sum c = sum_one_carry

pub returns-clause-difference : goal.returns-clause-difference
returns-clause-difference c = difference_one_carry

pub returns-clause-negation : goal.returns-clause-negation
returns-clause-negation c = negation_one_carry
