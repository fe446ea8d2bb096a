use Rattle.th_linear.proofs.Sums.{answer_of, sum_is, no_sum}
use Rattle.th_linear.proofs.laws.one_sum.Goals as goal

pub returns-clause-sum : goal.returns-clause-sum
returns-clause-sum c = λ p a q b to r h k.
    ((λ x. sum_is p a q b to r h k x.0 x.1), (λ e. answer_of p a q b to r h k e))

pub returns-clause-too_large : goal.returns-clause-too_large
returns-clause-too_large c = λ p a q b to h k large. no_sum p a q b to h k large
