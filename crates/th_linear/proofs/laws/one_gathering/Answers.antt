use Rattle.th_linear.proofs.Totals.{answer_is, only_gathered, no_gathered, order_is_free}
use Rattle.th_linear.proofs.laws.one_gathering.Goals as goal

pub returns-clause-fact : goal.returns-clause-fact
returns-clause-fact c = λ ts k rel r.
    ((λ x. only_gathered ts k rel r x.0 x.1), (λ e. answer_is ts k rel r e))

pub returns-clause-too_large : goal.returns-clause-too_large
returns-clause-too_large c = λ ts k rel large. no_gathered ts k rel large

pub returns-clause-order : goal.returns-clause-order
returns-clause-order c = order_is_free
