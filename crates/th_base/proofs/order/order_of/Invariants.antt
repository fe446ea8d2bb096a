use Rattle.th_base.specs.Order.{Walks, steps_left}
use Rattle.th_base.proofs.order.order_of.Given as goal

abbrev pub invariant-loop-walk : goal.invariant-loop-walk
invariant-loop-walk l = Walks l.classes l.walk

abbrev pub decreases-loop-walk : goal.decreases-loop-walk
decreases-loop-walk l = steps_left l.classes l.walk
