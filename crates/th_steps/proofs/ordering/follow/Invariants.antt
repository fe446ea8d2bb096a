use Rattle.std.proofs.Common.{◌≡◌, ◌-◌, length}
use Rattle.th_query.specs.Numbered.{followed}
use Rattle.th_steps.proofs.ordering.follow.Given as goal

-- it goes on from here
abbrev pub invariant-loop-k : goal.invariant-loop-k
invariant-loop-k l = followed l.query (length l.query.syms - l.k) l.k l.order.items ≡ followed l.query (length l.query.syms) 0 l.fn.order.items
