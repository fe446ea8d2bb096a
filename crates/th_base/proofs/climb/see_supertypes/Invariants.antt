use Rattle.std.proofs.Common.{take}
use Rattle.th_base.specs.Climb.{HasSeen}
use Rattle.th_base.specs.Order.{supertypes_in}
use Rattle.th_base.proofs.climb.see_supertypes.Given as goal

abbrev pub invariant-loop-at : goal.invariant-loop-at
invariant-loop-at l = HasSeen l.fn.climb l.climb (take l.at (supertypes_in l.class))
