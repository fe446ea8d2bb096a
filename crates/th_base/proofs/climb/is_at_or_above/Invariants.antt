use Rattle.std.proofs.Common.{length}
use Rattle.th_base.specs.Climb.{steps_of}
use Rattle.th_base.proofs.Climbing.{IsClimb}
use Rattle.th_base.proofs.climb.is_at_or_above.Given as goal

abbrev pub invariant-loop-class : goal.invariant-loop-class
invariant-loop-class l = IsClimb l.classes l.goal l.from l.climb.seen.items l.climb.todo.items

abbrev pub decreases-loop-class : goal.decreases-loop-class
decreases-loop-class l = steps_of l.climb.seen.items l.climb.todo.items
