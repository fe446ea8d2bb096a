use Rattle.std.proofs.Common.{◌<◌, ℕ, get_or}
use Rattle.th_base.specs.Climb.{superclass_first_in}
use Rattle.th_base.specs.Cycles.{IsAtOrAbove}
use Rattle.th_base.proofs.cycle.way_back.Given as goal

-- no supertype so far leads back
abbrev pub invariant-loop-at : goal.invariant-loop-at
invariant-loop-at l = (k : ℕ) → k < l.at → IsAtOrAbove l.classes l.class (get_or (superclass_first_in l.info) k 0) → ⊥
