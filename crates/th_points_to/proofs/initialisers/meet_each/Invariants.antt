use Rattle.std.proofs.Common.{◌≡◌, ◌⊎◌, ℕ, true, take}
use Rattle.std.specs.List.{Contains}
use Rattle.th_base.specs.IdSet.{has}
use Rattle.th_points_to.proofs.initialisers.meet_each.Given as goal

abbrev pub invariant-loop-class : goal.invariant-loop-class
invariant-loop-class l = (c : ℕ) → Contains l.met.keys c → Contains l.fn.met.keys c ⊎ (has (take l.class-index l.classes) c ≡ true)
