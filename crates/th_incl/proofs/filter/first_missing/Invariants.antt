use Rattle.std.proofs.Common.{◌≡◌, ◌<◌, ℕ, true, take}
use Rattle.th_base.specs.IdSet.{has}
use Rattle.th_incl.proofs.filter.first_missing.Given as goal

abbrev pub invariant-loop-id : goal.invariant-loop-id
invariant-loop-id l = (x : ℕ) → x < l.below → has (take l.id-index l.ids) x ≡ true
