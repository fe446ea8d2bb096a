use Rattle.std.proofs.Common.{◌≡◌, ◌≤◌, ℕ, true, take}
use Rattle.th_base.specs.Climb.{rank_of}
use Rattle.th_base.specs.IdSet.{has}
use Rattle.th_base.specs.Order.{supertypes_in}
use Rattle.th_base.proofs.rank.is_highest.Given as goal

abbrev pub invariant-loop-at : goal.invariant-loop-at
invariant-loop-at l = (s : ℕ) → has (take l.at (supertypes_in l.class)) s ≡ true → rank_of l.ranks s ≤ l.own
