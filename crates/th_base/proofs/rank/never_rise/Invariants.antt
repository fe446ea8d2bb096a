use Rattle.std.proofs.Common.{◌≡◌, ◌<◌, ◌≤◌, ℕ, true}
use Rattle.th_base.specs.Climb.{rank_of}
use Rattle.th_base.specs.Hierarchy.{direct_supertypes}
use Rattle.th_base.specs.IdSet.{has}
use Rattle.th_base.proofs.rank.never_rise.Given as goal

abbrev pub invariant-loop-number : goal.invariant-loop-number
invariant-loop-number l = (c s : ℕ) → c < l.number → has (direct_supertypes l.classes c) s ≡ true → rank_of l.ranks s ≤ rank_of l.ranks c
