-- What each part of a run does with lists of numbers.
use Rattle.std.specs.Prelude.{◌≡◌, ℕ, ◌&&◌, not, Bool, true, false, List, filter}
use Rattle.std.specs.List.{slice_index_or}
use Rattle.th_base.specs.IdSet.{has}

-- the lists have the same numbers in them, in whatever order and however often
abbrev pub SameMembers : List ℕ → List ℕ → Type 0
SameMembers xs ys = (x : ℕ) → has ys x ≡ has xs x

-- what passes the filter and isn't in the target
abbrev pub missing : List ℕ → List ℕ → List ℕ → List ℕ
missing fresh passing target = filter (λ x. has passing x && not (has target x)) fresh

-- the flag at a place is true
abbrev pub IsOn : List Bool → ℕ → Type 0
IsOn flags at = slice_index_or flags at false ≡ true

-- what isn't in the target
abbrev pub lacking : List ℕ → List ℕ → List ℕ
lacking ids target = filter (λ x. not (has target x)) ids
