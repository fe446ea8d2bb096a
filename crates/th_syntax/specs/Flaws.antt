-- Flaws of the bytes of a class file, and which of several comes first.
use Rattle.std.specs.Prelude.{◌≡◌, ◌⊎◌, ◌<◌, ◌≤◌, ◌==◌, ◌&&◌, ◌||◌, ℕ, nat_lt, List, [], ◌∷◌, Bool, true, false, Option, Some, None, if◌then◌else◌}
use Rattle.std.specs.List.{Contains, AllByRecursion}
use Rattle.th_syntax.specs.declared.refusal.Flaw.{Flaw}

-- a flaw by its number, at an offset of the file
abbrev pub flaw_at : ℕ → ℕ → Flaw
flaw_at number offset = record { number = number; offset = offset }

-- nothing, where the test holds; else one
abbrev pub unless : {A : Type 0} → Bool → A → List A
unless true x = []
unless false x = x ∷ []

-- the first flaw stands at a lower offset, or at the same one with a number that isn't above
abbrev pub NotBehind : Flaw → Flaw → Type 0
NotBehind flaw other = (flaw.offset < other.offset) ⊎ ((flaw.offset ≡ other.offset) × (flaw.number ≤ other.number))

-- the flaw is among those found, and none of them comes before it
pub record IsFirst (flaws : List Flaw) (flaw : Flaw) : Type 0 where
  pub found : Contains flaws flaw
  pub least : AllByRecursion (NotBehind flaw) flaws

-- each flaw comes before those behind it in the list
abbrev pub Ascend : List Flaw → Type 0
Ascend [] = Unit {0}
Ascend (flaw ∷ flaws) = AllByRecursion (NotBehind flaw) flaws × Ascend flaws

-- ---- the same as a function, as the laws say

abbrev pub is_before : Flaw → Flaw → Bool
is_before flaw other = nat_lt flaw.offset other.offset || (flaw.offset == other.offset && nat_lt flaw.number other.number)

-- the first of a flaw and of others
abbrev pub first_from : Flaw → List Flaw → Flaw
first_from flaw [] = flaw
first_from flaw (other ∷ others) = first_from (if is_before other flaw then other else flaw) others

-- the first of the flaws, where there are some
abbrev pub first_of : List Flaw → Option Flaw
first_of [] = None
first_of (flaw ∷ flaws) = Some (first_from flaw flaws)
