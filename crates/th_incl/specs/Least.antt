-- The least sets that hold base pairs and filtered inclusions.
use Rattle.std.specs.Prelude.{◌≡◌, ℕ, ◌<◌, ◌≤◌, ◌↔◌, Bool, true, List, [], length, All, Contains, sum_by}
use Rattle.std.specs.List.{slice_index_or}
use Rattle.th_base.specs.IdSet.{has, IsAscending}
use Rattle.th_incl.specs.declared.constraints.Inclusion.{Inclusion}
use Rattle.th_incl.specs.declared.constraints.Constraints.{Constraints}

-- the set at a place; empty past the end
abbrev pub set_at : List (List ℕ) → ℕ → List ℕ
set_at sets i = slice_index_or sets i []

-- number `x` is in set `i`
abbrev pub is_in : List (List ℕ) → ℕ → ℕ → Bool
is_in sets i x = has (set_at sets i) x

abbrev pub In : List (List ℕ) → ℕ → ℕ → Type 0
In sets i x = is_in sets i x ≡ true

-- number `x` reaches set `i`: as a base pair, or through an inclusion whose filter has it
pub data Reaches (c : Constraints) : ℕ → ℕ → Type 0 where
  given : (i x : ℕ) → Contains c.base (i, x) → Reaches c i x
  passed : (j : Inclusion) (x : ℕ) → Contains c.copies j → Reaches c j.from x → In c.filters j.filter x → Reaches c j.to x

-- the sets, each ascending, hold exactly the numbers that reach them
pub record IsLeast (c : Constraints) (sets : List (List ℕ)) : Type 0 where
  pub count : length sets ≡ c.sets
  pub ascending : All IsAscending sets
  pub exact : (i x : ℕ) → In sets i x ↔ Reaches c i x

-- each number of a set or a filter in the constraints is one that there is
pub record IsInRange (c : Constraints) : Type 0 where
  pub base : (i x : ℕ) → Contains c.base (i, x) → i < c.sets
  pub copies : (j : Inclusion) → Contains c.copies j → (j.from < c.sets) × (j.to < c.sets) × (j.filter < length c.filters)

-- a family of sets, given as a test of set and number, is closed: it holds each base pair, and what
-- passes an inclusion
pub record IsClosed (c : Constraints) (family : ℕ → ℕ → Bool) : Type 0 where
  pub base : (i x : ℕ) → Contains c.base (i, x) → family i x ≡ true
  pub copies : (j : Inclusion) (x : ℕ) → Contains c.copies j → family j.from x ≡ true → In c.filters j.filter x → family j.to x ≡ true

-- how many pairs of a set and a number in it there are
abbrev pub pair_count : List (List ℕ) → ℕ
pair_count sets = sum_by length sets

-- numbers that reach their sets, listed as sets, make more pairs than the limit
pub record HasMoreThan (c : Constraints) (limit : ℕ) : Type 0 where
  pub some : List (List ℕ)
  pub count : length some ≡ c.sets
  pub ascending : All IsAscending some
  pub reach : (i x : ℕ) → In some i x → Reaches c i x
  pub over : limit < pair_count some

-- the answer is true exactly where the least sets hold at most `limit` pairs
abbrev pub TellsWithin : Constraints → ℕ → Bool → Type 0
TellsWithin c limit within = (sets : List (List ℕ)) → IsLeast c sets → (within ≡ true) ↔ (pair_count sets ≤ limit)
