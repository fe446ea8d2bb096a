-- What a list of names says: one name a line.
use Rattle.std.specs.Prelude.{◌≡◌, ◌==◌, ◌+◌, nat_lt, ℕ, List, ◌∷◌, ◌++◌, filter, length, sum_by, IsUtf8}
use Rattle.std.specs.List.{slice_split, AllByRecursion}

-- the lines, with an empty one more where the last line ends with its line feed
abbrev pub lines_of : List ℕ → List (List ℕ)
lines_of bytes = slice_split (λ b. b == 10) bytes

-- the names: the lines that aren't empty
abbrev pub names_on : List (List ℕ) → List (List ℕ)
names_on lines = filter (λ line. nat_lt 0 (length line)) lines

-- how many bytes lines take, each with its line feed
abbrev pub bytes_of : List (List ℕ) → ℕ
bytes_of lines = sum_by (λ line. length line + 1) lines

-- the first of lines that isn't UTF-8 begins at this offset
pub record IsFirstBad (lines : List (List ℕ)) (offset : ℕ) : Type 0 where
  pub before : List (List ℕ)
  pub line : List ℕ
  pub behind : List (List ℕ)
  pub lines_are : lines ≡ before ++ line ∷ behind
  pub good : AllByRecursion IsUtf8 before
  pub bad : IsUtf8 line → ⊥
  pub begins : offset ≡ bytes_of before
