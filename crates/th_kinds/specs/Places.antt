-- The first instruction whose kinds are a conflict, by its place.
use Rattle.std.specs.Prelude.{◌≡◌, ℕ, ◌<◌, true, false, List, length, Option, None, Some}
use Rattle.th_syntax.specs.declared.class_file.Member.{Member}
use Rattle.th_syntax.specs.declared.class_file.Code.{Code}
use Rattle.th_syntax.specs.declared.instr.Instr.{Instr}
use Rattle.th_syntax.specs.Kinds.{KindsAt}
use Rattle.th_syntax.specs.KindTable.{is_conflict}
use Rattle.th_kinds.specs.Flowing.{line}

-- no instruction before this place has kinds that are a conflict
abbrev pub AreFitting : Member → Code → List (ℕ × Instr) → (ℕ → KindsAt) → ℕ → Type 0
AreFitting m code instrs s n = (k : ℕ) → k < n → is_conflict m code (line instrs k).1 (s k) ≡ false

pub record IsConflictAt (m : Member) (code : Code) (instrs : List (ℕ × Instr)) (s : ℕ → KindsAt) (place : ℕ) : Type 0 where
  pub inside : place < length instrs
  pub here : is_conflict m code (line instrs place).1 (s place) ≡ true
  pub before : AreFitting m code instrs s place

abbrev pub IsFirstPlace : Member → Code → List (ℕ × Instr) → (ℕ → KindsAt) → Option ℕ → Type 0
IsFirstPlace m code instrs s None = AreFitting m code instrs s (length instrs)
IsFirstPlace m code instrs s (Some place) = IsConflictAt m code instrs s place
