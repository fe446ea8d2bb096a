-- Kinds that are kept at some instructions, those to which a jump leads, and walked to the others from the
-- instruction before; to the first one from the method's entry.
use Rattle.std.specs.Prelude.{◌≡◌, ℕ, zero, suc, ◌<◌, ◌==◌, Bool, true, false, List, [], ◌∷◌, length, Option, None, Some, slice_index_or, Contains, if◌then◌else◌}
use Rattle.std.specs.Option.{option_map, option_map_or}
use Rattle.th_syntax.specs.declared.instr.Instr.{Instr}
use Rattle.th_syntax.specs.declared.instr.Instr.TheVariants.{Goto, TableSwitch, LookupSwitch, IReturn, LReturn, AReturn, Return, Throw}
use Rattle.th_syntax.specs.Kinds.{KindsAt, NoKinds}
use Rattle.th_syntax.specs.KindRows.{row_of, after}
use Rattle.th_syntax.specs.KindTable.{IsHeld}
pub use Rattle.th_kinds.specs.Flowing.{line, jumps, FlowsWell}

-- ---- instructions by their places

-- the place of the instruction at an offset
abbrev pub place_of : List (ℕ × Instr) → ℕ → Option ℕ
place_of [] offset = None
place_of (i ∷ instrs) offset = if i.0 == offset then Some 0 else option_map suc (place_of instrs offset)

-- control goes on behind the instruction
abbrev pub falls : Instr → Bool
falls (Goto target) = false
falls (TableSwitch low targets other) = false
falls (LookupSwitch pairs other) = false
falls IReturn = false
falls LReturn = false
falls AReturn = false
falls Return = false
falls Throw = false
falls other = true

-- ---- what is kept, and walked

abbrev pub kept_at : List (Option KindsAt) → ℕ → Option KindsAt
kept_at kept k = slice_index_or kept k None

-- what is kept at an instruction, and otherwise what falls in from the one before
abbrev pub here : KindsAt → Option KindsAt → KindsAt
here fallen None = fallen
here fallen (Some s) = s

abbrev pub fallen_behind : Instr → KindsAt → KindsAt
fallen_behind i s = if falls i then after (row_of i) s else NoKinds

unfoldable pub falls_in : KindsAt → List (ℕ × Instr) → List (Option KindsAt) → ℕ → KindsAt
falls_in entry instrs kept zero = entry
falls_in entry instrs kept (suc k) = fallen_behind (line instrs k).1 (here (falls_in entry instrs kept k) (kept_at kept k))

abbrev pub state_at : KindsAt → List (ℕ × Instr) → List (Option KindsAt) → ℕ → KindsAt
state_at entry instrs kept k = here (falls_in entry instrs kept k) (kept_at kept k)

abbrev pub walked_table : KindsAt → List (ℕ × Instr) → List (Option KindsAt) → ℕ → KindsAt
walked_table entry instrs kept offset = option_map_or (state_at entry instrs kept) (place_of instrs offset) NoKinds

-- what is brought to a place is kept there already
pub record IsKept (kept : List (Option KindsAt)) (k : ℕ) (brought : KindsAt) : Type 0 where
  pub known : KindsAt
  pub stands : kept_at kept k ≡ Some known
  pub held : IsHeld brought known

-- nothing new comes from the instruction at a place, nor falls into it
pub record IsQuiet (entry : KindsAt) (instrs : List (ℕ × Instr)) (kept : List (Option KindsAt)) (k : ℕ) : Type 0 where
  pub falling : (known : KindsAt) → kept_at kept k ≡ Some known → IsHeld (falls_in entry instrs kept k) known
  pub jumping : (j : ℕ) → j < length instrs → Contains (jumps (line instrs k).1) (line instrs j).0
      → IsKept kept j (after (row_of (line instrs k).1) (state_at entry instrs kept k))

-- what is kept is below a table
abbrev pub IsBelow : List (ℕ × Instr) → List (Option KindsAt) → (ℕ → KindsAt) → Type 0
IsBelow instrs kept u = (k : ℕ) (known : KindsAt) → k < length instrs → kept_at kept k ≡ Some known → IsHeld known (u (line instrs k).0)
