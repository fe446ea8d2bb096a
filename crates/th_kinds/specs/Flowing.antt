-- Code in which control stays: what the code of each class file is.
use Rattle.std.specs.Prelude.{◌≡◌, ℕ, ◌<◌, List, [], length, slice_index_or, Contains}
use Rattle.th_syntax.specs.declared.instr.Instr.{Instr}
use Rattle.th_syntax.specs.declared.instr.Instr.TheVariants.{Nop}
use Rattle.th_syntax.specs.Flow.{leads_to}

-- the instruction at a place, with its offset
abbrev pub line : List (ℕ × Instr) → ℕ → ℕ × Instr
line instrs k = slice_index_or instrs k (0, Nop)

-- the offsets to which it jumps
abbrev pub jumps : Instr → List ℕ
jumps i = leads_to [] i

-- the offsets of the instructions ascend from 0, and each jump lands on one of them
pub record FlowsWell (instrs : List (ℕ × Instr)) : Type 0 where
  pub some : 0 < length instrs
  pub first : (line instrs 0).0 ≡ 0
  pub ascending : (j k : ℕ) → j < k → k < length instrs → (line instrs j).0 < (line instrs k).0
  pub jumps_in : (k to : ℕ) → k < length instrs → Contains (jumps (line instrs k).1) to
      → (j : ℕ) × (j < length instrs) × ((line instrs j).0 ≡ to)
