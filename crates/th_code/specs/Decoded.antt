-- What passing over a code array gives.
use Rattle.std.specs.Prelude.{◌≡◌, ◌<◌, ℕ, List, [], ◌∷◌, length, Bool, true}
use Rattle.std.specs.List.{filter_map}
use Rattle.th_base.specs.declared.fail.Fail.{Fail}
use Rattle.th_base.specs.declared.fail.Fail.TheVariants.{Refused, NoMemory}
use Rattle.th_syntax.specs.declared.instr.Instr.{Instr}
use Rattle.th_syntax.specs.Flaws.{flaw_at}
use Rattle.th_syntax.specs.declared.refusal.Flaw.{Flaw}
use Rattle.th_syntax.specs.ClassBytes.{Pool}
use Rattle.th_syntax.specs.Decoding.{decoded, instrs_in, instr_flaw, is_start}
use Rattle.th_code.specs.Starts.{is_marked}

-- the instructions of a code array, each of which is without flaw, and where they start
pub record IsRead (pool : Pool) (max_locals at : ℕ) (code : List ℕ) (instrs : List (ℕ × Instr)) (starts : List Bool) : Type 0 where
  pub instrs_are : instrs ≡ instrs_in pool code
  pub flawless : filter_map (instr_flaw max_locals at) (decoded pool 0 0 code) ≡ []
  pub marked : (offset : ℕ) → is_marked starts offset ≡ is_start instrs offset
  pub inside : (offset : ℕ) → is_start instrs offset ≡ true → offset < length code

-- the first flaw of an instruction
abbrev pub IsStopped : Pool → ℕ → ℕ → List ℕ → Flaw → Type 0
IsStopped pool max_locals at code flaw =
    (others : List Flaw) × (filter_map (instr_flaw max_locals at) (decoded pool 0 0 code) ≡ flaw ∷ others)

-- the answer of a reader of an instruction, where the opcode stands at this offset of the file
abbrev pub placed_fail : Fail ℕ → ℕ → Fail Flaw
placed_fail (Refused number) offset = Refused (flaw_at number offset)
placed_fail NoMemory offset = NoMemory
