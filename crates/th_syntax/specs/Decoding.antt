-- The instructions of a code array, and the checks that they fail (Java specification 4.9.1).
use Rattle.std.specs.Prelude.{ℕ, zero, suc, ◌+◌, ◌-◌, ◌==◌, ◌&&◌, min, nat_le, nat_lt, List, [], ◌∷◌, ◌++◌, Bool, true, false, Option, Some, None, Result, Ok, Err, if◌then◌else◌}
use Rattle.std.specs.List.{filter_map, list_all, list_any}
use Rattle.std.specs.Option.{option_map}
use Rattle.th_syntax.specs.declared.cause.TheConstants as cause
use Rattle.th_syntax.specs.declared.limit.TheConstants.{MOST_CODE_BYTES}
use Rattle.th_syntax.specs.declared.instr.Instr.{Instr}
use Rattle.th_syntax.specs.declared.instr.TheConstants.{OUTSIDE}
use Rattle.th_syntax.specs.declared.instr.Instr.TheVariants.{ILoad, LLoad, ALoad, IStore, LStore, AStore, Inc}
use Rattle.th_syntax.specs.declared.refusal.Flaw.{Flaw}
use Rattle.th_syntax.specs.Flaws.{flaw_at, unless}
use Rattle.th_syntax.specs.Flow.{leads_to}
use Rattle.th_syntax.specs.Forms.{Placed, Found, Stands, read}
use Rattle.th_syntax.specs.ClassBytes.{Pool, RawCode}
use Rattle.th_syntax.specs.CodeBytes.{Spelled, instr, flawed, instruction}

-- ---- the instructions

-- What stands at an opcode, and how many bytes it takes. Operands that go past the code make a flaw of
-- their own, the only one of the opcode. Behind an opcode that nothing can be read of, the reading goes
-- on at the next byte; what is found there stands later and is never the first.
abbrev pub spelled_by : ℕ → Result (Found Spelled) Flaw → Spelled × ℕ
spelled_by pc (Ok found) = (found.0, found.1 - pc)
spelled_by pc (Err flaw) = (flawed (if flaw.number == cause.TRUNCATED then cause.CODE_SHAPE else flaw.number) [], 1)

-- What the bytes spell, in order, each with its offset in the code: an instruction starts at the first
-- byte and at each byte behind an instruction. `inside` more bytes belong to the instruction before.
unfoldable pub decoded : Pool → ℕ → ℕ → List ℕ → List (Placed Spelled)
decoded pool inside pc [] = []
decoded pool zero pc (b ∷ bytes) =
    let one : Spelled × ℕ = spelled_by pc (read (instruction pool) pc (b ∷ bytes)) in
    record { at = pc; value = one.0 } ∷ decoded pool (one.1 - 1) (pc + 1) bytes
decoded pool (suc inside) pc (b ∷ bytes) = decoded pool inside (pc + 1) bytes

abbrev pub spelled_instr : ℕ → Spelled → Option (ℕ × Instr)
spelled_instr pc (instr i) = Some (pc, i)
spelled_instr pc (flawed number numbers) = None

-- an instruction, with its offset in the code, where it is one
abbrev pub instr_of : Placed Spelled → Option (ℕ × Instr)
instr_of one = spelled_instr one.at one.value

-- the instructions of a code array, each with its offset in the code
unfoldable pub instrs_in : Pool → List ℕ → List (ℕ × Instr)
instrs_in pool bytes = filter_map instr_of (decoded pool 0 0 bytes)

-- ---- the checks of one instruction

-- how many local variables there have to be for those that an instruction names
abbrev pub locals_named : Instr → ℕ
locals_named (ILoad index) = index + 1
locals_named (LLoad index) = index + 2
locals_named (ALoad index) = index + 1
locals_named (IStore index) = index + 1
locals_named (LStore index) = index + 2
locals_named (AStore index) = index + 1
locals_named (Inc index by) = index + 1
locals_named other = 0

-- the least of these numbers
abbrev pub least : ℕ → List ℕ → ℕ
least number [] = number
least number (other ∷ others) = min number (least other others)

-- The number of the first check that fails at an opcode, where one does. A local variable, or for a long
-- the next one, is below max_locals.
abbrev pub failing : ℕ → Spelled → Option ℕ
failing max_locals (instr i) = if nat_le (locals_named i) max_locals then None else Some cause.CODE_SHAPE
failing max_locals (flawed number numbers) = Some (least number numbers)

-- the flaw of an instruction, in a code array that begins at the offset `at` of the file
abbrev pub instr_flaw : ℕ → ℕ → Placed Spelled → Option Flaw
instr_flaw max_locals at one = option_map (λ number. flaw_at number (at + one.at)) (failing max_locals one.value)

-- ---- the checks of the flow, which are made where each instruction is without flaw

-- whether an instruction starts at this offset
abbrev pub is_start : List (ℕ × Instr) → ℕ → Bool
is_start instrs target = list_any (λ one. one.0 == target) instrs

-- the offset behind an instruction that these instructions follow; behind the last none starts
abbrev pub offset_behind : List (ℕ × Instr) → ℕ
offset_behind [] = OUTSIDE
offset_behind (next ∷ more) = next.0

-- An instruction that `more` follow leads to instructions alone: it jumps to none of its operands, and
-- doesn't go on past the last one.
abbrev pub flows_well : List (ℕ × Instr) → List (ℕ × Instr) → Instr → Bool
flows_well instrs more i = list_all (is_start instrs) (leads_to (offset_behind more ∷ []) i)

-- the flaws of the flow of these instructions, the last of a code array
abbrev pub flow_flaws_from : List (ℕ × Instr) → ℕ → List (ℕ × Instr) → List Flaw
flow_flaws_from instrs at [] = []
flow_flaws_from instrs at (one ∷ more) =
    unless (flows_well instrs more one.1) (flaw_at cause.CODE_SHAPE (at + one.0)) ++ flow_flaws_from instrs at more

unfoldable pub flow_flaws : ℕ → List (ℕ × Instr) → List Flaw
flow_flaws at instrs = flow_flaws_from instrs at instrs

-- ---- the checks of a code array

-- the flaws of the instructions, and where there are none those of the flow
abbrev pub or_else : List Flaw → List Flaw → List Flaw
or_else [] flow = flow
or_else (flaw ∷ flaws) flow = flaw ∷ flaws

-- The flaws of a code array that begins at the offset `at` of the file, of a method with so many local
-- variables.
unfoldable pub flaws_in : Pool → ℕ → ℕ → List ℕ → List Flaw
flaws_in pool max_locals at bytes =
    or_else (filter_map (instr_flaw max_locals at) (decoded pool 0 0 bytes)) (flow_flaws at (instrs_in pool bytes))

-- A length of 0, or above the limit, is refused at the length (Java specification 4.7.3); else the
-- instructions are looked at.
unfoldable pub code_flaws : Pool → RawCode → List Flaw
code_flaws pool code =
    if nat_lt 0 code.length.value && nat_le code.length.value MOST_CODE_BYTES
    then flaws_in pool code.max_locals code.bytes.at code.bytes.value
    else flaw_at cause.CODE_SHAPE code.length.at ∷ []

-- ---- the same in other words, as the laws say

-- The bytes are the spellings of these instructions, one behind the other, the first at the offset `pc`.
pub data AreSpelled (pool : Pool) : ℕ → List ℕ → List (ℕ × Instr) → Type 0 where
  none : {pc : ℕ} → AreSpelled pool pc [] []
  more : {pc : ℕ} {bytes : List ℕ} (i : Instr) (behind : ℕ) (others : List ℕ) (instrs : List (ℕ × Instr))
      → Stands (instruction pool) pc bytes (instr i) behind others → AreSpelled pool behind others instrs
      → AreSpelled pool pc bytes ((pc, i) ∷ instrs)
