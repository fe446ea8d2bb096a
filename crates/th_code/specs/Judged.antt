-- What an opcode and its operands are: an instruction, or the number of the first check that fails.
use Rattle.std.specs.Prelude.{◌≡◌, ℕ, ◌==◌, List, [], ◌∷◌, Option, Some, None, Result, Ok, Err, if◌then◌else◌}
use Rattle.th_base.specs.declared.fail.Fail.{Fail}
use Rattle.th_base.specs.declared.fail.Fail.TheVariants.{Refused, NoMemory}
use Rattle.th_syntax.specs.declared.cause.TheConstants as cause
use Rattle.th_syntax.specs.declared.instr.Instr.{Instr}
use Rattle.th_syntax.specs.declared.instr.MemberRef.{MemberRef}
use Rattle.th_syntax.specs.declared.refusal.Flaw.{Flaw}
use Rattle.th_syntax.specs.Forms.{Form, whole, Found, read}
use Rattle.th_syntax.specs.ClassBytes.{Pool}
use Rattle.th_syntax.specs.CodeBytes.{Spelled, instr, flawed, among, rows, wide_rows}
use Rattle.th_syntax.specs.Decoding.{least}
use Rattle.th_pool.specs.declared.place.Place.{Place}
use Rattle.th_pool.specs.declared.lookup.PoolMember.{PoolMember}

-- ---- operands

-- the number of an opcode's check that fails where its operands go past the code, or are refused
abbrev pub number_of_flaw : Flaw → ℕ
number_of_flaw flaw = if flaw.number == cause.TRUNCATED then cause.CODE_SHAPE else flaw.number

abbrev pub numbered : {A : Type 0} → Result (Found A) Flaw → Result (Found A) ℕ
numbered (Ok found) = Ok found
numbered (Err flaw) = Err (number_of_flaw flaw)

-- the next operand, or the number of the check that fails
unfoldable pub operand : {A : Type 0} → Form A → ℕ → List ℕ → Result (Found A) ℕ
operand form at bytes = numbered (read form at bytes)

-- what was taken, seen by `view`, is what is given, with the place behind it, or memory ran out
abbrev pub Takes : {X A : Type 0} → (X → A) → Result (X × Place) (Fail ℕ) → Result (Found A) ℕ → Type 0
Takes view (Ok x) given = given ≡ Ok (view x.0, x.1.at, x.1.rest.now)
Takes view (Err (Refused number)) given = given ≡ Err number
Takes view (Err NoMemory) given = Unit {0}

-- ---- what is behind an opcode

abbrev pub judge_spelled : Spelled → ℕ → List ℕ → Result (Found Instr) ℕ
judge_spelled (instr i) behind others = Ok (i, behind, others)
judge_spelled (flawed number numbers) behind others = Err (least number numbers)

abbrev pub judge : Result (Found Spelled) Flaw → Result (Found Instr) ℕ
judge (Ok found) = judge_spelled found.0 found.1 found.2
judge (Err flaw) = Err (number_of_flaw flaw)

-- the instruction that the bytes spell by a form, or the number of the first check that fails
unfoldable pub judged : Form Spelled → ℕ → List ℕ → Result (Found Instr) ℕ
judged form at bytes = judge (read form at bytes)

-- what stands behind an opcode at `pc`
unfoldable pub operands_of : Pool → ℕ → ℕ → Form Spelled
operands_of pool code pc = among (rows pool) code pc pc

-- what stands behind `wide` at `pc` and the opcode that it widens
unfoldable pub wide_of : ℕ → ℕ → Form Spelled
wide_of code pc = among wide_rows code pc pc

-- an instruction as it is
abbrev pub as_read : Instr → Instr
as_read i = i

-- ---- what the pool gives

-- the least of some numbers
abbrev pub least_of : List ℕ → Option ℕ
least_of [] = None
least_of (number ∷ numbers) = Some (least number numbers)

abbrev pub by_number : {A : Type 0} → A → Option ℕ → Result A ℕ
by_number x None = Ok x
by_number x (Some number) = Err number

-- what is named, where no check fails, or else the least number
abbrev pub named : {A : Type 0} → (A → List ℕ) → Option A → Result A ℕ
named numbers None = Err cause.CODE_SHAPE
named numbers (Some x) = by_number x (least_of (numbers x))

-- what was got is what is given, or memory ran out
abbrev pub Gets : {A : Type 0} → Result A (Fail ℕ) → Result A ℕ → Type 0
Gets (Ok x) given = given ≡ Ok x
Gets (Err (Refused number)) given = given ≡ Err number
Gets (Err NoMemory) given = Unit {0}

-- a member by its texts
abbrev pub ref_of : PoolMember → MemberRef
ref_of m = record { owner = m.owner.now; name = m.name.now; descriptor = m.descriptor.now }

-- the instruction of a form that takes no bytes, or the number of the first check that fails
abbrev pub said : Form Spelled → Result Instr ℕ
said (whole (instr i)) = Ok i
said (whole (flawed number numbers)) = Err (least number numbers)
said other = Err 0
