-- Where branches lead.
use Rattle.std.proofs.Common.{◌≡◌, ◌≢◌, ℕ, ◌+◌, ◌<◌, ◌≤◌, List, Result, Ok, refl, sym, ap, ◌∙◌, arith}
use Rattle.std.specs.Prelude.{ℤ, pos, negsuc, ◌+ℤ◌, ◌<ℤ◌, min}
use Rattle.std.specs.Int.{w16, cast_signed}
use Rattle.std.proofs.lemmas.Int.{ints}
use Rattle.th_syntax.specs.declared.opcode.TheConstants as opcode
use Rattle.th_base.specs.declared.operation.Relation.TheVariants.{Eq, Ne, Lt, Ge, Gt, Le}
use Rattle.th_syntax.specs.declared.instr.Instr.{Instr}
use Rattle.th_syntax.specs.declared.instr.Instr.TheVariants.{IfZero, IfInts, IfSame, IfOther, IfNull, IfNotNull, Goto}
use Rattle.th_syntax.specs.declared.instr.TheConstants.{OUTSIDE}
use Rattle.th_syntax.specs.Forms.{Placed, Found}
use Rattle.th_syntax.specs.ClassBytes.{Pool, u2}
use Rattle.th_syntax.specs.CodeBytes.{plain, offset_of, target, jump}
use Rattle.th_code.specs.Judged.{operand, judged, operands_of}
use Rattle.th_code.proofs.Operands.{judged_after, judged_plain}

-- ---- offsets

-- a branch to before the code
pub target_before : (pc : ℕ) (by : ℤ) → (pos pc +ℤ by) <ℤ pos 0 → OUTSIDE ≡ target pc by
target_before pc by before = go (pos pc +ℤ by) before
  where
    go : (z : ℤ) → z <ℤ pos 0 → OUTSIDE ≡ offset_of z
    go (pos n) h = absurd (omega (arith, ints))
    go (negsuc n) h = refl

pub target_far : (pc : ℕ) (by : ℤ) → pos OUTSIDE <ℤ (pos pc +ℤ by) → OUTSIDE ≡ target pc by
target_far pc by beyond = go (pos pc +ℤ by) beyond
  where
    least : (n : ℕ) → OUTSIDE < n → OUTSIDE ≡ min n OUTSIDE
    least n lt = omega arith

    go : (z : ℤ) → pos OUTSIDE <ℤ z → OUTSIDE ≡ offset_of z
    go (pos n) h = least n (omega (arith, ints))
    go (negsuc n) h = refl

pub target_within : (pc : ℕ) (by : ℤ) (n : ℕ) → pos n ≡ (pos pc +ℤ by) → n ≤ OUTSIDE → n ≡ target pc by
target_within pc by n is le = least ∙ ap offset_of is
  where
    least : n ≡ min n OUTSIDE
    least = omega arith

pub ruleset targets = (target_before, target_far, target_within)

-- ---- branches by two bytes

-- a branch whose operand was read
jumped : (pc : ℕ) (make : ℕ → Instr) (at : ℕ) (bytes : List ℕ) (x : Placed ℕ) (b : ℕ) (u : List ℕ) (t : ℕ) → operand u2 at bytes ≡ Ok (x, b, u) → t ≡ target pc (cast_signed w16 x.value) → judged (jump pc make) at bytes ≡ Ok (make t, b, u)
jumped pc make at bytes x b u t e is =
    judged_after u2 (λ (by : Placed ℕ). plain (make (target pc (cast_signed w16 by.value)))) at bytes (x, b, u) e
    ∙ judged_plain (make (target pc (cast_signed w16 x.value))) b u ∙ ap (λ (k : ℕ). (let r : Result (Found Instr) ℕ = Ok (make k, b, u) in r)) (sym is)

pub jump_ifeq : (pool : Pool) (pc at : ℕ) (bytes : List ℕ) (x : Placed ℕ) (b : ℕ) (u : List ℕ) (t : ℕ) → operand u2 at bytes ≡ Ok (x, b, u) → t ≡ target pc (cast_signed w16 x.value) → judged (operands_of pool opcode.IFEQ pc) at bytes ≡ Ok (IfZero Eq t, b, u)
unfolding operands_of
jump_ifeq pool pc at bytes x b u t e is = jumped pc (λ k. IfZero Eq k) at bytes x b u t e is

pub jump_ifne : (pool : Pool) (pc at : ℕ) (bytes : List ℕ) (x : Placed ℕ) (b : ℕ) (u : List ℕ) (t : ℕ) → operand u2 at bytes ≡ Ok (x, b, u) → t ≡ target pc (cast_signed w16 x.value) → judged (operands_of pool opcode.IFNE pc) at bytes ≡ Ok (IfZero Ne t, b, u)
unfolding operands_of
jump_ifne pool pc at bytes x b u t e is = jumped pc (λ k. IfZero Ne k) at bytes x b u t e is

pub jump_iflt : (pool : Pool) (pc at : ℕ) (bytes : List ℕ) (x : Placed ℕ) (b : ℕ) (u : List ℕ) (t : ℕ) → operand u2 at bytes ≡ Ok (x, b, u) → t ≡ target pc (cast_signed w16 x.value) → judged (operands_of pool opcode.IFLT pc) at bytes ≡ Ok (IfZero Lt t, b, u)
unfolding operands_of
jump_iflt pool pc at bytes x b u t e is = jumped pc (λ k. IfZero Lt k) at bytes x b u t e is

pub jump_ifge : (pool : Pool) (pc at : ℕ) (bytes : List ℕ) (x : Placed ℕ) (b : ℕ) (u : List ℕ) (t : ℕ) → operand u2 at bytes ≡ Ok (x, b, u) → t ≡ target pc (cast_signed w16 x.value) → judged (operands_of pool opcode.IFGE pc) at bytes ≡ Ok (IfZero Ge t, b, u)
unfolding operands_of
jump_ifge pool pc at bytes x b u t e is = jumped pc (λ k. IfZero Ge k) at bytes x b u t e is

pub jump_ifgt : (pool : Pool) (pc at : ℕ) (bytes : List ℕ) (x : Placed ℕ) (b : ℕ) (u : List ℕ) (t : ℕ) → operand u2 at bytes ≡ Ok (x, b, u) → t ≡ target pc (cast_signed w16 x.value) → judged (operands_of pool opcode.IFGT pc) at bytes ≡ Ok (IfZero Gt t, b, u)
unfolding operands_of
jump_ifgt pool pc at bytes x b u t e is = jumped pc (λ k. IfZero Gt k) at bytes x b u t e is

pub jump_ifle : (pool : Pool) (pc at : ℕ) (bytes : List ℕ) (x : Placed ℕ) (b : ℕ) (u : List ℕ) (t : ℕ) → operand u2 at bytes ≡ Ok (x, b, u) → t ≡ target pc (cast_signed w16 x.value) → judged (operands_of pool opcode.IFLE pc) at bytes ≡ Ok (IfZero Le t, b, u)
unfolding operands_of
jump_ifle pool pc at bytes x b u t e is = jumped pc (λ k. IfZero Le k) at bytes x b u t e is

pub jump_if_icmpeq : (pool : Pool) (pc at : ℕ) (bytes : List ℕ) (x : Placed ℕ) (b : ℕ) (u : List ℕ) (t : ℕ) → operand u2 at bytes ≡ Ok (x, b, u) → t ≡ target pc (cast_signed w16 x.value) → judged (operands_of pool opcode.IF_ICMPEQ pc) at bytes ≡ Ok (IfInts Eq t, b, u)
unfolding operands_of
jump_if_icmpeq pool pc at bytes x b u t e is = jumped pc (λ k. IfInts Eq k) at bytes x b u t e is

pub jump_if_icmpne : (pool : Pool) (pc at : ℕ) (bytes : List ℕ) (x : Placed ℕ) (b : ℕ) (u : List ℕ) (t : ℕ) → operand u2 at bytes ≡ Ok (x, b, u) → t ≡ target pc (cast_signed w16 x.value) → judged (operands_of pool opcode.IF_ICMPNE pc) at bytes ≡ Ok (IfInts Ne t, b, u)
unfolding operands_of
jump_if_icmpne pool pc at bytes x b u t e is = jumped pc (λ k. IfInts Ne k) at bytes x b u t e is

pub jump_if_icmplt : (pool : Pool) (pc at : ℕ) (bytes : List ℕ) (x : Placed ℕ) (b : ℕ) (u : List ℕ) (t : ℕ) → operand u2 at bytes ≡ Ok (x, b, u) → t ≡ target pc (cast_signed w16 x.value) → judged (operands_of pool opcode.IF_ICMPLT pc) at bytes ≡ Ok (IfInts Lt t, b, u)
unfolding operands_of
jump_if_icmplt pool pc at bytes x b u t e is = jumped pc (λ k. IfInts Lt k) at bytes x b u t e is

pub jump_if_icmpge : (pool : Pool) (pc at : ℕ) (bytes : List ℕ) (x : Placed ℕ) (b : ℕ) (u : List ℕ) (t : ℕ) → operand u2 at bytes ≡ Ok (x, b, u) → t ≡ target pc (cast_signed w16 x.value) → judged (operands_of pool opcode.IF_ICMPGE pc) at bytes ≡ Ok (IfInts Ge t, b, u)
unfolding operands_of
jump_if_icmpge pool pc at bytes x b u t e is = jumped pc (λ k. IfInts Ge k) at bytes x b u t e is

pub jump_if_icmpgt : (pool : Pool) (pc at : ℕ) (bytes : List ℕ) (x : Placed ℕ) (b : ℕ) (u : List ℕ) (t : ℕ) → operand u2 at bytes ≡ Ok (x, b, u) → t ≡ target pc (cast_signed w16 x.value) → judged (operands_of pool opcode.IF_ICMPGT pc) at bytes ≡ Ok (IfInts Gt t, b, u)
unfolding operands_of
jump_if_icmpgt pool pc at bytes x b u t e is = jumped pc (λ k. IfInts Gt k) at bytes x b u t e is

pub jump_if_icmple : (pool : Pool) (pc at : ℕ) (bytes : List ℕ) (x : Placed ℕ) (b : ℕ) (u : List ℕ) (t : ℕ) → operand u2 at bytes ≡ Ok (x, b, u) → t ≡ target pc (cast_signed w16 x.value) → judged (operands_of pool opcode.IF_ICMPLE pc) at bytes ≡ Ok (IfInts Le t, b, u)
unfolding operands_of
jump_if_icmple pool pc at bytes x b u t e is = jumped pc (λ k. IfInts Le k) at bytes x b u t e is

pub jump_if_acmpeq : (pool : Pool) (pc at : ℕ) (bytes : List ℕ) (x : Placed ℕ) (b : ℕ) (u : List ℕ) (t : ℕ) → operand u2 at bytes ≡ Ok (x, b, u) → t ≡ target pc (cast_signed w16 x.value) → judged (operands_of pool opcode.IF_ACMPEQ pc) at bytes ≡ Ok (IfSame t, b, u)
unfolding operands_of
jump_if_acmpeq pool pc at bytes x b u t e is = jumped pc (λ k. IfSame k) at bytes x b u t e is

pub jump_if_acmpne : (pool : Pool) (pc at : ℕ) (bytes : List ℕ) (x : Placed ℕ) (b : ℕ) (u : List ℕ) (t : ℕ) → operand u2 at bytes ≡ Ok (x, b, u) → t ≡ target pc (cast_signed w16 x.value) → judged (operands_of pool opcode.IF_ACMPNE pc) at bytes ≡ Ok (IfOther t, b, u)
unfolding operands_of
jump_if_acmpne pool pc at bytes x b u t e is = jumped pc (λ k. IfOther k) at bytes x b u t e is

pub jump_ifnull : (pool : Pool) (pc at : ℕ) (bytes : List ℕ) (x : Placed ℕ) (b : ℕ) (u : List ℕ) (t : ℕ) → operand u2 at bytes ≡ Ok (x, b, u) → t ≡ target pc (cast_signed w16 x.value) → judged (operands_of pool opcode.IFNULL pc) at bytes ≡ Ok (IfNull t, b, u)
unfolding operands_of
jump_ifnull pool pc at bytes x b u t e is = jumped pc (λ k. IfNull k) at bytes x b u t e is

pub jump_ifnonnull : (pool : Pool) (pc at : ℕ) (bytes : List ℕ) (x : Placed ℕ) (b : ℕ) (u : List ℕ) (t : ℕ) → operand u2 at bytes ≡ Ok (x, b, u) → t ≡ target pc (cast_signed w16 x.value) → judged (operands_of pool opcode.IFNONNULL pc) at bytes ≡ Ok (IfNotNull t, b, u)
unfolding operands_of
jump_ifnonnull pool pc at bytes x b u t e is = jumped pc (λ k. IfNotNull k) at bytes x b u t e is

pub jump_goto : (pool : Pool) (pc at : ℕ) (bytes : List ℕ) (x : Placed ℕ) (b : ℕ) (u : List ℕ) (t : ℕ) → operand u2 at bytes ≡ Ok (x, b, u) → t ≡ target pc (cast_signed w16 x.value) → judged (operands_of pool opcode.GOTO pc) at bytes ≡ Ok (Goto t, b, u)
unfolding operands_of
jump_goto pool pc at bytes x b u t e is = jumped pc (λ k. Goto k) at bytes x b u t e is

past : (n code : ℕ) → n ≤ code → code ≢ n → n + 1 ≤ code
past n code le other = grind arith

-- the last of the branches
pub jump_last : (code : ℕ) (pool : Pool) (pc at : ℕ) (bytes : List ℕ) (x : Placed ℕ) (b : ℕ) (u : List ℕ) (t : ℕ) → opcode.IFEQ ≤ code → code ≤ opcode.GOTO → code ≢ opcode.IFEQ → code ≢ opcode.IFNE → code ≢ opcode.IFLT → code ≢ opcode.IFGE → code ≢ opcode.IFGT → code ≢ opcode.IFLE → code ≢ opcode.IF_ICMPEQ → code ≢ opcode.IF_ICMPNE → code ≢ opcode.IF_ICMPLT → code ≢ opcode.IF_ICMPGE → code ≢ opcode.IF_ICMPGT → code ≢ opcode.IF_ICMPLE → code ≢ opcode.IF_ACMPEQ → code ≢ opcode.IF_ACMPNE → operand u2 at bytes ≡ Ok (x, b, u) → t ≡ target pc (cast_signed w16 x.value) → judged (operands_of pool code pc) at bytes ≡ Ok (Goto t, b, u)
jump_last code pool pc at bytes x b u t low high not_ifeq not_ifne not_iflt not_ifge not_ifgt not_ifle not_if_icmpeq not_if_icmpne not_if_icmplt not_if_icmpge not_if_icmpgt not_if_icmple not_if_acmpeq not_if_acmpne e is =
    let from_ifne : opcode.IFNE ≤ code = past opcode.IFEQ code low not_ifeq in
    let from_iflt : opcode.IFLT ≤ code = past opcode.IFNE code from_ifne not_ifne in
    let from_ifge : opcode.IFGE ≤ code = past opcode.IFLT code from_iflt not_iflt in
    let from_ifgt : opcode.IFGT ≤ code = past opcode.IFGE code from_ifge not_ifge in
    let from_ifle : opcode.IFLE ≤ code = past opcode.IFGT code from_ifgt not_ifgt in
    let from_if_icmpeq : opcode.IF_ICMPEQ ≤ code = past opcode.IFLE code from_ifle not_ifle in
    let from_if_icmpne : opcode.IF_ICMPNE ≤ code = past opcode.IF_ICMPEQ code from_if_icmpeq not_if_icmpeq in
    let from_if_icmplt : opcode.IF_ICMPLT ≤ code = past opcode.IF_ICMPNE code from_if_icmpne not_if_icmpne in
    let from_if_icmpge : opcode.IF_ICMPGE ≤ code = past opcode.IF_ICMPLT code from_if_icmplt not_if_icmplt in
    let from_if_icmpgt : opcode.IF_ICMPGT ≤ code = past opcode.IF_ICMPGE code from_if_icmpge not_if_icmpge in
    let from_if_icmple : opcode.IF_ICMPLE ≤ code = past opcode.IF_ICMPGT code from_if_icmpgt not_if_icmpgt in
    let from_if_acmpeq : opcode.IF_ACMPEQ ≤ code = past opcode.IF_ICMPLE code from_if_icmple not_if_icmple in
    let from_if_acmpne : opcode.IF_ACMPNE ≤ code = past opcode.IF_ACMPEQ code from_if_acmpeq not_if_acmpeq in
    let from_goto : opcode.GOTO ≤ code = past opcode.IF_ACMPNE code from_if_acmpne not_if_acmpne in
    let last : code ≡ opcode.GOTO = omega arith in
    rw last (jump_goto pool pc at bytes x b u t e is)

pub ruleset jumps = (jump_ifeq, jump_ifne, jump_iflt, jump_ifge, jump_ifgt, jump_ifle, jump_if_icmpeq, jump_if_icmpne, jump_if_icmplt, jump_if_icmpge, jump_if_icmpgt, jump_if_icmple, jump_if_acmpeq, jump_if_acmpne, jump_last)
