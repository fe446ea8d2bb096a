-- Accesses of fields and calls, opcode by opcode.
use Rattle.std.proofs.Common.{◌≡◌, ◌≢◌, ℕ, zero, suc, ◌+◌, ◌-◌, ◌<◌, subst, ◌≤◌, Bool, true, false, List, [], ◌∷◌, Ok, Err, sym, ap, ◌∙◌, arith}
use Rattle.std.specs.Prelude.{◌==◌}
use Rattle.th_syntax.specs.declared.opcode.TheConstants as opcode
use Rattle.th_syntax.specs.declared.instr.Instr.TheVariants.{GetStatic, PutStatic, GetField, PutField, InvokeVirtual, InvokeSpecial, InvokeStatic, InvokeInterface}
use Rattle.th_syntax.specs.declared.cause.TheConstants as cause
use Rattle.th_syntax.specs.declared.tag.TheConstants as tag
use Rattle.th_syntax.specs.declared.instr.MemberRef.{MemberRef}
use Rattle.th_syntax.specs.Flaws.{unless}
use Rattle.th_base.specs.declared.fail.Fail.{Fail}
use Rattle.th_base.specs.declared.fail.Fail.TheVariants.{Refused, NoMemory}
use Rattle.th_code.specs.Kinds.{call_numbers}
use Rattle.th_code.proofs.Giving.{given_ok, given_err}
use Rattle.th_syntax.specs.Forms.{◌>>=◌, Placed}
use Rattle.th_syntax.specs.ClassBytes.{Pool, u1, u2}
use Rattle.th_syntax.specs.CodeBytes.{given, checked, field_numbers, member_among, of_classes, of_interfaces, of_either, call}
use Rattle.th_code.specs.Judged.{operand, judged, operands_of, named, Gets, Takes, as_read}
use Rattle.th_code.proofs.Operands.{judged_after, judged_stops}

pub row_getstatic : (pool : Pool) (pc at : ℕ) (bytes : List ℕ) (p x b : ℕ) (u : List ℕ) (m : MemberRef) → operand u2 at bytes ≡ Ok (record { at = p; value = x }, b, u) → named (field_numbers) (member_among pool (tag.FIELD ∷ []) x) ≡ Ok m → judged (operands_of pool opcode.GETSTATIC pc) at bytes ≡ Ok (GetStatic m, b, u)
unfolding operands_of call_numbers
row_getstatic pool pc at bytes p x b u m e is = judged_after u2 (λ (v : Placed ℕ). given cause.CODE_SHAPE (member_among pool (tag.FIELD ∷ []) v.value) (λ (y : MemberRef). checked (GetStatic y) (field_numbers y))) at bytes (record { at = p; value = x }, b, u) e ∙ given_ok (field_numbers) (member_among pool (tag.FIELD ∷ []) x) GetStatic m b u is

pub refused_getstatic : (pool : Pool) (pc at : ℕ) (bytes : List ℕ) (p x b : ℕ) (u : List ℕ) (n : ℕ) → operand u2 at bytes ≡ Ok (record { at = p; value = x }, b, u) → named (field_numbers) (member_among pool (tag.FIELD ∷ []) x) ≡ Err n → judged (operands_of pool opcode.GETSTATIC pc) at bytes ≡ Err n
unfolding operands_of call_numbers
refused_getstatic pool pc at bytes p x b u n e is = judged_after u2 (λ (v : Placed ℕ). given cause.CODE_SHAPE (member_among pool (tag.FIELD ∷ []) v.value) (λ (y : MemberRef). checked (GetStatic y) (field_numbers y))) at bytes (record { at = p; value = x }, b, u) e ∙ given_err (field_numbers) (member_among pool (tag.FIELD ∷ []) x) GetStatic n b u is

pub stop_getstatic : (pool : Pool) (pc at : ℕ) (bytes : List ℕ) (n : ℕ) → operand u2 at bytes ≡ Err n → judged (operands_of pool opcode.GETSTATIC pc) at bytes ≡ Err n
unfolding operands_of call_numbers
stop_getstatic pool pc at bytes n e = judged_stops u2 (λ (v : Placed ℕ). given cause.CODE_SHAPE (member_among pool (tag.FIELD ∷ []) v.value) (λ (y : MemberRef). checked (GetStatic y) (field_numbers y))) at bytes n e

pub row_putstatic : (pool : Pool) (pc at : ℕ) (bytes : List ℕ) (p x b : ℕ) (u : List ℕ) (m : MemberRef) → operand u2 at bytes ≡ Ok (record { at = p; value = x }, b, u) → named (field_numbers) (member_among pool (tag.FIELD ∷ []) x) ≡ Ok m → judged (operands_of pool opcode.PUTSTATIC pc) at bytes ≡ Ok (PutStatic m, b, u)
unfolding operands_of call_numbers
row_putstatic pool pc at bytes p x b u m e is = judged_after u2 (λ (v : Placed ℕ). given cause.CODE_SHAPE (member_among pool (tag.FIELD ∷ []) v.value) (λ (y : MemberRef). checked (PutStatic y) (field_numbers y))) at bytes (record { at = p; value = x }, b, u) e ∙ given_ok (field_numbers) (member_among pool (tag.FIELD ∷ []) x) PutStatic m b u is

pub refused_putstatic : (pool : Pool) (pc at : ℕ) (bytes : List ℕ) (p x b : ℕ) (u : List ℕ) (n : ℕ) → operand u2 at bytes ≡ Ok (record { at = p; value = x }, b, u) → named (field_numbers) (member_among pool (tag.FIELD ∷ []) x) ≡ Err n → judged (operands_of pool opcode.PUTSTATIC pc) at bytes ≡ Err n
unfolding operands_of call_numbers
refused_putstatic pool pc at bytes p x b u n e is = judged_after u2 (λ (v : Placed ℕ). given cause.CODE_SHAPE (member_among pool (tag.FIELD ∷ []) v.value) (λ (y : MemberRef). checked (PutStatic y) (field_numbers y))) at bytes (record { at = p; value = x }, b, u) e ∙ given_err (field_numbers) (member_among pool (tag.FIELD ∷ []) x) PutStatic n b u is

pub stop_putstatic : (pool : Pool) (pc at : ℕ) (bytes : List ℕ) (n : ℕ) → operand u2 at bytes ≡ Err n → judged (operands_of pool opcode.PUTSTATIC pc) at bytes ≡ Err n
unfolding operands_of call_numbers
stop_putstatic pool pc at bytes n e = judged_stops u2 (λ (v : Placed ℕ). given cause.CODE_SHAPE (member_among pool (tag.FIELD ∷ []) v.value) (λ (y : MemberRef). checked (PutStatic y) (field_numbers y))) at bytes n e

pub row_getfield : (pool : Pool) (pc at : ℕ) (bytes : List ℕ) (p x b : ℕ) (u : List ℕ) (m : MemberRef) → operand u2 at bytes ≡ Ok (record { at = p; value = x }, b, u) → named (field_numbers) (member_among pool (tag.FIELD ∷ []) x) ≡ Ok m → judged (operands_of pool opcode.GETFIELD pc) at bytes ≡ Ok (GetField m, b, u)
unfolding operands_of call_numbers
row_getfield pool pc at bytes p x b u m e is = judged_after u2 (λ (v : Placed ℕ). given cause.CODE_SHAPE (member_among pool (tag.FIELD ∷ []) v.value) (λ (y : MemberRef). checked (GetField y) (field_numbers y))) at bytes (record { at = p; value = x }, b, u) e ∙ given_ok (field_numbers) (member_among pool (tag.FIELD ∷ []) x) GetField m b u is

pub refused_getfield : (pool : Pool) (pc at : ℕ) (bytes : List ℕ) (p x b : ℕ) (u : List ℕ) (n : ℕ) → operand u2 at bytes ≡ Ok (record { at = p; value = x }, b, u) → named (field_numbers) (member_among pool (tag.FIELD ∷ []) x) ≡ Err n → judged (operands_of pool opcode.GETFIELD pc) at bytes ≡ Err n
unfolding operands_of call_numbers
refused_getfield pool pc at bytes p x b u n e is = judged_after u2 (λ (v : Placed ℕ). given cause.CODE_SHAPE (member_among pool (tag.FIELD ∷ []) v.value) (λ (y : MemberRef). checked (GetField y) (field_numbers y))) at bytes (record { at = p; value = x }, b, u) e ∙ given_err (field_numbers) (member_among pool (tag.FIELD ∷ []) x) GetField n b u is

pub stop_getfield : (pool : Pool) (pc at : ℕ) (bytes : List ℕ) (n : ℕ) → operand u2 at bytes ≡ Err n → judged (operands_of pool opcode.GETFIELD pc) at bytes ≡ Err n
unfolding operands_of call_numbers
stop_getfield pool pc at bytes n e = judged_stops u2 (λ (v : Placed ℕ). given cause.CODE_SHAPE (member_among pool (tag.FIELD ∷ []) v.value) (λ (y : MemberRef). checked (GetField y) (field_numbers y))) at bytes n e

pub row_putfield : (pool : Pool) (pc at : ℕ) (bytes : List ℕ) (p x b : ℕ) (u : List ℕ) (m : MemberRef) → operand u2 at bytes ≡ Ok (record { at = p; value = x }, b, u) → named (field_numbers) (member_among pool (tag.FIELD ∷ []) x) ≡ Ok m → judged (operands_of pool opcode.PUTFIELD pc) at bytes ≡ Ok (PutField m, b, u)
unfolding operands_of call_numbers
row_putfield pool pc at bytes p x b u m e is = judged_after u2 (λ (v : Placed ℕ). given cause.CODE_SHAPE (member_among pool (tag.FIELD ∷ []) v.value) (λ (y : MemberRef). checked (PutField y) (field_numbers y))) at bytes (record { at = p; value = x }, b, u) e ∙ given_ok (field_numbers) (member_among pool (tag.FIELD ∷ []) x) PutField m b u is

pub refused_putfield : (pool : Pool) (pc at : ℕ) (bytes : List ℕ) (p x b : ℕ) (u : List ℕ) (n : ℕ) → operand u2 at bytes ≡ Ok (record { at = p; value = x }, b, u) → named (field_numbers) (member_among pool (tag.FIELD ∷ []) x) ≡ Err n → judged (operands_of pool opcode.PUTFIELD pc) at bytes ≡ Err n
unfolding operands_of call_numbers
refused_putfield pool pc at bytes p x b u n e is = judged_after u2 (λ (v : Placed ℕ). given cause.CODE_SHAPE (member_among pool (tag.FIELD ∷ []) v.value) (λ (y : MemberRef). checked (PutField y) (field_numbers y))) at bytes (record { at = p; value = x }, b, u) e ∙ given_err (field_numbers) (member_among pool (tag.FIELD ∷ []) x) PutField n b u is

pub stop_putfield : (pool : Pool) (pc at : ℕ) (bytes : List ℕ) (n : ℕ) → operand u2 at bytes ≡ Err n → judged (operands_of pool opcode.PUTFIELD pc) at bytes ≡ Err n
unfolding operands_of call_numbers
stop_putfield pool pc at bytes n e = judged_stops u2 (λ (v : Placed ℕ). given cause.CODE_SHAPE (member_among pool (tag.FIELD ∷ []) v.value) (λ (y : MemberRef). checked (PutField y) (field_numbers y))) at bytes n e

pub row_invokevirtual : (pool : Pool) (pc at : ℕ) (bytes : List ℕ) (p x b : ℕ) (u : List ℕ) (m : MemberRef) → operand u2 at bytes ≡ Ok (record { at = p; value = x }, b, u) → named (call_numbers false true) (member_among pool of_classes x) ≡ Ok m → judged (operands_of pool opcode.INVOKEVIRTUAL pc) at bytes ≡ Ok (InvokeVirtual m, b, u)
unfolding operands_of call_numbers
row_invokevirtual pool pc at bytes p x b u m e is = judged_after u2 (λ (v : Placed ℕ). given cause.CODE_SHAPE (member_among pool of_classes v.value) (λ (y : MemberRef). checked (InvokeVirtual y) (call_numbers false true y))) at bytes (record { at = p; value = x }, b, u) e ∙ given_ok (call_numbers false true) (member_among pool of_classes x) InvokeVirtual m b u is

pub refused_invokevirtual : (pool : Pool) (pc at : ℕ) (bytes : List ℕ) (p x b : ℕ) (u : List ℕ) (n : ℕ) → operand u2 at bytes ≡ Ok (record { at = p; value = x }, b, u) → named (call_numbers false true) (member_among pool of_classes x) ≡ Err n → judged (operands_of pool opcode.INVOKEVIRTUAL pc) at bytes ≡ Err n
unfolding operands_of call_numbers
refused_invokevirtual pool pc at bytes p x b u n e is = judged_after u2 (λ (v : Placed ℕ). given cause.CODE_SHAPE (member_among pool of_classes v.value) (λ (y : MemberRef). checked (InvokeVirtual y) (call_numbers false true y))) at bytes (record { at = p; value = x }, b, u) e ∙ given_err (call_numbers false true) (member_among pool of_classes x) InvokeVirtual n b u is

pub stop_invokevirtual : (pool : Pool) (pc at : ℕ) (bytes : List ℕ) (n : ℕ) → operand u2 at bytes ≡ Err n → judged (operands_of pool opcode.INVOKEVIRTUAL pc) at bytes ≡ Err n
unfolding operands_of call_numbers
stop_invokevirtual pool pc at bytes n e = judged_stops u2 (λ (v : Placed ℕ). given cause.CODE_SHAPE (member_among pool of_classes v.value) (λ (y : MemberRef). checked (InvokeVirtual y) (call_numbers false true y))) at bytes n e

pub row_invokespecial : (pool : Pool) (pc at : ℕ) (bytes : List ℕ) (p x b : ℕ) (u : List ℕ) (m : MemberRef) → operand u2 at bytes ≡ Ok (record { at = p; value = x }, b, u) → named (call_numbers true true) (member_among pool of_either x) ≡ Ok m → judged (operands_of pool opcode.INVOKESPECIAL pc) at bytes ≡ Ok (InvokeSpecial m, b, u)
unfolding operands_of call_numbers
row_invokespecial pool pc at bytes p x b u m e is = judged_after u2 (λ (v : Placed ℕ). given cause.CODE_SHAPE (member_among pool of_either v.value) (λ (y : MemberRef). checked (InvokeSpecial y) (call_numbers true true y))) at bytes (record { at = p; value = x }, b, u) e ∙ given_ok (call_numbers true true) (member_among pool of_either x) InvokeSpecial m b u is

pub refused_invokespecial : (pool : Pool) (pc at : ℕ) (bytes : List ℕ) (p x b : ℕ) (u : List ℕ) (n : ℕ) → operand u2 at bytes ≡ Ok (record { at = p; value = x }, b, u) → named (call_numbers true true) (member_among pool of_either x) ≡ Err n → judged (operands_of pool opcode.INVOKESPECIAL pc) at bytes ≡ Err n
unfolding operands_of call_numbers
refused_invokespecial pool pc at bytes p x b u n e is = judged_after u2 (λ (v : Placed ℕ). given cause.CODE_SHAPE (member_among pool of_either v.value) (λ (y : MemberRef). checked (InvokeSpecial y) (call_numbers true true y))) at bytes (record { at = p; value = x }, b, u) e ∙ given_err (call_numbers true true) (member_among pool of_either x) InvokeSpecial n b u is

pub stop_invokespecial : (pool : Pool) (pc at : ℕ) (bytes : List ℕ) (n : ℕ) → operand u2 at bytes ≡ Err n → judged (operands_of pool opcode.INVOKESPECIAL pc) at bytes ≡ Err n
unfolding operands_of call_numbers
stop_invokespecial pool pc at bytes n e = judged_stops u2 (λ (v : Placed ℕ). given cause.CODE_SHAPE (member_among pool of_either v.value) (λ (y : MemberRef). checked (InvokeSpecial y) (call_numbers true true y))) at bytes n e

pub row_invokestatic : (pool : Pool) (pc at : ℕ) (bytes : List ℕ) (p x b : ℕ) (u : List ℕ) (m : MemberRef) → operand u2 at bytes ≡ Ok (record { at = p; value = x }, b, u) → named (call_numbers false true) (member_among pool of_either x) ≡ Ok m → judged (operands_of pool opcode.INVOKESTATIC pc) at bytes ≡ Ok (InvokeStatic m, b, u)
unfolding operands_of call_numbers
row_invokestatic pool pc at bytes p x b u m e is = judged_after u2 (λ (v : Placed ℕ). given cause.CODE_SHAPE (member_among pool of_either v.value) (λ (y : MemberRef). checked (InvokeStatic y) (call_numbers false true y))) at bytes (record { at = p; value = x }, b, u) e ∙ given_ok (call_numbers false true) (member_among pool of_either x) InvokeStatic m b u is

pub refused_invokestatic : (pool : Pool) (pc at : ℕ) (bytes : List ℕ) (p x b : ℕ) (u : List ℕ) (n : ℕ) → operand u2 at bytes ≡ Ok (record { at = p; value = x }, b, u) → named (call_numbers false true) (member_among pool of_either x) ≡ Err n → judged (operands_of pool opcode.INVOKESTATIC pc) at bytes ≡ Err n
unfolding operands_of call_numbers
refused_invokestatic pool pc at bytes p x b u n e is = judged_after u2 (λ (v : Placed ℕ). given cause.CODE_SHAPE (member_among pool of_either v.value) (λ (y : MemberRef). checked (InvokeStatic y) (call_numbers false true y))) at bytes (record { at = p; value = x }, b, u) e ∙ given_err (call_numbers false true) (member_among pool of_either x) InvokeStatic n b u is

pub stop_invokestatic : (pool : Pool) (pc at : ℕ) (bytes : List ℕ) (n : ℕ) → operand u2 at bytes ≡ Err n → judged (operands_of pool opcode.INVOKESTATIC pc) at bytes ≡ Err n
unfolding operands_of call_numbers
stop_invokestatic pool pc at bytes n e = judged_stops u2 (λ (v : Placed ℕ). given cause.CODE_SHAPE (member_among pool of_either v.value) (λ (y : MemberRef). checked (InvokeStatic y) (call_numbers false true y))) at bytes n e

last_ok : (pool : Pool) (x z d : ℕ) (w : List ℕ) (sound : Bool) (m : MemberRef) → sound ≡ (z == 0) → named (call_numbers false sound) (member_among pool of_interfaces x) ≡ Ok m → judged (call pool of_interfaces false InvokeInterface x (unless (z == 0) cause.CODE_SHAPE)) d w ≡ Ok (InvokeInterface m, d, w)
unfolding call_numbers
last_ok pool x z d w sound m is e =
    ap (λ (s : Bool). judged (call pool of_interfaces false InvokeInterface x (unless s cause.CODE_SHAPE)) d w) (sym is) ∙ given_ok (call_numbers false sound) (member_among pool of_interfaces x) InvokeInterface m d w e

last_err : (pool : Pool) (x z d : ℕ) (w : List ℕ) (sound : Bool) (n : ℕ) → sound ≡ (z == 0) → named (call_numbers false sound) (member_among pool of_interfaces x) ≡ Err n → judged (call pool of_interfaces false InvokeInterface x (unless (z == 0) cause.CODE_SHAPE)) d w ≡ Err n
unfolding call_numbers
last_err pool x z d w sound n is e =
    ap (λ (s : Bool). judged (call pool of_interfaces false InvokeInterface x (unless s cause.CODE_SHAPE)) d w) (sym is) ∙ given_err (call_numbers false sound) (member_among pool of_interfaces x) InvokeInterface n d w e

last_call : (code : ℕ) → opcode.INVOKEVIRTUAL ≤ code → code ≤ opcode.INVOKESTATIC → code ≢ opcode.INVOKEVIRTUAL → code ≢ opcode.INVOKESPECIAL → code ≡ opcode.INVOKESTATIC
last_call code low high n2 n3 = grind arith

pub static_read : (pool : Pool) (pc at : ℕ) (bytes : List ℕ) (code p x b : ℕ) (u : List ℕ) (m : MemberRef) → opcode.INVOKEVIRTUAL ≤ code → code ≤ opcode.INVOKESTATIC → code ≢ opcode.INVOKEVIRTUAL → code ≢ opcode.INVOKESPECIAL → operand u2 at bytes ≡ Ok (record { at = p; value = x }, b, u) → named (call_numbers false true) (member_among pool of_either x) ≡ Ok m → judged (operands_of pool code pc) at bytes ≡ Ok (InvokeStatic m, b, u)
static_read pool pc at bytes code p x b u m low high n2 n3 e is = rw (last_call code low high n2 n3) (row_invokestatic pool pc at bytes p x b u m e is)

pub static_refused : (pool : Pool) (pc at : ℕ) (bytes : List ℕ) (code p x b : ℕ) (u : List ℕ) (n : ℕ) → opcode.INVOKEVIRTUAL ≤ code → code ≤ opcode.INVOKESTATIC → code ≢ opcode.INVOKEVIRTUAL → code ≢ opcode.INVOKESPECIAL → operand u2 at bytes ≡ Ok (record { at = p; value = x }, b, u) → named (call_numbers false true) (member_among pool of_either x) ≡ Err n → judged (operands_of pool code pc) at bytes ≡ Err n
static_refused pool pc at bytes code p x b u n low high n2 n3 e is = rw (last_call code low high n2 n3) (refused_invokestatic pool pc at bytes p x b u n e is)

last_access : (code : ℕ) → opcode.GETSTATIC ≤ code → code ≤ opcode.PUTFIELD → code ≢ opcode.GETSTATIC → code ≢ opcode.PUTSTATIC → code ≢ opcode.GETFIELD → code ≡ opcode.PUTFIELD
last_access code low high n2 n3 n4 = grind arith

pub put_field : (pool : Pool) (pc at : ℕ) (bytes : List ℕ) (code : ℕ) (p x b : ℕ) (u : List ℕ) (m : MemberRef) → opcode.GETSTATIC ≤ code → code ≤ opcode.PUTFIELD → code ≢ opcode.GETSTATIC → code ≢ opcode.PUTSTATIC → code ≢ opcode.GETFIELD → operand u2 at bytes ≡ Ok (record { at = p; value = x }, b, u) → named field_numbers (member_among pool (tag.FIELD ∷ []) x) ≡ Ok m → judged (operands_of pool code pc) at bytes ≡ Ok (PutField m, b, u)
put_field pool pc at bytes code p x b u m low high n0 n1 n2 e is = rw (last_access code low high n0 n1 n2) (row_putfield pool pc at bytes p x b u m e is)

upto4 : (P : ℕ → Type 0) → P 0 → P 1 → P 2 → P 3 → (j : ℕ) → j < 4 → P j
upto4 P a b c d zero lt = a
upto4 P a b c d (suc zero) lt = b
upto4 P a b c d (suc (suc zero)) lt = c
upto4 P a b c d (suc (suc (suc zero))) lt = d
upto4 P a b c d (suc (suc (suc (suc j)))) lt = absurd (omega arith)

pub access_stops : (pool : Pool) (pc at : ℕ) (bytes : List ℕ) (code n : ℕ) → opcode.GETSTATIC ≤ code → code ≤ opcode.PUTFIELD → operand u2 at bytes ≡ Err n → judged (operands_of pool code pc) at bytes ≡ Err n
access_stops pool pc at bytes code n low high e =
    let is : opcode.GETSTATIC + (code - opcode.GETSTATIC) ≡ code = omega arith in
    subst (λ (k : ℕ). judged (operands_of pool k pc) at bytes ≡ Err n) is
    (upto4 (λ k. judged (operands_of pool (opcode.GETSTATIC + k) pc) at bytes ≡ Err n) (stop_getstatic pool pc at bytes n e) (stop_putstatic pool pc at bytes n e) (stop_getfield pool pc at bytes n e) (stop_putfield pool pc at bytes n e) (code - opcode.GETSTATIC) (omega arith))

pub access_refused : (pool : Pool) (pc at : ℕ) (bytes : List ℕ) (code p x b : ℕ) (u : List ℕ) (n : ℕ) → opcode.GETSTATIC ≤ code → code ≤ opcode.PUTFIELD → operand u2 at bytes ≡ Ok (record { at = p; value = x }, b, u) → named field_numbers (member_among pool (tag.FIELD ∷ []) x) ≡ Err n → judged (operands_of pool code pc) at bytes ≡ Err n
access_refused pool pc at bytes code p x b u n low high e f =
    let is : opcode.GETSTATIC + (code - opcode.GETSTATIC) ≡ code = omega arith in
    subst (λ (k : ℕ). judged (operands_of pool k pc) at bytes ≡ Err n) is
    (upto4 (λ k. judged (operands_of pool (opcode.GETSTATIC + k) pc) at bytes ≡ Err n) (refused_getstatic pool pc at bytes p x b u n e f) (refused_putstatic pool pc at bytes p x b u n e f) (refused_getfield pool pc at bytes p x b u n e f) (refused_putfield pool pc at bytes p x b u n e f) (code - opcode.GETSTATIC) (omega arith))

pub stop_invokeinterface : (pool : Pool) (pc at : ℕ) (bytes : List ℕ) (n : ℕ) → operand u2 at bytes ≡ Err n → judged (operands_of pool opcode.INVOKEINTERFACE pc) at bytes ≡ Err n
unfolding operands_of
stop_invokeinterface pool pc at bytes n e = judged_stops u2 (λ (v : Placed ℕ). u1 >>= λ (w : Placed ℕ). u1 >>= λ (z : Placed ℕ). call pool of_interfaces false InvokeInterface v.value (unless (z.value == 0) cause.CODE_SHAPE)) at bytes n e

upto3 : (P : ℕ → Type 0) → P 0 → P 1 → P 2 → (j : ℕ) → j < 3 → P j
upto3 P a b c zero lt = a
upto3 P a b c (suc zero) lt = b
upto3 P a b c (suc (suc zero)) lt = c
upto3 P a b c (suc (suc (suc j))) lt = absurd (omega arith)

pub call_stops : (pool : Pool) (pc at : ℕ) (bytes : List ℕ) (code n : ℕ) → opcode.INVOKEVIRTUAL ≤ code → code ≤ opcode.INVOKESTATIC → operand u2 at bytes ≡ Err n → judged (operands_of pool code pc) at bytes ≡ Err n
call_stops pool pc at bytes code n low high e =
    let is : opcode.INVOKEVIRTUAL + (code - opcode.INVOKEVIRTUAL) ≡ code = omega arith in
    subst (λ (k : ℕ). judged (operands_of pool k pc) at bytes ≡ Err n) is
    (upto3 (λ k. judged (operands_of pool (opcode.INVOKEVIRTUAL + k) pc) at bytes ≡ Err n) (stop_invokevirtual pool pc at bytes n e) (stop_invokespecial pool pc at bytes n e) (stop_invokestatic pool pc at bytes n e) (code - opcode.INVOKEVIRTUAL) (omega arith))

pub count_stops : (pool : Pool) (pc at : ℕ) (bytes : List ℕ) (p x b : ℕ) (u : List ℕ) (n : ℕ) → operand u2 at bytes ≡ Ok (record { at = p; value = x }, b, u) → operand u1 b u ≡ Err n → judged (operands_of pool opcode.INVOKEINTERFACE pc) at bytes ≡ Err n
unfolding operands_of
count_stops pool pc at bytes p x b u n e f = judged_after u2 (λ (v : Placed ℕ). u1 >>= λ (w : Placed ℕ). u1 >>= λ (z : Placed ℕ). call pool of_interfaces false InvokeInterface v.value (unless (z.value == 0) cause.CODE_SHAPE)) at bytes (record { at = p; value = x }, b, u) e ∙ judged_stops u1 (λ (w : Placed ℕ). u1 >>= λ (z : Placed ℕ). call pool of_interfaces false InvokeInterface x (unless (z.value == 0) cause.CODE_SHAPE)) b u n f

pub last_stops : (pool : Pool) (pc at : ℕ) (bytes : List ℕ) (p x b : ℕ) (u : List ℕ) (q y c : ℕ) (v : List ℕ) (n : ℕ) → operand u2 at bytes ≡ Ok (record { at = p; value = x }, b, u) → operand u1 b u ≡ Ok (record { at = q; value = y }, c, v) → operand u1 c v ≡ Err n → judged (operands_of pool opcode.INVOKEINTERFACE pc) at bytes ≡ Err n
unfolding operands_of
last_stops pool pc at bytes p x b u q y c v n e f g = judged_after u2 (λ (v : Placed ℕ). u1 >>= λ (w : Placed ℕ). u1 >>= λ (z : Placed ℕ). call pool of_interfaces false InvokeInterface v.value (unless (z.value == 0) cause.CODE_SHAPE)) at bytes (record { at = p; value = x }, b, u) e ∙ judged_after u1 (λ (w : Placed ℕ). u1 >>= λ (z : Placed ℕ). call pool of_interfaces false InvokeInterface x (unless (z.value == 0) cause.CODE_SHAPE)) b u (record { at = q; value = y }, c, v) f ∙ judged_stops u1 (λ (z : Placed ℕ). call pool of_interfaces false InvokeInterface x (unless (z.value == 0) cause.CODE_SHAPE)) c v n g

pub interface_refused : (pool : Pool) (pc at : ℕ) (bytes : List ℕ) (p x b : ℕ) (u : List ℕ) (q y c : ℕ) (v : List ℕ) (r z d : ℕ) (w : List ℕ) (sound : Bool) (n : ℕ) → operand u2 at bytes ≡ Ok (record { at = p; value = x }, b, u) → operand u1 b u ≡ Ok (record { at = q; value = y }, c, v) → operand u1 c v ≡ Ok (record { at = r; value = z }, d, w) → sound ≡ (z == 0) → named (call_numbers false sound) (member_among pool of_interfaces x) ≡ Err n → judged (operands_of pool opcode.INVOKEINTERFACE pc) at bytes ≡ Err n
unfolding operands_of
interface_refused pool pc at bytes p x b u q y c v r z d w sound n e f g is h = judged_after u2 (λ (v : Placed ℕ). u1 >>= λ (w : Placed ℕ). u1 >>= λ (z : Placed ℕ). call pool of_interfaces false InvokeInterface v.value (unless (z.value == 0) cause.CODE_SHAPE)) at bytes (record { at = p; value = x }, b, u) e ∙ judged_after u1 (λ (w : Placed ℕ). u1 >>= λ (z : Placed ℕ). call pool of_interfaces false InvokeInterface x (unless (z.value == 0) cause.CODE_SHAPE)) b u (record { at = q; value = y }, c, v) f ∙ judged_after u1 (λ (z : Placed ℕ). call pool of_interfaces false InvokeInterface x (unless (z.value == 0) cause.CODE_SHAPE)) c v (record { at = r; value = z }, d, w) g ∙ last_err pool x z d w sound n is h

pub interface_read : (pool : Pool) (pc at : ℕ) (bytes : List ℕ) (p x b : ℕ) (u : List ℕ) (q y c : ℕ) (v : List ℕ) (r z d : ℕ) (w : List ℕ) (sound : Bool) (m : MemberRef) → operand u2 at bytes ≡ Ok (record { at = p; value = x }, b, u) → operand u1 b u ≡ Ok (record { at = q; value = y }, c, v) → operand u1 c v ≡ Ok (record { at = r; value = z }, d, w) → sound ≡ (z == 0) → named (call_numbers false sound) (member_among pool of_interfaces x) ≡ Ok m → judged (operands_of pool opcode.INVOKEINTERFACE pc) at bytes ≡ Ok (InvokeInterface m, d, w)
unfolding operands_of
interface_read pool pc at bytes p x b u q y c v r z d w sound m e f g is h = judged_after u2 (λ (v : Placed ℕ). u1 >>= λ (w : Placed ℕ). u1 >>= λ (z : Placed ℕ). call pool of_interfaces false InvokeInterface v.value (unless (z.value == 0) cause.CODE_SHAPE)) at bytes (record { at = p; value = x }, b, u) e ∙ judged_after u1 (λ (w : Placed ℕ). u1 >>= λ (z : Placed ℕ). call pool of_interfaces false InvokeInterface x (unless (z.value == 0) cause.CODE_SHAPE)) b u (record { at = q; value = y }, c, v) f ∙ judged_after u1 (λ (z : Placed ℕ). call pool of_interfaces false InvokeInterface x (unless (z.value == 0) cause.CODE_SHAPE)) c v (record { at = r; value = z }, d, w) g ∙ last_ok pool x z d w sound m is h

pub interface_fails : (pool : Pool) (pc at : ℕ) (bytes : List ℕ) (p x b : ℕ) (u : List ℕ) (q y c : ℕ) (v : List ℕ) (r z d : ℕ) (w : List ℕ) (sound : Bool) (fail : Fail ℕ) → operand u2 at bytes ≡ Ok (record { at = p; value = x }, b, u) → operand u1 b u ≡ Ok (record { at = q; value = y }, c, v) → operand u1 c v ≡ Ok (record { at = r; value = z }, d, w) → sound ≡ (z == 0) → Gets (Err fail) (named (call_numbers false sound) (member_among pool of_interfaces x)) → Takes as_read (Err fail) (judged (operands_of pool opcode.INVOKEINTERFACE pc) at bytes)
interface_fails pool pc at bytes p x b u q y c v r z d w sound (Refused n) e f g is h = interface_refused pool pc at bytes p x b u q y c v r z d w sound n e f g is h
interface_fails pool pc at bytes p x b u q y c v r z d w sound NoMemory e f g is h = tt

pub ruleset accesses = (row_getstatic, row_putstatic, row_getfield, put_field, access_stops, access_refused)

pub ruleset calls = (row_invokevirtual, refused_invokevirtual, row_invokespecial, refused_invokespecial, static_read, static_refused, call_stops)

pub ruleset interface_calls = (stop_invokeinterface, count_stops, last_stops, interface_refused, interface_read)
