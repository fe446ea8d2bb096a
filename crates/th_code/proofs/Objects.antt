-- Objects and arrays, opcode by opcode.
use Rattle.std.proofs.Common.{◌≡◌, ◌≢◌, ℕ, ◌+◌, ◌-◌, ◌<◌, ◌≤◌, ◌||◌, not, Bool, true, false, List, [], ◌∷◌, Ok, Err, refl, sym, ap, ◌∙◌, arith}
use Rattle.std.specs.Prelude.{Option, Some, None, ◌==◌}
use Rattle.std.specs.List.{list_any}
use Rattle.th_syntax.specs.declared.opcode.TheConstants as opcode
use Rattle.th_syntax.specs.declared.instr.Instr.TheVariants.{New, NewArray, ANewArray, ArrayLength, Throw, CheckCast, InstanceOf, MonitorEnter, MonitorExit}
use Rattle.th_syntax.specs.declared.cause.TheConstants as cause
use Rattle.th_syntax.specs.declared.instr.Primitive.{Primitive}
use Rattle.th_syntax.specs.PoolChecks.{class_of}
use Rattle.th_code.proofs.Giving.{given_ok, given_err}
use Rattle.th_syntax.specs.Forms.{Placed, read}
use Rattle.th_syntax.specs.ClassBytes.{Pool, u1, u2}
use Rattle.th_syntax.specs.CodeBytes.{plain, rows, given, checked, class_name_numbers, class_or_array_numbers, element_of}
use Rattle.th_code.specs.Judged.{operand, judged, operands_of, named}
use Rattle.th_code.proofs.Operands.{judged_after, judged_stops, judged_plain}
use Rattle.th_code.proofs.Opcodes.{not_it}
use Rattle.th_code.proofs.Rows.{covers, all_in, sieved, refused_opcode}

pub row_new : (pool : Pool) (pc at : ℕ) (bytes : List ℕ) (p x b : ℕ) (u : List ℕ) (m : (List ℕ)) → operand u2 at bytes ≡ Ok (record { at = p; value = x }, b, u) → named (class_name_numbers) (class_of pool x) ≡ Ok m → judged (operands_of pool opcode.NEW pc) at bytes ≡ Ok (New m, b, u)
unfolding operands_of
row_new pool pc at bytes p x b u m e is = judged_after u2 (λ (v : Placed ℕ). given cause.CODE_SHAPE (class_of pool v.value) (λ (y : (List ℕ)). checked (New y) (class_name_numbers y))) at bytes (record { at = p; value = x }, b, u) e ∙ given_ok (class_name_numbers) (class_of pool x) New m b u is

pub refused_new : (pool : Pool) (pc at : ℕ) (bytes : List ℕ) (p x b : ℕ) (u : List ℕ) (n : ℕ) → operand u2 at bytes ≡ Ok (record { at = p; value = x }, b, u) → named (class_name_numbers) (class_of pool x) ≡ Err n → judged (operands_of pool opcode.NEW pc) at bytes ≡ Err n
unfolding operands_of
refused_new pool pc at bytes p x b u n e is = judged_after u2 (λ (v : Placed ℕ). given cause.CODE_SHAPE (class_of pool v.value) (λ (y : (List ℕ)). checked (New y) (class_name_numbers y))) at bytes (record { at = p; value = x }, b, u) e ∙ given_err (class_name_numbers) (class_of pool x) New n b u is

pub stop_new : (pool : Pool) (pc at : ℕ) (bytes : List ℕ) (n : ℕ) → operand u2 at bytes ≡ Err n → judged (operands_of pool opcode.NEW pc) at bytes ≡ Err n
unfolding operands_of
stop_new pool pc at bytes n e = judged_stops u2 (λ (v : Placed ℕ). given cause.CODE_SHAPE (class_of pool v.value) (λ (y : (List ℕ)). checked (New y) (class_name_numbers y))) at bytes n e

pub row_anewarray : (pool : Pool) (pc at : ℕ) (bytes : List ℕ) (p x b : ℕ) (u : List ℕ) (m : (List ℕ)) → operand u2 at bytes ≡ Ok (record { at = p; value = x }, b, u) → named (class_or_array_numbers) (class_of pool x) ≡ Ok m → judged (operands_of pool opcode.ANEWARRAY pc) at bytes ≡ Ok (ANewArray m, b, u)
unfolding operands_of
row_anewarray pool pc at bytes p x b u m e is = judged_after u2 (λ (v : Placed ℕ). given cause.CODE_SHAPE (class_of pool v.value) (λ (y : (List ℕ)). checked (ANewArray y) (class_or_array_numbers y))) at bytes (record { at = p; value = x }, b, u) e ∙ given_ok (class_or_array_numbers) (class_of pool x) ANewArray m b u is

pub refused_anewarray : (pool : Pool) (pc at : ℕ) (bytes : List ℕ) (p x b : ℕ) (u : List ℕ) (n : ℕ) → operand u2 at bytes ≡ Ok (record { at = p; value = x }, b, u) → named (class_or_array_numbers) (class_of pool x) ≡ Err n → judged (operands_of pool opcode.ANEWARRAY pc) at bytes ≡ Err n
unfolding operands_of
refused_anewarray pool pc at bytes p x b u n e is = judged_after u2 (λ (v : Placed ℕ). given cause.CODE_SHAPE (class_of pool v.value) (λ (y : (List ℕ)). checked (ANewArray y) (class_or_array_numbers y))) at bytes (record { at = p; value = x }, b, u) e ∙ given_err (class_or_array_numbers) (class_of pool x) ANewArray n b u is

pub stop_anewarray : (pool : Pool) (pc at : ℕ) (bytes : List ℕ) (n : ℕ) → operand u2 at bytes ≡ Err n → judged (operands_of pool opcode.ANEWARRAY pc) at bytes ≡ Err n
unfolding operands_of
stop_anewarray pool pc at bytes n e = judged_stops u2 (λ (v : Placed ℕ). given cause.CODE_SHAPE (class_of pool v.value) (λ (y : (List ℕ)). checked (ANewArray y) (class_or_array_numbers y))) at bytes n e

pub row_checkcast : (pool : Pool) (pc at : ℕ) (bytes : List ℕ) (p x b : ℕ) (u : List ℕ) (m : (List ℕ)) → operand u2 at bytes ≡ Ok (record { at = p; value = x }, b, u) → named (class_or_array_numbers) (class_of pool x) ≡ Ok m → judged (operands_of pool opcode.CHECKCAST pc) at bytes ≡ Ok (CheckCast m, b, u)
unfolding operands_of
row_checkcast pool pc at bytes p x b u m e is = judged_after u2 (λ (v : Placed ℕ). given cause.CODE_SHAPE (class_of pool v.value) (λ (y : (List ℕ)). checked (CheckCast y) (class_or_array_numbers y))) at bytes (record { at = p; value = x }, b, u) e ∙ given_ok (class_or_array_numbers) (class_of pool x) CheckCast m b u is

pub refused_checkcast : (pool : Pool) (pc at : ℕ) (bytes : List ℕ) (p x b : ℕ) (u : List ℕ) (n : ℕ) → operand u2 at bytes ≡ Ok (record { at = p; value = x }, b, u) → named (class_or_array_numbers) (class_of pool x) ≡ Err n → judged (operands_of pool opcode.CHECKCAST pc) at bytes ≡ Err n
unfolding operands_of
refused_checkcast pool pc at bytes p x b u n e is = judged_after u2 (λ (v : Placed ℕ). given cause.CODE_SHAPE (class_of pool v.value) (λ (y : (List ℕ)). checked (CheckCast y) (class_or_array_numbers y))) at bytes (record { at = p; value = x }, b, u) e ∙ given_err (class_or_array_numbers) (class_of pool x) CheckCast n b u is

pub stop_checkcast : (pool : Pool) (pc at : ℕ) (bytes : List ℕ) (n : ℕ) → operand u2 at bytes ≡ Err n → judged (operands_of pool opcode.CHECKCAST pc) at bytes ≡ Err n
unfolding operands_of
stop_checkcast pool pc at bytes n e = judged_stops u2 (λ (v : Placed ℕ). given cause.CODE_SHAPE (class_of pool v.value) (λ (y : (List ℕ)). checked (CheckCast y) (class_or_array_numbers y))) at bytes n e

pub row_instanceof : (pool : Pool) (pc at : ℕ) (bytes : List ℕ) (p x b : ℕ) (u : List ℕ) (m : (List ℕ)) → operand u2 at bytes ≡ Ok (record { at = p; value = x }, b, u) → named (class_or_array_numbers) (class_of pool x) ≡ Ok m → judged (operands_of pool opcode.INSTANCEOF pc) at bytes ≡ Ok (InstanceOf m, b, u)
unfolding operands_of
row_instanceof pool pc at bytes p x b u m e is = judged_after u2 (λ (v : Placed ℕ). given cause.CODE_SHAPE (class_of pool v.value) (λ (y : (List ℕ)). checked (InstanceOf y) (class_or_array_numbers y))) at bytes (record { at = p; value = x }, b, u) e ∙ given_ok (class_or_array_numbers) (class_of pool x) InstanceOf m b u is

pub refused_instanceof : (pool : Pool) (pc at : ℕ) (bytes : List ℕ) (p x b : ℕ) (u : List ℕ) (n : ℕ) → operand u2 at bytes ≡ Ok (record { at = p; value = x }, b, u) → named (class_or_array_numbers) (class_of pool x) ≡ Err n → judged (operands_of pool opcode.INSTANCEOF pc) at bytes ≡ Err n
unfolding operands_of
refused_instanceof pool pc at bytes p x b u n e is = judged_after u2 (λ (v : Placed ℕ). given cause.CODE_SHAPE (class_of pool v.value) (λ (y : (List ℕ)). checked (InstanceOf y) (class_or_array_numbers y))) at bytes (record { at = p; value = x }, b, u) e ∙ given_err (class_or_array_numbers) (class_of pool x) InstanceOf n b u is

pub stop_instanceof : (pool : Pool) (pc at : ℕ) (bytes : List ℕ) (n : ℕ) → operand u2 at bytes ≡ Err n → judged (operands_of pool opcode.INSTANCEOF pc) at bytes ≡ Err n
unfolding operands_of
stop_instanceof pool pc at bytes n e = judged_stops u2 (λ (v : Placed ℕ). given cause.CODE_SHAPE (class_of pool v.value) (λ (y : (List ℕ)). checked (InstanceOf y) (class_or_array_numbers y))) at bytes n e

pub row_arraylength : (pool : Pool) (pc at : ℕ) (bytes : List ℕ) → judged (operands_of pool opcode.ARRAYLENGTH pc) at bytes ≡ Ok (ArrayLength, at, bytes)
unfolding operands_of
row_arraylength pool pc at bytes = judged_plain ArrayLength at bytes

pub row_athrow : (pool : Pool) (pc at : ℕ) (bytes : List ℕ) → judged (operands_of pool opcode.ATHROW pc) at bytes ≡ Ok (Throw, at, bytes)
unfolding operands_of
row_athrow pool pc at bytes = judged_plain Throw at bytes

pub row_monitorenter : (pool : Pool) (pc at : ℕ) (bytes : List ℕ) → judged (operands_of pool opcode.MONITORENTER pc) at bytes ≡ Ok (MonitorEnter, at, bytes)
unfolding operands_of
row_monitorenter pool pc at bytes = judged_plain MonitorEnter at bytes

pub row_monitorexit : (pool : Pool) (pc at : ℕ) (bytes : List ℕ) → judged (operands_of pool opcode.MONITOREXIT pc) at bytes ≡ Ok (MonitorExit, at, bytes)
unfolding operands_of
row_monitorexit pool pc at bytes = judged_plain MonitorExit at bytes

element_ok : (o : Option Primitive) (element : Primitive) (at : ℕ) (bytes : List ℕ) → Some element ≡ o → judged (given cause.CODE_SHAPE o (λ (element : Primitive). plain (NewArray element))) at bytes ≡ Ok (NewArray element, at, bytes)
element_ok o element at bytes e = ap (λ (p : Option Primitive). judged (given cause.CODE_SHAPE p (λ (element : Primitive). plain (NewArray element))) at bytes) (sym e) ∙ judged_plain (NewArray element) at bytes

element_none : (o : Option Primitive) (at : ℕ) (bytes : List ℕ) → None ≡ o → judged (given cause.CODE_SHAPE o (λ (element : Primitive). plain (NewArray element))) at bytes ≡ Err cause.CODE_SHAPE
unfolding judged read
element_none o at bytes e = ap (λ (p : Option Primitive). judged (given cause.CODE_SHAPE p (λ (element : Primitive). plain (NewArray element))) at bytes) (sym e)

pub row_newarray : (pool : Pool) (pc at : ℕ) (bytes : List ℕ) (p x b : ℕ) (u : List ℕ) (element : Primitive) → operand u1 at bytes ≡ Ok (record { at = p; value = x }, b, u) → Some element ≡ element_of x → judged (operands_of pool opcode.NEWARRAY pc) at bytes ≡ Ok (NewArray element, b, u)
unfolding operands_of
row_newarray pool pc at bytes p x b u element e is = judged_after u1 (λ (v : Placed ℕ). given cause.CODE_SHAPE (element_of v.value) (λ (element : Primitive). plain (NewArray element))) at bytes (record { at = p; value = x }, b, u) e ∙ element_ok (element_of x) element b u is

pub refused_newarray : (pool : Pool) (pc at : ℕ) (bytes : List ℕ) (p x b : ℕ) (u : List ℕ) → operand u1 at bytes ≡ Ok (record { at = p; value = x }, b, u) → None ≡ element_of x → judged (operands_of pool opcode.NEWARRAY pc) at bytes ≡ Err cause.CODE_SHAPE
unfolding operands_of
refused_newarray pool pc at bytes p x b u e is = judged_after u1 (λ (v : Placed ℕ). given cause.CODE_SHAPE (element_of v.value) (λ (element : Primitive). plain (NewArray element))) at bytes (record { at = p; value = x }, b, u) e ∙ element_none (element_of x) b u is

pub stop_newarray : (pool : Pool) (pc at : ℕ) (bytes : List ℕ) (n : ℕ) → operand u1 at bytes ≡ Err n → judged (operands_of pool opcode.NEWARRAY pc) at bytes ≡ Err n
unfolding operands_of
stop_newarray pool pc at bytes n e = judged_stops u1 (λ (v : Placed ℕ). given cause.CODE_SHAPE (element_of v.value) (λ (element : Primitive). plain (NewArray element))) at bytes n e

abbrev listed : ℕ → Bool
listed k = list_any (λ n. n == k) (opcode.NEW ∷ opcode.NEWARRAY ∷ opcode.ANEWARRAY ∷ opcode.ARRAYLENGTH ∷ opcode.ATHROW ∷ opcode.CHECKCAST ∷ opcode.INSTANCEOF ∷ opcode.MONITORENTER ∷ opcode.MONITOREXIT ∷ [])

sieve : (pool : Pool) → all_in (opcode.INVOKEINTERFACE + 1) (opcode.MONITOREXIT - opcode.INVOKEINTERFACE) (λ k. not (covers (rows pool) k) || listed k) ≡ true
unfolding all_in
sieve pool = refl

not_listed : (code : ℕ) → code ≢ opcode.NEW → code ≢ opcode.NEWARRAY → code ≢ opcode.ANEWARRAY → code ≢ opcode.ARRAYLENGTH → code ≢ opcode.ATHROW → code ≢ opcode.CHECKCAST → code ≢ opcode.INSTANCEOF → code ≢ opcode.MONITORENTER → code ≢ opcode.MONITOREXIT → listed code ≡ false
not_listed code not_new not_newarray not_anewarray not_arraylength not_athrow not_checkcast not_instanceof not_monitorenter not_monitorexit = rw (not_it opcode.NEW code not_new, not_it opcode.NEWARRAY code not_newarray, not_it opcode.ANEWARRAY code not_anewarray, not_it opcode.ARRAYLENGTH code not_arraylength, not_it opcode.ATHROW code not_athrow, not_it opcode.CHECKCAST code not_checkcast, not_it opcode.INSTANCEOF code not_instanceof, not_it opcode.MONITORENTER code not_monitorenter, not_it opcode.MONITOREXIT code not_monitorexit) refl

pub others : (code : ℕ) (pool : Pool) (pc at : ℕ) (bytes : List ℕ) → opcode.INVOKEINTERFACE < code → code ≤ opcode.MONITOREXIT → code ≢ opcode.NEW → code ≢ opcode.NEWARRAY → code ≢ opcode.ANEWARRAY → code ≢ opcode.ARRAYLENGTH → code ≢ opcode.ATHROW → code ≢ opcode.CHECKCAST → code ≢ opcode.INSTANCEOF → code ≢ opcode.MONITORENTER → code ≢ opcode.MONITOREXIT → judged (operands_of pool code pc) at bytes ≡ Err cause.OPCODE
others code pool pc at bytes low high not_new not_newarray not_anewarray not_arraylength not_athrow not_checkcast not_instanceof not_monitorenter not_monitorexit =
    refused_opcode pool code pc at bytes (sieved (opcode.INVOKEINTERFACE + 1) (opcode.MONITOREXIT - opcode.INVOKEINTERFACE) (covers (rows pool)) listed (sieve pool) code low (omega arith) (not_listed code not_new not_newarray not_anewarray not_arraylength not_athrow not_checkcast not_instanceof not_monitorenter not_monitorexit))

pub ruleset arrays = (row_newarray, refused_newarray, stop_newarray)

pub ruleset objects = (row_new, refused_new, stop_new, row_anewarray, refused_anewarray, stop_anewarray, row_checkcast, refused_checkcast, stop_checkcast, row_instanceof, refused_instanceof, stop_instanceof, row_arraylength, row_athrow, row_monitorenter, row_monitorexit)
