-- Constants, opcode by opcode.
use Rattle.std.proofs.Common.{◌≡◌, ◌≢◌, ℕ, ◌+◌, ◌≤◌, ◌||◌, not, Bool, true, false, List, [], ◌∷◌, Ok, Err, refl, ◌∙◌, arith}
use Rattle.std.specs.Prelude.{◌==◌}
use Rattle.std.specs.Int.{w8, w16, cast_signed}
use Rattle.std.specs.List.{list_any}
use Rattle.th_syntax.specs.declared.cause.TheConstants as cause
use Rattle.th_syntax.specs.declared.opcode.TheConstants as opcode
use Rattle.th_syntax.specs.declared.instr.Instr.{Instr}
use Rattle.th_syntax.specs.declared.instr.Instr.TheVariants.{Nop, Null, Int}
use Rattle.th_syntax.specs.Forms.{Placed}
use Rattle.th_syntax.specs.ClassBytes.{Pool, u1, u2}
use Rattle.th_syntax.specs.CodeBytes.{plain, load, load_wide, rows}
use Rattle.th_code.specs.Judged.{operand, judged, said, operands_of}
use Rattle.th_code.specs.Opcodes.{is_within, small_constants}
use Rattle.th_code.proofs.Operands.{judged_after, judged_stops, judged_plain}
use Rattle.th_code.proofs.Opcodes.{not_it}
use Rattle.th_code.proofs.Rows.{covers, all_in, sieved, refused_opcode, bare_read}
use Rattle.th_code.proofs.Loaded.{load_ok, load_err, wide_ok, wide_err}

pub row_nop : (pool : Pool) (pc at : ℕ) (bytes : List ℕ) → judged (operands_of pool opcode.NOP pc) at bytes ≡ Ok (Nop, at, bytes)
unfolding operands_of
row_nop pool pc at bytes = judged_plain Nop at bytes

pub row_aconst_null : (pool : Pool) (pc at : ℕ) (bytes : List ℕ) → judged (operands_of pool opcode.ACONST_NULL pc) at bytes ≡ Ok (Null, at, bytes)
unfolding operands_of
row_aconst_null pool pc at bytes = judged_plain Null at bytes

pub row_bipush : (pool : Pool) (pc at : ℕ) (bytes : List ℕ) (p x b : ℕ) (u : List ℕ) → operand u1 at bytes ≡ Ok (record { at = p; value = x }, b, u) → judged (operands_of pool opcode.BIPUSH pc) at bytes ≡ Ok (Int (cast_signed w8 x), b, u)
unfolding operands_of
row_bipush pool pc at bytes p x b u e = judged_after u1 (λ (v : Placed ℕ). plain (Int (cast_signed w8 v.value))) at bytes (record { at = p; value = x }, b, u) e ∙ judged_plain (Int (cast_signed w8 x)) b u

pub stop_bipush : (pool : Pool) (pc at : ℕ) (bytes : List ℕ) (n : ℕ) → operand u1 at bytes ≡ Err n → judged (operands_of pool opcode.BIPUSH pc) at bytes ≡ Err n
unfolding operands_of
stop_bipush pool pc at bytes n e = judged_stops u1 (λ (v : Placed ℕ). plain (Int (cast_signed w8 v.value))) at bytes n e

pub row_sipush : (pool : Pool) (pc at : ℕ) (bytes : List ℕ) (p x b : ℕ) (u : List ℕ) → operand u2 at bytes ≡ Ok (record { at = p; value = x }, b, u) → judged (operands_of pool opcode.SIPUSH pc) at bytes ≡ Ok (Int (cast_signed w16 x), b, u)
unfolding operands_of
row_sipush pool pc at bytes p x b u e = judged_after u2 (λ (v : Placed ℕ). plain (Int (cast_signed w16 v.value))) at bytes (record { at = p; value = x }, b, u) e ∙ judged_plain (Int (cast_signed w16 x)) b u

pub stop_sipush : (pool : Pool) (pc at : ℕ) (bytes : List ℕ) (n : ℕ) → operand u2 at bytes ≡ Err n → judged (operands_of pool opcode.SIPUSH pc) at bytes ≡ Err n
unfolding operands_of
stop_sipush pool pc at bytes n e = judged_stops u2 (λ (v : Placed ℕ). plain (Int (cast_signed w16 v.value))) at bytes n e

pub row_ldc : (pool : Pool) (pc at : ℕ) (bytes : List ℕ) (p x b : ℕ) (u : List ℕ) (i : Instr) → operand u1 at bytes ≡ Ok (record { at = p; value = x }, b, u) → said (load pool x) ≡ Ok i → judged (operands_of pool opcode.LDC pc) at bytes ≡ Ok (i, b, u)
unfolding operands_of
row_ldc pool pc at bytes p x b u i e is = judged_after u1 (λ (v : Placed ℕ). load pool v.value) at bytes (record { at = p; value = x }, b, u) e ∙ load_ok pool x i b u is

pub refused_ldc : (pool : Pool) (pc at : ℕ) (bytes : List ℕ) (p x b : ℕ) (u : List ℕ) (n : ℕ) → operand u1 at bytes ≡ Ok (record { at = p; value = x }, b, u) → said (load pool x) ≡ Err n → judged (operands_of pool opcode.LDC pc) at bytes ≡ Err n
unfolding operands_of
refused_ldc pool pc at bytes p x b u n e is = judged_after u1 (λ (v : Placed ℕ). load pool v.value) at bytes (record { at = p; value = x }, b, u) e ∙ load_err pool x n b u is

pub stop_ldc : (pool : Pool) (pc at : ℕ) (bytes : List ℕ) (n : ℕ) → operand u1 at bytes ≡ Err n → judged (operands_of pool opcode.LDC pc) at bytes ≡ Err n
unfolding operands_of
stop_ldc pool pc at bytes n e = judged_stops u1 (λ (v : Placed ℕ). load pool v.value) at bytes n e

pub row_ldc_w : (pool : Pool) (pc at : ℕ) (bytes : List ℕ) (p x b : ℕ) (u : List ℕ) (i : Instr) → operand u2 at bytes ≡ Ok (record { at = p; value = x }, b, u) → said (load pool x) ≡ Ok i → judged (operands_of pool opcode.LDC_W pc) at bytes ≡ Ok (i, b, u)
unfolding operands_of
row_ldc_w pool pc at bytes p x b u i e is = judged_after u2 (λ (v : Placed ℕ). load pool v.value) at bytes (record { at = p; value = x }, b, u) e ∙ load_ok pool x i b u is

pub refused_ldc_w : (pool : Pool) (pc at : ℕ) (bytes : List ℕ) (p x b : ℕ) (u : List ℕ) (n : ℕ) → operand u2 at bytes ≡ Ok (record { at = p; value = x }, b, u) → said (load pool x) ≡ Err n → judged (operands_of pool opcode.LDC_W pc) at bytes ≡ Err n
unfolding operands_of
refused_ldc_w pool pc at bytes p x b u n e is = judged_after u2 (λ (v : Placed ℕ). load pool v.value) at bytes (record { at = p; value = x }, b, u) e ∙ load_err pool x n b u is

pub stop_ldc_w : (pool : Pool) (pc at : ℕ) (bytes : List ℕ) (n : ℕ) → operand u2 at bytes ≡ Err n → judged (operands_of pool opcode.LDC_W pc) at bytes ≡ Err n
unfolding operands_of
stop_ldc_w pool pc at bytes n e = judged_stops u2 (λ (v : Placed ℕ). load pool v.value) at bytes n e

pub row_ldc2_w : (pool : Pool) (pc at : ℕ) (bytes : List ℕ) (p x b : ℕ) (u : List ℕ) (i : Instr) → operand u2 at bytes ≡ Ok (record { at = p; value = x }, b, u) → said (load_wide pool x) ≡ Ok i → judged (operands_of pool opcode.LDC2_W pc) at bytes ≡ Ok (i, b, u)
unfolding operands_of
row_ldc2_w pool pc at bytes p x b u i e is = judged_after u2 (λ (v : Placed ℕ). load_wide pool v.value) at bytes (record { at = p; value = x }, b, u) e ∙ wide_ok pool x i b u is

pub refused_ldc2_w : (pool : Pool) (pc at : ℕ) (bytes : List ℕ) (p x b : ℕ) (u : List ℕ) (n : ℕ) → operand u2 at bytes ≡ Ok (record { at = p; value = x }, b, u) → said (load_wide pool x) ≡ Err n → judged (operands_of pool opcode.LDC2_W pc) at bytes ≡ Err n
unfolding operands_of
refused_ldc2_w pool pc at bytes p x b u n e is = judged_after u2 (λ (v : Placed ℕ). load_wide pool v.value) at bytes (record { at = p; value = x }, b, u) e ∙ wide_err pool x n b u is

pub stop_ldc2_w : (pool : Pool) (pc at : ℕ) (bytes : List ℕ) (n : ℕ) → operand u2 at bytes ≡ Err n → judged (operands_of pool opcode.LDC2_W pc) at bytes ≡ Err n
unfolding operands_of
stop_ldc2_w pool pc at bytes n e = judged_stops u2 (λ (v : Placed ℕ). load_wide pool v.value) at bytes n e

abbrev listed : ℕ → Bool
listed k = list_any (is_within k) small_constants || (list_any (λ n. n == k) (opcode.NOP ∷ opcode.ACONST_NULL ∷ opcode.BIPUSH ∷ opcode.SIPUSH ∷ opcode.LDC ∷ opcode.LDC_W ∷ opcode.LDC2_W ∷ []))

sieve : (pool : Pool) → all_in opcode.NOP (opcode.LDC2_W + 1) (λ k. not (covers (rows pool) k) || listed k) ≡ true
unfolding all_in
sieve pool = refl

not_listed : (code : ℕ) → (list_any (is_within code) small_constants) ≡ false → code ≢ opcode.NOP → code ≢ opcode.ACONST_NULL → code ≢ opcode.BIPUSH → code ≢ opcode.SIPUSH → code ≢ opcode.LDC → code ≢ opcode.LDC_W → code ≢ opcode.LDC2_W → listed code ≡ false
not_listed code f0 not_nop not_aconst_null not_bipush not_sipush not_ldc not_ldc_w not_ldc2_w = rw (f0, not_it opcode.NOP code not_nop, not_it opcode.ACONST_NULL code not_aconst_null, not_it opcode.BIPUSH code not_bipush, not_it opcode.SIPUSH code not_sipush, not_it opcode.LDC code not_ldc, not_it opcode.LDC_W code not_ldc_w, not_it opcode.LDC2_W code not_ldc2_w) refl

pub others : (code : ℕ) (pool : Pool) (pc at : ℕ) (bytes : List ℕ) → code ≤ opcode.LDC2_W → (list_any (is_within code) small_constants) ≡ false → code ≢ opcode.NOP → code ≢ opcode.ACONST_NULL → code ≢ opcode.BIPUSH → code ≢ opcode.SIPUSH → code ≢ opcode.LDC → code ≢ opcode.LDC_W → code ≢ opcode.LDC2_W → judged (operands_of pool code pc) at bytes ≡ Err cause.OPCODE
others code pool pc at bytes high f0 not_nop not_aconst_null not_bipush not_sipush not_ldc not_ldc_w not_ldc2_w =
    refused_opcode pool code pc at bytes (sieved opcode.NOP (opcode.LDC2_W + 1) (covers (rows pool)) listed (sieve pool) code (omega arith) (omega arith) (not_listed code f0 not_nop not_aconst_null not_bipush not_sipush not_ldc not_ldc_w not_ldc2_w))

pub ruleset constants = (bare_read, row_nop, row_aconst_null, row_bipush, stop_bipush, row_sipush, stop_sipush, row_ldc, refused_ldc, stop_ldc, row_ldc_w, refused_ldc_w, stop_ldc_w, row_ldc2_w, refused_ldc2_w, stop_ldc2_w)
