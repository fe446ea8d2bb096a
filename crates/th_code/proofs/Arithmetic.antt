-- Arithmetic, opcode by opcode.
use Rattle.std.proofs.Common.{◌≡◌, ◌≢◌, ℕ, ◌<◌, ◌-◌, ◌≤◌, ◌||◌, not, Bool, true, false, List, [], ◌∷◌, Ok, Err, refl, ◌∙◌, arith}
use Rattle.std.specs.Prelude.{◌==◌}
use Rattle.std.specs.Int.{w8, cast_signed}
use Rattle.std.specs.List.{list_any}
use Rattle.th_syntax.specs.declared.cause.TheConstants as cause
use Rattle.th_syntax.specs.declared.opcode.TheConstants as opcode
use Rattle.th_syntax.specs.declared.instr.Instr.TheVariants.{Inc}
use Rattle.th_syntax.specs.Forms.{◌>>=◌, Placed}
use Rattle.th_syntax.specs.ClassBytes.{Pool, u1}
use Rattle.th_syntax.specs.CodeBytes.{plain, rows}
use Rattle.th_code.specs.Judged.{operand, judged, operands_of}
use Rattle.th_code.specs.Opcodes.{stack_move_codes, arithmetic_codes, conversion_codes}
use Rattle.th_code.proofs.Operands.{judged_after, judged_stops, judged_plain}
use Rattle.th_code.proofs.Opcodes.{not_it}
use Rattle.th_code.proofs.Rows.{covers, all_in, sieved, refused_opcode, bare_read}

pub row_iinc : (pool : Pool) (pc at : ℕ) (bytes : List ℕ) (p x b : ℕ) (u : List ℕ) (q y c : ℕ) (w : List ℕ) → operand u1 at bytes ≡ Ok (record { at = p; value = x }, b, u) → operand u1 b u ≡ Ok (record { at = q; value = y }, c, w) → judged (operands_of pool opcode.IINC pc) at bytes ≡ Ok (Inc x (cast_signed w8 y), c, w)
unfolding operands_of
row_iinc pool pc at bytes p x b u q y c w e f =
    judged_after u1 (λ (v : Placed ℕ). u1 >>= λ (w : Placed ℕ). plain (Inc v.value (cast_signed w8 w.value))) at bytes (record { at = p; value = x }, b, u) e ∙ judged_after u1 (λ (w : Placed ℕ). plain (Inc x (cast_signed w8 w.value))) b u (record { at = q; value = y }, c, w) f ∙ judged_plain (Inc x (cast_signed w8 y)) c w

pub stop_iinc : (pool : Pool) (pc at : ℕ) (bytes : List ℕ) (n : ℕ) → operand u1 at bytes ≡ Err n → judged (operands_of pool opcode.IINC pc) at bytes ≡ Err n
unfolding operands_of
stop_iinc pool pc at bytes n e = judged_stops u1 (λ (v : Placed ℕ). u1 >>= λ (w : Placed ℕ). plain (Inc v.value (cast_signed w8 w.value))) at bytes n e

pub stop_later_iinc : (pool : Pool) (pc at : ℕ) (bytes : List ℕ) (p x b : ℕ) (u : List ℕ) (n : ℕ) → operand u1 at bytes ≡ Ok (record { at = p; value = x }, b, u) → operand u1 b u ≡ Err n → judged (operands_of pool opcode.IINC pc) at bytes ≡ Err n
unfolding operands_of
stop_later_iinc pool pc at bytes p x b u n e f = judged_after u1 (λ (v : Placed ℕ). u1 >>= λ (w : Placed ℕ). plain (Inc v.value (cast_signed w8 w.value))) at bytes (record { at = p; value = x }, b, u) e ∙ judged_stops u1 (λ (w : Placed ℕ). plain (Inc x (cast_signed w8 w.value))) b u n f

abbrev listed : ℕ → Bool
listed k = list_any (λ n. n == k) stack_move_codes || (list_any (λ n. n == k) arithmetic_codes || (list_any (λ n. n == k) conversion_codes || (list_any (λ n. n == k) (opcode.IINC ∷ []))))

sieve : (pool : Pool) → all_in opcode.POP (opcode.IFEQ - opcode.POP) (λ k. not (covers (rows pool) k) || listed k) ≡ true
unfolding all_in
sieve pool = refl

not_listed : (code : ℕ) → (list_any (λ n. n == code) stack_move_codes) ≡ false → (list_any (λ n. n == code) arithmetic_codes) ≡ false → (list_any (λ n. n == code) conversion_codes) ≡ false → code ≢ opcode.IINC → listed code ≡ false
not_listed code f0 f1 f2 not_iinc = rw (f0, f1, f2, not_it opcode.IINC code not_iinc) refl

pub others : (code : ℕ) (pool : Pool) (pc at : ℕ) (bytes : List ℕ) → opcode.POP ≤ code → code < opcode.IFEQ → (list_any (λ n. n == code) stack_move_codes) ≡ false → (list_any (λ n. n == code) arithmetic_codes) ≡ false → (list_any (λ n. n == code) conversion_codes) ≡ false → code ≢ opcode.IINC → judged (operands_of pool code pc) at bytes ≡ Err cause.OPCODE
others code pool pc at bytes low high f0 f1 f2 not_iinc =
    refused_opcode pool code pc at bytes (sieved opcode.POP (opcode.IFEQ - opcode.POP) (covers (rows pool)) listed (sieve pool) code low (omega arith) (not_listed code f0 f1 f2 not_iinc))

pub ruleset arithmetics = (bare_read, row_iinc, stop_iinc, stop_later_iinc)
