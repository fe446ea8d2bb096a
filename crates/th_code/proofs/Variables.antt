-- Local variables and arrays, opcode by opcode.
use Rattle.std.proofs.Common.{◌≡◌, ◌≢◌, ℕ, ◌-◌, ◌≤◌, ◌||◌, not, Bool, true, false, List, [], ◌∷◌, Ok, Err, refl, ◌∙◌, arith}
use Rattle.std.specs.Prelude.{◌==◌}
use Rattle.std.specs.List.{list_any}
use Rattle.th_syntax.specs.declared.cause.TheConstants as cause
use Rattle.th_syntax.specs.declared.opcode.TheConstants as opcode
use Rattle.th_syntax.specs.declared.instr.Instr.TheVariants.{ILoad, LLoad, ALoad, IStore, LStore, AStore}
use Rattle.th_syntax.specs.Forms.{Placed}
use Rattle.th_syntax.specs.ClassBytes.{Pool, u1}
use Rattle.th_syntax.specs.CodeBytes.{plain, rows}
use Rattle.th_code.specs.Judged.{operand, judged, operands_of}
use Rattle.th_code.specs.Opcodes.{is_within, small_locals, array_access_codes}
use Rattle.th_code.proofs.Operands.{judged_after, judged_stops, judged_plain}
use Rattle.th_code.proofs.Opcodes.{not_it}
use Rattle.th_code.proofs.Rows.{covers, all_in, sieved, refused_opcode, bare_read}

pub row_iload : (pool : Pool) (pc at : ℕ) (bytes : List ℕ) (p x b : ℕ) (u : List ℕ) → operand u1 at bytes ≡ Ok (record { at = p; value = x }, b, u) → judged (operands_of pool opcode.ILOAD pc) at bytes ≡ Ok (ILoad x, b, u)
unfolding operands_of
row_iload pool pc at bytes p x b u e = judged_after u1 (λ (v : Placed ℕ). plain (ILoad v.value)) at bytes (record { at = p; value = x }, b, u) e ∙ judged_plain (ILoad x) b u

pub stop_iload : (pool : Pool) (pc at : ℕ) (bytes : List ℕ) (n : ℕ) → operand u1 at bytes ≡ Err n → judged (operands_of pool opcode.ILOAD pc) at bytes ≡ Err n
unfolding operands_of
stop_iload pool pc at bytes n e = judged_stops u1 (λ (v : Placed ℕ). plain (ILoad v.value)) at bytes n e

pub row_lload : (pool : Pool) (pc at : ℕ) (bytes : List ℕ) (p x b : ℕ) (u : List ℕ) → operand u1 at bytes ≡ Ok (record { at = p; value = x }, b, u) → judged (operands_of pool opcode.LLOAD pc) at bytes ≡ Ok (LLoad x, b, u)
unfolding operands_of
row_lload pool pc at bytes p x b u e = judged_after u1 (λ (v : Placed ℕ). plain (LLoad v.value)) at bytes (record { at = p; value = x }, b, u) e ∙ judged_plain (LLoad x) b u

pub stop_lload : (pool : Pool) (pc at : ℕ) (bytes : List ℕ) (n : ℕ) → operand u1 at bytes ≡ Err n → judged (operands_of pool opcode.LLOAD pc) at bytes ≡ Err n
unfolding operands_of
stop_lload pool pc at bytes n e = judged_stops u1 (λ (v : Placed ℕ). plain (LLoad v.value)) at bytes n e

pub row_aload : (pool : Pool) (pc at : ℕ) (bytes : List ℕ) (p x b : ℕ) (u : List ℕ) → operand u1 at bytes ≡ Ok (record { at = p; value = x }, b, u) → judged (operands_of pool opcode.ALOAD pc) at bytes ≡ Ok (ALoad x, b, u)
unfolding operands_of
row_aload pool pc at bytes p x b u e = judged_after u1 (λ (v : Placed ℕ). plain (ALoad v.value)) at bytes (record { at = p; value = x }, b, u) e ∙ judged_plain (ALoad x) b u

pub stop_aload : (pool : Pool) (pc at : ℕ) (bytes : List ℕ) (n : ℕ) → operand u1 at bytes ≡ Err n → judged (operands_of pool opcode.ALOAD pc) at bytes ≡ Err n
unfolding operands_of
stop_aload pool pc at bytes n e = judged_stops u1 (λ (v : Placed ℕ). plain (ALoad v.value)) at bytes n e

pub row_istore : (pool : Pool) (pc at : ℕ) (bytes : List ℕ) (p x b : ℕ) (u : List ℕ) → operand u1 at bytes ≡ Ok (record { at = p; value = x }, b, u) → judged (operands_of pool opcode.ISTORE pc) at bytes ≡ Ok (IStore x, b, u)
unfolding operands_of
row_istore pool pc at bytes p x b u e = judged_after u1 (λ (v : Placed ℕ). plain (IStore v.value)) at bytes (record { at = p; value = x }, b, u) e ∙ judged_plain (IStore x) b u

pub stop_istore : (pool : Pool) (pc at : ℕ) (bytes : List ℕ) (n : ℕ) → operand u1 at bytes ≡ Err n → judged (operands_of pool opcode.ISTORE pc) at bytes ≡ Err n
unfolding operands_of
stop_istore pool pc at bytes n e = judged_stops u1 (λ (v : Placed ℕ). plain (IStore v.value)) at bytes n e

pub row_lstore : (pool : Pool) (pc at : ℕ) (bytes : List ℕ) (p x b : ℕ) (u : List ℕ) → operand u1 at bytes ≡ Ok (record { at = p; value = x }, b, u) → judged (operands_of pool opcode.LSTORE pc) at bytes ≡ Ok (LStore x, b, u)
unfolding operands_of
row_lstore pool pc at bytes p x b u e = judged_after u1 (λ (v : Placed ℕ). plain (LStore v.value)) at bytes (record { at = p; value = x }, b, u) e ∙ judged_plain (LStore x) b u

pub stop_lstore : (pool : Pool) (pc at : ℕ) (bytes : List ℕ) (n : ℕ) → operand u1 at bytes ≡ Err n → judged (operands_of pool opcode.LSTORE pc) at bytes ≡ Err n
unfolding operands_of
stop_lstore pool pc at bytes n e = judged_stops u1 (λ (v : Placed ℕ). plain (LStore v.value)) at bytes n e

pub row_astore : (pool : Pool) (pc at : ℕ) (bytes : List ℕ) (p x b : ℕ) (u : List ℕ) → operand u1 at bytes ≡ Ok (record { at = p; value = x }, b, u) → judged (operands_of pool opcode.ASTORE pc) at bytes ≡ Ok (AStore x, b, u)
unfolding operands_of
row_astore pool pc at bytes p x b u e = judged_after u1 (λ (v : Placed ℕ). plain (AStore v.value)) at bytes (record { at = p; value = x }, b, u) e ∙ judged_plain (AStore x) b u

pub stop_astore : (pool : Pool) (pc at : ℕ) (bytes : List ℕ) (n : ℕ) → operand u1 at bytes ≡ Err n → judged (operands_of pool opcode.ASTORE pc) at bytes ≡ Err n
unfolding operands_of
stop_astore pool pc at bytes n e = judged_stops u1 (λ (v : Placed ℕ). plain (AStore v.value)) at bytes n e

abbrev listed : ℕ → Bool
listed k = list_any (λ n. n == k) array_access_codes || (list_any (is_within k) small_locals || (list_any (λ n. n == k) (opcode.ILOAD ∷ opcode.LLOAD ∷ opcode.ALOAD ∷ opcode.ISTORE ∷ opcode.LSTORE ∷ opcode.ASTORE ∷ [])))

sieve : (pool : Pool) → all_in opcode.ILOAD (opcode.POP - opcode.ILOAD) (λ k. not (covers (rows pool) k) || listed k) ≡ true
unfolding all_in
sieve pool = refl

not_listed : (code : ℕ) → (list_any (λ n. n == code) array_access_codes) ≡ false → (list_any (is_within code) small_locals) ≡ false → code ≢ opcode.ILOAD → code ≢ opcode.LLOAD → code ≢ opcode.ALOAD → code ≢ opcode.ISTORE → code ≢ opcode.LSTORE → code ≢ opcode.ASTORE → listed code ≡ false
not_listed code f0 f1 not_iload not_lload not_aload not_istore not_lstore not_astore = rw (f0, f1, not_it opcode.ILOAD code not_iload, not_it opcode.LLOAD code not_lload, not_it opcode.ALOAD code not_aload, not_it opcode.ISTORE code not_istore, not_it opcode.LSTORE code not_lstore, not_it opcode.ASTORE code not_astore) refl

pub others : (code : ℕ) (pool : Pool) (pc at : ℕ) (bytes : List ℕ) → opcode.ILOAD ≤ code → code ≤ opcode.SASTORE → (list_any (λ n. n == code) array_access_codes) ≡ false → (list_any (is_within code) small_locals) ≡ false → code ≢ opcode.ILOAD → code ≢ opcode.LLOAD → code ≢ opcode.ALOAD → code ≢ opcode.ISTORE → code ≢ opcode.LSTORE → code ≢ opcode.ASTORE → judged (operands_of pool code pc) at bytes ≡ Err cause.OPCODE
others code pool pc at bytes low high f0 f1 not_iload not_lload not_aload not_istore not_lstore not_astore =
    refused_opcode pool code pc at bytes (sieved opcode.ILOAD (opcode.POP - opcode.ILOAD) (covers (rows pool)) listed (sieve pool) code low (omega arith) (not_listed code f0 f1 not_iload not_lload not_aload not_istore not_lstore not_astore))

pub ruleset variables = (bare_read, row_iload, stop_iload, row_lload, stop_lload, row_aload, stop_aload, row_istore, stop_istore, row_lstore, stop_lstore, row_astore, stop_astore)
