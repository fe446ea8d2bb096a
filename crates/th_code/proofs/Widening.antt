-- What wide widens, and the branches behind it.
use Rattle.std.proofs.Common.{◌≡◌, ◌≢◌, ℕ, ◌-◌, ◌<◌, ◌≤◌, ◌&&◌, ◌||◌, not, Bool, true, false, List, [], ◌∷◌, Result, Ok, Err, refl, sym, ap, ◌∙◌, arith}
use Rattle.std.specs.Prelude.{◌==◌, nat_le}
use Rattle.std.specs.Int.{w16, w32, cast_signed}
use Rattle.std.specs.List.{list_any}
use Rattle.std.proofs.lemmas.Bool.Decides.{nat_tests}
use Rattle.th_syntax.specs.declared.cause.TheConstants as cause
use Rattle.th_syntax.specs.declared.opcode.TheConstants as opcode
use Rattle.th_syntax.specs.declared.instr.Instr.{Instr}
use Rattle.th_syntax.specs.declared.instr.Instr.TheVariants.{ILoad, LLoad, ALoad, IStore, LStore, AStore, Inc, IfNull, IfNotNull, Goto}
use Rattle.th_syntax.specs.Forms.{Form, ◌>>=◌, Placed, Found}
use Rattle.th_syntax.specs.ClassBytes.{Pool, u1, u2, u4}
use Rattle.th_syntax.specs.CodeBytes.{Spelled, plain, rows, wide_rows, target}
use Rattle.th_code.specs.Judged.{operand, judged, operands_of, wide_of}
use Rattle.th_code.proofs.Operands.{judged_after, judged_stops, judged_plain}
use Rattle.th_code.proofs.Opcodes.{not_it}
use Rattle.th_code.proofs.Rows.{among_none, wrong_judged, covers, all_in, sieved, refused_opcode}

pub row_iload : (pc at : ℕ) (bytes : List ℕ) (p x b : ℕ) (u : List ℕ) → operand u2 at bytes ≡ Ok (record { at = p; value = x }, b, u) → judged (wide_of opcode.ILOAD pc) at bytes ≡ Ok (ILoad x, b, u)
unfolding wide_of
row_iload pc at bytes p x b u e = judged_after u2 (λ (v : Placed ℕ). plain (ILoad v.value)) at bytes (record { at = p; value = x }, b, u) e ∙ judged_plain (ILoad x) b u

pub stop_iload : (pc at : ℕ) (bytes : List ℕ) (n : ℕ) → operand u2 at bytes ≡ Err n → judged (wide_of opcode.ILOAD pc) at bytes ≡ Err n
unfolding wide_of
stop_iload pc at bytes n e = judged_stops u2 (λ (v : Placed ℕ). plain (ILoad v.value)) at bytes n e

pub row_lload : (pc at : ℕ) (bytes : List ℕ) (p x b : ℕ) (u : List ℕ) → operand u2 at bytes ≡ Ok (record { at = p; value = x }, b, u) → judged (wide_of opcode.LLOAD pc) at bytes ≡ Ok (LLoad x, b, u)
unfolding wide_of
row_lload pc at bytes p x b u e = judged_after u2 (λ (v : Placed ℕ). plain (LLoad v.value)) at bytes (record { at = p; value = x }, b, u) e ∙ judged_plain (LLoad x) b u

pub stop_lload : (pc at : ℕ) (bytes : List ℕ) (n : ℕ) → operand u2 at bytes ≡ Err n → judged (wide_of opcode.LLOAD pc) at bytes ≡ Err n
unfolding wide_of
stop_lload pc at bytes n e = judged_stops u2 (λ (v : Placed ℕ). plain (LLoad v.value)) at bytes n e

pub row_aload : (pc at : ℕ) (bytes : List ℕ) (p x b : ℕ) (u : List ℕ) → operand u2 at bytes ≡ Ok (record { at = p; value = x }, b, u) → judged (wide_of opcode.ALOAD pc) at bytes ≡ Ok (ALoad x, b, u)
unfolding wide_of
row_aload pc at bytes p x b u e = judged_after u2 (λ (v : Placed ℕ). plain (ALoad v.value)) at bytes (record { at = p; value = x }, b, u) e ∙ judged_plain (ALoad x) b u

pub stop_aload : (pc at : ℕ) (bytes : List ℕ) (n : ℕ) → operand u2 at bytes ≡ Err n → judged (wide_of opcode.ALOAD pc) at bytes ≡ Err n
unfolding wide_of
stop_aload pc at bytes n e = judged_stops u2 (λ (v : Placed ℕ). plain (ALoad v.value)) at bytes n e

pub row_istore : (pc at : ℕ) (bytes : List ℕ) (p x b : ℕ) (u : List ℕ) → operand u2 at bytes ≡ Ok (record { at = p; value = x }, b, u) → judged (wide_of opcode.ISTORE pc) at bytes ≡ Ok (IStore x, b, u)
unfolding wide_of
row_istore pc at bytes p x b u e = judged_after u2 (λ (v : Placed ℕ). plain (IStore v.value)) at bytes (record { at = p; value = x }, b, u) e ∙ judged_plain (IStore x) b u

pub stop_istore : (pc at : ℕ) (bytes : List ℕ) (n : ℕ) → operand u2 at bytes ≡ Err n → judged (wide_of opcode.ISTORE pc) at bytes ≡ Err n
unfolding wide_of
stop_istore pc at bytes n e = judged_stops u2 (λ (v : Placed ℕ). plain (IStore v.value)) at bytes n e

pub row_lstore : (pc at : ℕ) (bytes : List ℕ) (p x b : ℕ) (u : List ℕ) → operand u2 at bytes ≡ Ok (record { at = p; value = x }, b, u) → judged (wide_of opcode.LSTORE pc) at bytes ≡ Ok (LStore x, b, u)
unfolding wide_of
row_lstore pc at bytes p x b u e = judged_after u2 (λ (v : Placed ℕ). plain (LStore v.value)) at bytes (record { at = p; value = x }, b, u) e ∙ judged_plain (LStore x) b u

pub stop_lstore : (pc at : ℕ) (bytes : List ℕ) (n : ℕ) → operand u2 at bytes ≡ Err n → judged (wide_of opcode.LSTORE pc) at bytes ≡ Err n
unfolding wide_of
stop_lstore pc at bytes n e = judged_stops u2 (λ (v : Placed ℕ). plain (LStore v.value)) at bytes n e

pub row_astore : (pc at : ℕ) (bytes : List ℕ) (p x b : ℕ) (u : List ℕ) → operand u2 at bytes ≡ Ok (record { at = p; value = x }, b, u) → judged (wide_of opcode.ASTORE pc) at bytes ≡ Ok (AStore x, b, u)
unfolding wide_of
row_astore pc at bytes p x b u e = judged_after u2 (λ (v : Placed ℕ). plain (AStore v.value)) at bytes (record { at = p; value = x }, b, u) e ∙ judged_plain (AStore x) b u

pub stop_astore : (pc at : ℕ) (bytes : List ℕ) (n : ℕ) → operand u2 at bytes ≡ Err n → judged (wide_of opcode.ASTORE pc) at bytes ≡ Err n
unfolding wide_of
stop_astore pc at bytes n e = judged_stops u2 (λ (v : Placed ℕ). plain (AStore v.value)) at bytes n e

pub row_iinc : (pc at : ℕ) (bytes : List ℕ) (p x b : ℕ) (u : List ℕ) (q y c : ℕ) (w : List ℕ) → operand u2 at bytes ≡ Ok (record { at = p; value = x }, b, u) → operand u2 b u ≡ Ok (record { at = q; value = y }, c, w) → judged (wide_of opcode.IINC pc) at bytes ≡ Ok (Inc x (cast_signed w16 y), c, w)
unfolding wide_of
row_iinc pc at bytes p x b u q y c w e f =
    judged_after u2 (λ (v : Placed ℕ). u2 >>= λ (w : Placed ℕ). plain (Inc v.value (cast_signed w16 w.value))) at bytes (record { at = p; value = x }, b, u) e ∙ judged_after u2 (λ (w : Placed ℕ). plain (Inc x (cast_signed w16 w.value))) b u (record { at = q; value = y }, c, w) f ∙ judged_plain (Inc x (cast_signed w16 y)) c w

pub stop_iinc : (pc at : ℕ) (bytes : List ℕ) (n : ℕ) → operand u2 at bytes ≡ Err n → judged (wide_of opcode.IINC pc) at bytes ≡ Err n
unfolding wide_of
stop_iinc pc at bytes n e = judged_stops u2 (λ (v : Placed ℕ). u2 >>= λ (w : Placed ℕ). plain (Inc v.value (cast_signed w16 w.value))) at bytes n e

pub stop_later_iinc : (pc at : ℕ) (bytes : List ℕ) (p x b : ℕ) (u : List ℕ) (n : ℕ) → operand u2 at bytes ≡ Ok (record { at = p; value = x }, b, u) → operand u2 b u ≡ Err n → judged (wide_of opcode.IINC pc) at bytes ≡ Err n
unfolding wide_of
stop_later_iinc pc at bytes p x b u n e f = judged_after u2 (λ (v : Placed ℕ). u2 >>= λ (w : Placed ℕ). plain (Inc v.value (cast_signed w16 w.value))) at bytes (record { at = p; value = x }, b, u) e ∙ judged_stops u2 (λ (w : Placed ℕ). plain (Inc x (cast_signed w16 w.value))) b u n f

one_off : (n code : ℕ) → code ≢ n → (nat_le n code && nat_le code n) ≡ false
one_off n code other = grind (arith, nat_tests)

pub not_widened : (code : ℕ) (pc at : ℕ) (bytes : List ℕ) → code ≢ opcode.ILOAD → code ≢ opcode.LLOAD → code ≢ opcode.ALOAD → code ≢ opcode.ISTORE → code ≢ opcode.LSTORE → code ≢ opcode.ASTORE → code ≢ opcode.IINC → judged (wide_of code pc) at bytes ≡ Err cause.OPCODE
unfolding wide_of
not_widened code pc at bytes not_iload not_lload not_aload not_istore not_lstore not_astore not_iinc =
    ap (λ (form : Form Spelled). judged form at bytes) (among_none wide_rows code pc pc (rw (one_off opcode.ILOAD code not_iload, one_off opcode.LLOAD code not_lload, one_off opcode.ALOAD code not_aload, one_off opcode.ISTORE code not_istore, one_off opcode.LSTORE code not_lstore, one_off opcode.ASTORE code not_astore, one_off opcode.IINC code not_iinc) refl)) ∙ wrong_judged pc at bytes

pub ruleset wides = (row_iload, stop_iload, row_lload, stop_lload, row_aload, stop_aload, row_istore, stop_istore, row_lstore, stop_lstore, row_astore, stop_astore, row_iinc, stop_iinc, stop_later_iinc)

pub wide_read : (pool : Pool) (pc at : ℕ) (bytes : List ℕ) (p x b : ℕ) (u : List ℕ) (r : Result (Found Instr) ℕ) → operand u1 at bytes ≡ Ok (record { at = p; value = x }, b, u) → judged (wide_of x pc) b u ≡ r → judged (operands_of pool opcode.WIDE pc) at bytes ≡ r
unfolding operands_of wide_of
wide_read pool pc at bytes p x b u r e is = judged_after u1 (λ (v : Placed ℕ). wide_of v.value pc) at bytes (record { at = p; value = x }, b, u) e ∙ is

pub wide_stops : (pool : Pool) (pc at : ℕ) (bytes : List ℕ) (n : ℕ) → operand u1 at bytes ≡ Err n → judged (operands_of pool opcode.WIDE pc) at bytes ≡ Err n
unfolding operands_of wide_of
wide_stops pool pc at bytes n e = judged_stops u1 (λ (v : Placed ℕ). wide_of v.value pc) at bytes n e

pub row_ifnull : (pool : Pool) (pc at : ℕ) (bytes : List ℕ) (p x b : ℕ) (u : List ℕ) (t : ℕ) → operand u2 at bytes ≡ Ok (record { at = p; value = x }, b, u) → t ≡ target pc (cast_signed w16 x) → judged (operands_of pool opcode.IFNULL pc) at bytes ≡ Ok (IfNull t, b, u)
unfolding operands_of
row_ifnull pool pc at bytes p x b u t e is =
    judged_after u2 (λ (by : Placed ℕ). plain (IfNull (target pc (cast_signed w16 by.value)))) at bytes (record { at = p; value = x }, b, u) e ∙ judged_plain (IfNull (target pc (cast_signed w16 x))) b u
    ∙ ap (λ (k : ℕ). (let r : Result (Found Instr) ℕ = Ok (IfNull k, b, u) in r)) (sym is)

pub stop_ifnull : (pool : Pool) (pc at : ℕ) (bytes : List ℕ) (n : ℕ) → operand u2 at bytes ≡ Err n → judged (operands_of pool opcode.IFNULL pc) at bytes ≡ Err n
unfolding operands_of
stop_ifnull pool pc at bytes n e = judged_stops u2 (λ (by : Placed ℕ). plain (IfNull (target pc (cast_signed w16 by.value)))) at bytes n e

pub row_ifnonnull : (pool : Pool) (pc at : ℕ) (bytes : List ℕ) (p x b : ℕ) (u : List ℕ) (t : ℕ) → operand u2 at bytes ≡ Ok (record { at = p; value = x }, b, u) → t ≡ target pc (cast_signed w16 x) → judged (operands_of pool opcode.IFNONNULL pc) at bytes ≡ Ok (IfNotNull t, b, u)
unfolding operands_of
row_ifnonnull pool pc at bytes p x b u t e is =
    judged_after u2 (λ (by : Placed ℕ). plain (IfNotNull (target pc (cast_signed w16 by.value)))) at bytes (record { at = p; value = x }, b, u) e ∙ judged_plain (IfNotNull (target pc (cast_signed w16 x))) b u
    ∙ ap (λ (k : ℕ). (let r : Result (Found Instr) ℕ = Ok (IfNotNull k, b, u) in r)) (sym is)

pub stop_ifnonnull : (pool : Pool) (pc at : ℕ) (bytes : List ℕ) (n : ℕ) → operand u2 at bytes ≡ Err n → judged (operands_of pool opcode.IFNONNULL pc) at bytes ≡ Err n
unfolding operands_of
stop_ifnonnull pool pc at bytes n e = judged_stops u2 (λ (by : Placed ℕ). plain (IfNotNull (target pc (cast_signed w16 by.value)))) at bytes n e

pub row_goto_w : (pool : Pool) (pc at : ℕ) (bytes : List ℕ) (p x b : ℕ) (u : List ℕ) (t : ℕ) → operand u4 at bytes ≡ Ok (record { at = p; value = x }, b, u) → t ≡ target pc (cast_signed w32 x) → judged (operands_of pool opcode.GOTO_W pc) at bytes ≡ Ok (Goto t, b, u)
unfolding operands_of
row_goto_w pool pc at bytes p x b u t e is =
    judged_after u4 (λ (by : Placed ℕ). plain (Goto (target pc (cast_signed w32 by.value)))) at bytes (record { at = p; value = x }, b, u) e ∙ judged_plain (Goto (target pc (cast_signed w32 x))) b u
    ∙ ap (λ (k : ℕ). (let r : Result (Found Instr) ℕ = Ok (Goto k, b, u) in r)) (sym is)

pub stop_goto_w : (pool : Pool) (pc at : ℕ) (bytes : List ℕ) (n : ℕ) → operand u4 at bytes ≡ Err n → judged (operands_of pool opcode.GOTO_W pc) at bytes ≡ Err n
unfolding operands_of
stop_goto_w pool pc at bytes n e = judged_stops u4 (λ (by : Placed ℕ). plain (Goto (target pc (cast_signed w32 by.value)))) at bytes n e

abbrev listed : ℕ → Bool
listed k = list_any (λ n. n == k) (opcode.WIDE ∷ opcode.IFNULL ∷ opcode.IFNONNULL ∷ opcode.GOTO_W ∷ [])

sieve : (pool : Pool) → all_in opcode.WIDE (256 - opcode.WIDE) (λ k. not (covers (rows pool) k) || listed k) ≡ true
unfolding all_in
sieve pool = refl

not_listed : (code : ℕ) → code ≢ opcode.WIDE → code ≢ opcode.IFNULL → code ≢ opcode.IFNONNULL → code ≢ opcode.GOTO_W → listed code ≡ false
not_listed code not_wide not_ifnull not_ifnonnull not_goto_w = rw (not_it opcode.WIDE code not_wide, not_it opcode.IFNULL code not_ifnull, not_it opcode.IFNONNULL code not_ifnonnull, not_it opcode.GOTO_W code not_goto_w) refl

pub others : (code : ℕ) (pool : Pool) (pc at : ℕ) (bytes : List ℕ) → opcode.WIDE ≤ code → code < 256 → code ≢ opcode.WIDE → code ≢ opcode.IFNULL → code ≢ opcode.IFNONNULL → code ≢ opcode.GOTO_W → judged (operands_of pool code pc) at bytes ≡ Err cause.OPCODE
others code pool pc at bytes low high not_wide not_ifnull not_ifnonnull not_goto_w =
    refused_opcode pool code pc at bytes (sieved opcode.WIDE (256 - opcode.WIDE) (covers (rows pool)) listed (sieve pool) code low (omega arith) (not_listed code not_wide not_ifnull not_ifnonnull not_goto_w))

pub ruleset extended = (wide_read, wide_stops, row_ifnull, stop_ifnull, row_ifnonnull, stop_ifnonnull, row_goto_w, stop_goto_w)
