-- Branches, switches and returns, opcode by opcode.
use Rattle.std.proofs.Common.{◌≡◌, ◌≢◌, ℕ, zero, suc, ◌+◌, ◌-◌, ◌<◌, subst, ◌≤◌, ◌||◌, not, Bool, true, false, List, [], ◌∷◌, Result, Ok, Err, refl, ap, ◌∙◌, arith}
use Rattle.std.specs.Prelude.{◌==◌}
use Rattle.std.specs.Int.{w16, cast_signed}
use Rattle.std.specs.List.{list_any}
use Rattle.th_syntax.specs.declared.cause.TheConstants as cause
use Rattle.th_syntax.specs.declared.opcode.TheConstants as opcode
use Rattle.th_syntax.specs.declared.instr.Instr.{Instr}
use Rattle.th_syntax.specs.declared.instr.Instr.TheVariants.{IReturn, LReturn, AReturn, Return, IfZero, IfInts, IfSame, IfOther, Goto}
use Rattle.th_base.specs.declared.operation.Relation.TheVariants.{Eq, Ne, Lt, Ge, Gt, Le}
use Rattle.th_syntax.specs.Forms.{Form, Placed, Found}
use Rattle.th_syntax.specs.ClassBytes.{Pool, u2}
use Rattle.th_syntax.specs.CodeBytes.{Spelled, plain, rows, table_switch, lookup_switch, target, jump}
use Rattle.th_code.specs.Judged.{operand, judged, operands_of}
use Rattle.th_code.proofs.Operands.{judged_stops, judged_plain}
use Rattle.th_code.proofs.Opcodes.{not_it}
use Rattle.th_code.proofs.Rows.{covers, all_in, sieved, refused_opcode}

pub branch_read : (pool : Pool) (pc at : ℕ) (bytes : List ℕ) (code p x b : ℕ) (u : List ℕ) (t : ℕ) (i : Instr) → operand u2 at bytes ≡ Ok (record { at = p; value = x }, b, u) → t ≡ target pc (cast_signed w16 x)
    → ((pool : Pool) (pc at : ℕ) (bytes : List ℕ) (x : Placed ℕ) (b : ℕ) (u : List ℕ) → operand u2 at bytes ≡ Ok (x, b, u) → t ≡ target pc (cast_signed w16 x.value) → judged (operands_of pool code pc) at bytes ≡ Ok (i, b, u)) → judged (operands_of pool code pc) at bytes ≡ Ok (i, b, u)
branch_read pool pc at bytes code p x b u t i e is jumps = jumps pool pc at bytes (record { at = p; value = x }) b u e is

row_tableswitch : (pool : Pool) (pc : ℕ) → operands_of pool opcode.TABLESWITCH pc ≡ table_switch pc
unfolding operands_of
row_tableswitch pool pc = refl

row_lookupswitch : (pool : Pool) (pc : ℕ) → operands_of pool opcode.LOOKUPSWITCH pc ≡ lookup_switch pc
unfolding operands_of
row_lookupswitch pool pc = refl

pub table_row : (pool : Pool) (pc at : ℕ) (bytes : List ℕ) (r : Result (Found Instr) ℕ) → judged (table_switch pc) at bytes ≡ r → judged (operands_of pool opcode.TABLESWITCH pc) at bytes ≡ r
table_row pool pc at bytes r e = ap (λ (form : Form Spelled). judged form at bytes) (row_tableswitch pool pc) ∙ e

pub lookup_row : (pool : Pool) (pc at : ℕ) (bytes : List ℕ) (r : Result (Found Instr) ℕ) → judged (lookup_switch pc) at bytes ≡ r → judged (operands_of pool opcode.LOOKUPSWITCH pc) at bytes ≡ r
lookup_row pool pc at bytes r e = ap (λ (form : Form Spelled). judged form at bytes) (row_lookupswitch pool pc) ∙ e

pub row_ireturn : (pool : Pool) (pc at : ℕ) (bytes : List ℕ) → judged (operands_of pool opcode.IRETURN pc) at bytes ≡ Ok (IReturn, at, bytes)
unfolding operands_of
row_ireturn pool pc at bytes = judged_plain IReturn at bytes

pub row_lreturn : (pool : Pool) (pc at : ℕ) (bytes : List ℕ) → judged (operands_of pool opcode.LRETURN pc) at bytes ≡ Ok (LReturn, at, bytes)
unfolding operands_of
row_lreturn pool pc at bytes = judged_plain LReturn at bytes

pub row_areturn : (pool : Pool) (pc at : ℕ) (bytes : List ℕ) → judged (operands_of pool opcode.ARETURN pc) at bytes ≡ Ok (AReturn, at, bytes)
unfolding operands_of
row_areturn pool pc at bytes = judged_plain AReturn at bytes

pub row_return : (pool : Pool) (pc at : ℕ) (bytes : List ℕ) → judged (operands_of pool opcode.RETURN pc) at bytes ≡ Ok (Return, at, bytes)
unfolding operands_of
row_return pool pc at bytes = judged_plain Return at bytes

abbrev listed : ℕ → Bool
listed k = list_any (λ n. n == k) (opcode.TABLESWITCH ∷ opcode.LOOKUPSWITCH ∷ opcode.IRETURN ∷ opcode.LRETURN ∷ opcode.ARETURN ∷ opcode.RETURN ∷ [])

sieve : (pool : Pool) → all_in (opcode.GOTO + 1) (opcode.RETURN - opcode.GOTO) (λ k. not (covers (rows pool) k) || listed k) ≡ true
unfolding all_in
sieve pool = refl

not_listed : (code : ℕ) → code ≢ opcode.TABLESWITCH → code ≢ opcode.LOOKUPSWITCH → code ≢ opcode.IRETURN → code ≢ opcode.LRETURN → code ≢ opcode.ARETURN → code ≢ opcode.RETURN → listed code ≡ false
not_listed code not_tableswitch not_lookupswitch not_ireturn not_lreturn not_areturn not_return = rw (not_it opcode.TABLESWITCH code not_tableswitch, not_it opcode.LOOKUPSWITCH code not_lookupswitch, not_it opcode.IRETURN code not_ireturn, not_it opcode.LRETURN code not_lreturn, not_it opcode.ARETURN code not_areturn, not_it opcode.RETURN code not_return) refl

pub others : (code : ℕ) (pool : Pool) (pc at : ℕ) (bytes : List ℕ) → opcode.GOTO < code → code ≤ opcode.RETURN → code ≢ opcode.TABLESWITCH → code ≢ opcode.LOOKUPSWITCH → code ≢ opcode.IRETURN → code ≢ opcode.LRETURN → code ≢ opcode.ARETURN → code ≢ opcode.RETURN → judged (operands_of pool code pc) at bytes ≡ Err cause.OPCODE
others code pool pc at bytes low high not_tableswitch not_lookupswitch not_ireturn not_lreturn not_areturn not_return =
    refused_opcode pool code pc at bytes (sieved (opcode.GOTO + 1) (opcode.RETURN - opcode.GOTO) (covers (rows pool)) listed (sieve pool) code low (omega arith) (not_listed code not_tableswitch not_lookupswitch not_ireturn not_lreturn not_areturn not_return))

upto15 : (P : ℕ → Type 0) → P 0 → P 1 → P 2 → P 3 → P 4 → P 5 → P 6 → P 7 → P 8 → P 9 → P 10 → P 11 → P 12 → P 13 → P 14 → (j : ℕ) → j < 15 → P j
upto15 P p0 p1 p2 p3 p4 p5 p6 p7 p8 p9 p10 p11 p12 p13 p14 zero lt = p0
upto15 P p0 p1 p2 p3 p4 p5 p6 p7 p8 p9 p10 p11 p12 p13 p14 (suc zero) lt = p1
upto15 P p0 p1 p2 p3 p4 p5 p6 p7 p8 p9 p10 p11 p12 p13 p14 (suc (suc zero)) lt = p2
upto15 P p0 p1 p2 p3 p4 p5 p6 p7 p8 p9 p10 p11 p12 p13 p14 (suc (suc (suc zero))) lt = p3
upto15 P p0 p1 p2 p3 p4 p5 p6 p7 p8 p9 p10 p11 p12 p13 p14 (suc (suc (suc (suc zero)))) lt = p4
upto15 P p0 p1 p2 p3 p4 p5 p6 p7 p8 p9 p10 p11 p12 p13 p14 (suc (suc (suc (suc (suc zero))))) lt = p5
upto15 P p0 p1 p2 p3 p4 p5 p6 p7 p8 p9 p10 p11 p12 p13 p14 (suc (suc (suc (suc (suc (suc zero)))))) lt = p6
upto15 P p0 p1 p2 p3 p4 p5 p6 p7 p8 p9 p10 p11 p12 p13 p14 (suc (suc (suc (suc (suc (suc (suc zero))))))) lt = p7
upto15 P p0 p1 p2 p3 p4 p5 p6 p7 p8 p9 p10 p11 p12 p13 p14 (suc (suc (suc (suc (suc (suc (suc (suc zero)))))))) lt = p8
upto15 P p0 p1 p2 p3 p4 p5 p6 p7 p8 p9 p10 p11 p12 p13 p14 (suc (suc (suc (suc (suc (suc (suc (suc (suc zero))))))))) lt = p9
upto15 P p0 p1 p2 p3 p4 p5 p6 p7 p8 p9 p10 p11 p12 p13 p14 (suc (suc (suc (suc (suc (suc (suc (suc (suc (suc zero)))))))))) lt = p10
upto15 P p0 p1 p2 p3 p4 p5 p6 p7 p8 p9 p10 p11 p12 p13 p14 (suc (suc (suc (suc (suc (suc (suc (suc (suc (suc (suc zero))))))))))) lt = p11
upto15 P p0 p1 p2 p3 p4 p5 p6 p7 p8 p9 p10 p11 p12 p13 p14 (suc (suc (suc (suc (suc (suc (suc (suc (suc (suc (suc (suc zero)))))))))))) lt = p12
upto15 P p0 p1 p2 p3 p4 p5 p6 p7 p8 p9 p10 p11 p12 p13 p14 (suc (suc (suc (suc (suc (suc (suc (suc (suc (suc (suc (suc (suc zero))))))))))))) lt = p13
upto15 P p0 p1 p2 p3 p4 p5 p6 p7 p8 p9 p10 p11 p12 p13 p14 (suc (suc (suc (suc (suc (suc (suc (suc (suc (suc (suc (suc (suc (suc zero)))))))))))))) lt = p14
upto15 P p0 p1 p2 p3 p4 p5 p6 p7 p8 p9 p10 p11 p12 p13 p14 (suc (suc (suc (suc (suc (suc (suc (suc (suc (suc (suc (suc (suc (suc (suc j))))))))))))))) lt = absurd (omega arith)

stop_at : (pool : Pool) (pc at : ℕ) (bytes : List ℕ) (n : ℕ) (make : ℕ → Instr) → operand u2 at bytes ≡ Err n → judged (jump pc make) at bytes ≡ Err n
stop_at pool pc at bytes n make e = judged_stops u2 (λ (by : Placed ℕ). plain (make (target pc (cast_signed w16 by.value)))) at bytes n e

pub branch_stops : (pool : Pool) (pc at : ℕ) (bytes : List ℕ) (code n : ℕ) → opcode.IFEQ ≤ code → code ≤ opcode.GOTO → operand u2 at bytes ≡ Err n → judged (operands_of pool code pc) at bytes ≡ Err n
unfolding operands_of
branch_stops pool pc at bytes code n low high e =
    let is : opcode.IFEQ + (code - opcode.IFEQ) ≡ code = omega arith in
    subst (λ (k : ℕ). judged (operands_of pool k pc) at bytes ≡ Err n) is
    (upto15 (λ k. judged (operands_of pool (opcode.IFEQ + k) pc) at bytes ≡ Err n)
    (stop_at pool pc at bytes n (IfZero Eq) e) (stop_at pool pc at bytes n (IfZero Ne) e) (stop_at pool pc at bytes n (IfZero Lt) e) (stop_at pool pc at bytes n (IfZero Ge) e) (stop_at pool pc at bytes n (IfZero Gt) e) (stop_at pool pc at bytes n (IfZero Le) e) (stop_at pool pc at bytes n (IfInts Eq) e) (stop_at pool pc at bytes n (IfInts Ne) e) (stop_at pool pc at bytes n (IfInts Lt) e) (stop_at pool pc at bytes n (IfInts Ge) e) (stop_at pool pc at bytes n (IfInts Gt) e) (stop_at pool pc at bytes n (IfInts Le) e) (stop_at pool pc at bytes n IfSame e) (stop_at pool pc at bytes n IfOther e) (stop_at pool pc at bytes n Goto e)
    (code - opcode.IFEQ) (omega arith))

pub ruleset branches = (branch_read, branch_stops)

pub ruleset controls = (table_row, lookup_row, row_ireturn, row_lreturn, row_areturn, row_return)
