-- Passing over a code array, instruction by instruction.
use Rattle.std.proofs.Common.{◌≡◌, ◌≢◌, ℕ, zero, suc, ◌+◌, ◌<◌, Bool, true, false, ◌||◌, cond, List, [], ◌∷◌, ◌++◌, length, Result, Ok, Err, refl, sym, ap, ◌∙◌}
use Rattle.std.specs.Prelude.{Option, ◌==◌, unwrap_or, slice_get}
use Rattle.std.specs.List.{filter_map}
use Rattle.std.proofs.Math.ListN.{set, replicate}
use Rattle.std.proofs.lemmas.Bool.{eqb-true, eq-eqb}
use Rattle.th_base.proofs.Alike.{slice_get-set_same, slice_get-set_other}
use Rattle.th_syntax.specs.declared.cause.TheConstants as cause
use Rattle.th_syntax.specs.declared.instr.Instr.{Instr}
use Rattle.th_syntax.specs.declared.refusal.Flaw.{Flaw}
use Rattle.th_syntax.specs.Flaws.{flaw_at}
use Rattle.th_syntax.specs.Forms.{Placed, Found, read}
use Rattle.th_syntax.specs.ClassBytes.{Pool, u1}
use Rattle.th_syntax.specs.CodeBytes.{Spelled, instr, flawed, among, rows, instruction}
use Rattle.th_syntax.specs.Decoding.{decoded, least, instr_flaw, is_start}
use Rattle.th_syntax.proofs.Spelling.{decoded_ok, decoded_err}
use Rattle.th_code.specs.Judged.{operand, judge_spelled, judge, judged, operands_of}
use Rattle.th_code.specs.Starts.{is_marked}
use Rattle.th_code.proofs.Operands.{judged_after, judged_stops}

-- ---- an instruction from its opcode on

pub instruction_read : (pool : Pool) (pc : ℕ) (bytes : List ℕ) (p code b : ℕ) (u : List ℕ) (r : Result (Found Instr) ℕ) → operand u1 pc bytes ≡ Ok (record { at = pc; value = code }, b, u) → judged (operands_of pool code pc) b u ≡ r → judged (instruction pool) pc bytes ≡ r
unfolding instruction operands_of
instruction_read pool pc bytes p code b u r e is = judged_after u1 (λ (c : Placed ℕ). among (rows pool) c.value c.at c.at) pc bytes (record { at = pc; value = code }, b, u) e ∙ is

pub instruction_stops : (pool : Pool) (pc : ℕ) (bytes : List ℕ) (n : ℕ) → operand u1 pc bytes ≡ Err n → judged (instruction pool) pc bytes ≡ Err n
unfolding instruction
instruction_stops pool pc bytes n e = judged_stops u1 (λ (c : Placed ℕ). among (rows pool) c.value c.at c.at) pc bytes n e

pub ruleset instructions = (instruction_read, instruction_stops)

-- ---- what was read, by what was judged

spelled_so : (s : Spelled) (b : ℕ) (u : List ℕ) (i : Instr) (c : ℕ) (v : List ℕ) → judge_spelled s b u ≡ Ok (i, c, v) → (let f : Found Spelled = (s, b, u) in f) ≡ (instr i, c, v)
spelled_so (instr j) b u i c v e =
    let same : (let f : Found Instr = (j, b, u) in f) ≡ (i, c, v) = cc in
    ap (λ (f : Found Instr). (let g : Found Spelled = (instr f.0, f.1, f.2) in g)) same
spelled_so (flawed number numbers) b u i c v e = absurd cc

read_so : (r : Result (Found Spelled) Flaw) (i : Instr) (c : ℕ) (v : List ℕ) → judge r ≡ Ok (i, c, v) → r ≡ Ok (instr i, c, v)
read_so (Ok found) i c v e = ap (λ (f : Found Spelled). (let r : Result (Found Spelled) Flaw = Ok f in r)) (spelled_so found.0 found.1 found.2 i c v e)
read_so (Err flaw) i c v e = absurd cc

pub read_is : (pool : Pool) (pc : ℕ) (bytes : List ℕ) (i : Instr) (c : ℕ) (v : List ℕ) → judged (instruction pool) pc bytes ≡ Ok (i, c, v) → read (instruction pool) pc bytes ≡ Ok (instr i, c, v)
unfolding judged
read_is pool pc bytes i c v e = read_so (read (instruction pool) pc bytes) i c v e

-- ---- the flaw at an opcode

abbrev pub Begins : List Flaw → Flaw → Type 0
Begins flaws flaw = (others : List Flaw) × (flaws ≡ flaw ∷ others)

flaw_so : (s : Spelled) (b : ℕ) (u : List ℕ) (n max_locals at pc : ℕ) (more : List (Placed Spelled)) → judge_spelled s b u ≡ Err n → Begins (filter_map (instr_flaw max_locals at) (record { at = pc; value = s } ∷ more)) (flaw_at n (at + pc))
flaw_so (instr j) b u n max_locals at pc more e = absurd cc
flaw_so (flawed number numbers) b u n max_locals at pc more e =
    let same : least number numbers ≡ n = cc in
    (filter_map (instr_flaw max_locals at) more, ap (λ (k : ℕ). flaw_at k (at + pc) ∷ filter_map (instr_flaw max_locals at) more) same)

flaw_by : (pool : Pool) (pc b : ℕ) (bytes : List ℕ) (n max_locals at : ℕ) (r : Result (Found Spelled) Flaw) → read (instruction pool) pc (b ∷ bytes) ≡ r → judge r ≡ Err n → Begins (filter_map (instr_flaw max_locals at) (decoded pool 0 pc (b ∷ bytes))) (flaw_at n (at + pc))
flaw_by pool pc b bytes n max_locals at (Ok found) is e =
    let begins = flaw_so found.0 found.1 found.2 n max_locals at pc (decoded pool 0 found.1 found.2) e in
    (begins.0, ap (filter_map (instr_flaw max_locals at)) (decoded_ok pool pc b bytes found is) ∙ begins.1)
flaw_by pool pc b bytes n max_locals at (Err flaw) is e =
    let same : cond (flaw.number == cause.TRUNCATED) cause.CODE_SHAPE flaw.number ≡ n = cc in (
      filter_map (instr_flaw max_locals at) (decoded pool 0 (pc + 1) bytes),
      ap (filter_map (instr_flaw max_locals at)) (decoded_err pool pc b bytes flaw is) ∙ ap (λ (k : ℕ). flaw_at k (at + pc) ∷ filter_map (instr_flaw max_locals at) (decoded pool 0 (pc + 1) bytes)) same,
    )

pub flaw_here : (pool : Pool) (pc b : ℕ) (bytes : List ℕ) (n max_locals at : ℕ) → judged (instruction pool) pc (b ∷ bytes) ≡ Err n → Begins (filter_map (instr_flaw max_locals at) (decoded pool 0 pc (b ∷ bytes))) (flaw_at n (at + pc))
unfolding judged
flaw_here pool pc b bytes n max_locals at e = flaw_by pool pc b bytes n max_locals at (read (instruction pool) pc (b ∷ bytes)) refl e

-- ---- marks

pub not_marked : (n offset : ℕ) → is_marked (replicate n false) offset ≡ false
not_marked zero offset = refl
not_marked (suc n) zero = refl
not_marked (suc n) (suc offset) = not_marked n offset

or_false : (b : Bool) → (b || false) ≡ b
or_false true = refl
or_false false = refl

or_true : (b : Bool) → (b || true) ≡ true
or_true true = refl
or_true false = refl

or_grouped : (a b c : Bool) → (a || (b || c)) ≡ ((a || b) || c)
or_grouped true b c = refl
or_grouped false b c = refl

pub start_added : (instrs : List (ℕ × Instr)) (pc : ℕ) (i : Instr) (offset : ℕ) → is_start (instrs ++ (pc, i) ∷ []) offset ≡ (is_start instrs offset || (pc == offset))
start_added [] pc i offset = or_false (pc == offset)
start_added (one ∷ instrs) pc i offset = ap (λ (b : Bool). (one.0 == offset) || b) (start_added instrs pc i offset) ∙ or_grouped (one.0 == offset) (is_start instrs offset) (pc == offset)

pub mark_by : (b : Bool) (starts : List Bool) (instrs : List (ℕ × Instr)) (pc offset : ℕ) → (pc == offset) ≡ b → pc < length starts → is_marked starts offset ≡ is_start instrs offset → is_marked (set starts pc true) offset ≡ (is_start instrs offset || b)
mark_by true starts instrs pc offset is lt old =
    let same : pc ≡ offset = eqb-true pc offset is in
    ap (λ (o : Option Bool). unwrap_or o false) (ap (slice_get (set starts pc true)) (sym same) ∙ slice_get-set_same starts pc true lt) ∙ sym (or_true (is_start instrs offset))
mark_by false starts instrs pc offset is lt old =
    let other : offset ≢ pc = λ e. absurd (let never : true ≡ false = sym (eq-eqb pc pc refl) ∙ ap (λ (k : ℕ). pc == k) (sym e) ∙ is in cc) in
    ap (λ (o : Option Bool). unwrap_or o false) (slice_get-set_other starts pc offset true other) ∙ old ∙ sym (or_false (is_start instrs offset))
