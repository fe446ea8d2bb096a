-- Operands, and what follows them.
use Rattle.std.proofs.Common.{◌≡◌, ℕ, Bool, true, false, cond, ltb, List, length, Result, Ok, Err, refl, sym, ap, ◌∙◌}
use Rattle.th_syntax.specs.declared.cause.TheConstants as cause
use Rattle.th_syntax.specs.declared.instr.Instr.{Instr}
use Rattle.th_syntax.specs.declared.refusal.Flaw.{Flaw}
use Rattle.th_syntax.specs.Flaws.{flaw_at}
use Rattle.th_syntax.specs.Forms.{Form, whole, ◌>>=◌, Found, read}
use Rattle.th_syntax.specs.ClassBytes.{number, run}
use Rattle.th_syntax.specs.CodeBytes.{Spelled, instr}
use Rattle.th_syntax.proofs.ReadingParts.{read_after, read_stops}
use Rattle.th_code.specs.Judged.{numbered, operand, number_of_flaw, judge, judged}

-- ---- one operand

short_is : {A : Type 0} (b : Bool) (d flaw : Flaw) (x : A) → d.number ≡ cause.TRUNCATED → cond b (Err d) (Ok x) ≡ (let r : Result A Flaw = Err flaw in r) → flaw.number ≡ cause.TRUNCATED
short_is true d flaw x is e = let same : d ≡ flaw = cc in ap (λ (f : Flaw). f.number) (sym same) ∙ is
short_is false d flaw x is e = absurd cc

number_truncated : (n at : ℕ) (bytes : List ℕ) (flaw : Flaw) → read (number n) at bytes ≡ Err flaw → flaw.number ≡ cause.TRUNCATED
unfolding read number
number_truncated n at bytes flaw e = short_is (ltb (length bytes) n) (flaw_at cause.TRUNCATED at) flaw _ refl e

run_truncated : (n at : ℕ) (bytes : List ℕ) (flaw : Flaw) → read (run n) at bytes ≡ Err flaw → flaw.number ≡ cause.TRUNCATED
unfolding read run
run_truncated n at bytes flaw e = short_is (ltb (length bytes) n) (flaw_at cause.TRUNCATED at) flaw _ refl e

pub taken_ok : {A : Type 0} (form : Form A) (at : ℕ) (bytes : List ℕ) (found : Found A) → read form at bytes ≡ Ok found → operand form at bytes ≡ Ok found
unfolding operand
taken_ok form at bytes found e = rw e refl

stopped : {A : Type 0} (form : Form A) (at : ℕ) (bytes : List ℕ) (flaw : Flaw) → read form at bytes ≡ Err flaw → flaw.number ≡ cause.TRUNCATED → operand form at bytes ≡ Err cause.CODE_SHAPE
unfolding operand
stopped form at bytes flaw e is = rw (e, is) refl

pub number_stopped : (n at : ℕ) (bytes : List ℕ) (flaw : Flaw) → read (number n) at bytes ≡ Err flaw → operand (number n) at bytes ≡ Err cause.CODE_SHAPE
number_stopped n at bytes flaw e = stopped (number n) at bytes flaw e (number_truncated n at bytes flaw e)

pub run_stopped : (n at : ℕ) (bytes : List ℕ) (flaw : Flaw) → read (run n) at bytes ≡ Err flaw → operand (run n) at bytes ≡ Err cause.CODE_SHAPE
run_stopped n at bytes flaw e = stopped (run n) at bytes flaw e (run_truncated n at bytes flaw e)

pub ruleset taken = (taken_ok, number_stopped, run_stopped)

-- ---- an operand, and what follows it

by_read : {A : Type 0} (form : Form A) (g : A → Form Spelled) (at : ℕ) (bytes : List ℕ) (result : Result (Found A) Flaw) (found : Found A) → read form at bytes ≡ result → numbered result ≡ Ok found → judged (form >>= g) at bytes ≡ judged (g found.0) found.1 found.2
unfolding judged
by_read {A = A} form g at bytes (Ok other) found is e =
    let same : other ≡ found = cc in
    ap judge (read_after form g at bytes other is) ∙ ap (λ (f : Found A). judge (read (g f.0) f.1 f.2)) same
by_read form g at bytes (Err flaw) found is e = absurd cc

by_flaw : {A : Type 0} (form : Form A) (g : A → Form Spelled) (at : ℕ) (bytes : List ℕ) (result : Result (Found A) Flaw) (refusal : ℕ) → read form at bytes ≡ result → numbered result ≡ Err refusal → judged (form >>= g) at bytes ≡ Err refusal
unfolding judged
by_flaw form g at bytes (Ok other) refusal is e = absurd cc
by_flaw form g at bytes (Err flaw) refusal is e =
    let same : number_of_flaw flaw ≡ refusal = cc in
    ap judge (read_stops form g at bytes flaw is) ∙ ap (λ (n : ℕ). (let r : Result (Found Instr) ℕ = Err n in r)) same

-- what follows an operand is judged behind it
pub judged_after : {A : Type 0} (form : Form A) (g : A → Form Spelled) (at : ℕ) (bytes : List ℕ) (found : Found A) → operand form at bytes ≡ Ok found → judged (form >>= g) at bytes ≡ judged (g found.0) found.1 found.2
unfolding operand
judged_after form g at bytes found e = by_read form g at bytes (read form at bytes) found refl e

-- where an operand stops, so does what it belongs to
pub judged_stops : {A : Type 0} (form : Form A) (g : A → Form Spelled) (at : ℕ) (bytes : List ℕ) (refusal : ℕ) → operand form at bytes ≡ Err refusal → judged (form >>= g) at bytes ≡ Err refusal
unfolding operand
judged_stops form g at bytes refusal e = by_flaw form g at bytes (read form at bytes) refusal refl e

pub judged_plain : (i : Instr) (at : ℕ) (bytes : List ℕ) → judged (whole (instr i)) at bytes ≡ Ok (i, at, bytes)
unfolding judged read
judged_plain i at bytes = refl

-- ---- the same for operands themselves

operand_by_read : {A B : Type 0} (form : Form A) (g : A → Form B) (at : ℕ) (bytes : List ℕ) (result : Result (Found A) Flaw) (found : Found A) → read form at bytes ≡ result → numbered result ≡ Ok found → operand (form >>= g) at bytes ≡ operand (g found.0) found.1 found.2
unfolding operand
operand_by_read {A = A} form g at bytes (Ok other) found is e =
    let same : other ≡ found = cc in
    ap numbered (read_after form g at bytes other is) ∙ ap (λ (f : Found A). numbered (read (g f.0) f.1 f.2)) same
operand_by_read form g at bytes (Err flaw) found is e = absurd cc

operand_by_flaw : {A B : Type 0} (form : Form A) (g : A → Form B) (at : ℕ) (bytes : List ℕ) (result : Result (Found A) Flaw) (refusal : ℕ) → read form at bytes ≡ result → numbered result ≡ Err refusal → operand (form >>= g) at bytes ≡ Err refusal
unfolding operand
operand_by_flaw form g at bytes (Ok other) refusal is e = absurd cc
operand_by_flaw {B = B} form g at bytes (Err flaw) refusal is e =
    let same : number_of_flaw flaw ≡ refusal = cc in
    ap numbered (read_stops form g at bytes flaw is) ∙ ap (λ (n : ℕ). (let r : Result (Found B) ℕ = Err n in r)) same

pub operand_after : {A B : Type 0} (form : Form A) (g : A → Form B) (at : ℕ) (bytes : List ℕ) (found : Found A) → operand form at bytes ≡ Ok found → operand (form >>= g) at bytes ≡ operand (g found.0) found.1 found.2
unfolding operand
operand_after form g at bytes found e = operand_by_read form g at bytes (read form at bytes) found refl e

pub operand_stops : {A B : Type 0} (form : Form A) (g : A → Form B) (at : ℕ) (bytes : List ℕ) (refusal : ℕ) → operand form at bytes ≡ Err refusal → operand (form >>= g) at bytes ≡ Err refusal
unfolding operand
operand_stops form g at bytes refusal e = operand_by_flaw form g at bytes (read form at bytes) refusal refl e

pub operand_whole : {A : Type 0} (x : A) (at : ℕ) (bytes : List ℕ) → operand (whole x) at bytes ≡ Ok (x, at, bytes)
unfolding operand read
operand_whole x at bytes = refl
