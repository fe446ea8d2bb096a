-- One instruction after the other.
use Rattle.std.proofs.Common.{◌≡◌, ℕ, ◌+◌, ◌<◌, ◌≤◌, Bool, true, false, ◌||◌, List, [], ◌∷◌, ◌++◌, length, Ok, Err, refl, sym, ap, ◌∙◌, append_assoc, arith}
use Rattle.std.specs.Prelude.{◌==◌, nat_le, nat_lt}
use Rattle.std.specs.List.{filter_map}
use Rattle.std.proofs.Math.ListN.{set, length-set}
use Rattle.std.proofs.lemmas.Bool.{eqb-true}
use Rattle.std.proofs.lemmas.List.{append-nil}
use Rattle.th_syntax.specs.declared.instr.Instr.{Instr}
use Rattle.th_syntax.specs.Flaws.{flaw_at}
use Rattle.th_syntax.specs.Forms.{Placed}
use Rattle.th_syntax.specs.ClassBytes.{Pool}
use Rattle.th_syntax.specs.CodeBytes.{Spelled, instr, instruction}
use Rattle.th_syntax.specs.Decoding.{decoded, instr_of, instrs_in, locals_named, instr_flaw, is_start}
use Rattle.th_syntax.proofs.ReadingParts.{read_length}
use Rattle.th_syntax.proofs.Spelling.{instruction_ahead, decoded_ok}
use Rattle.th_base.specs.declared.fail.Fail.{Fail}
use Rattle.th_base.specs.declared.fail.Fail.TheVariants.{Refused, NoMemory}
use Rattle.th_pool.specs.Gives.{IfRefused}
use Rattle.std.proofs.lemmas.Bool.Decides.{nat_tests}
use Rattle.th_code.specs.Judged.{judged, Takes, as_read}
use Rattle.th_code.specs.Starts.{is_marked}
use Rattle.th_code.specs.Decoded.{IsRead, IsStopped, placed_fail}
use Rattle.th_code.proofs.Passing.{read_is, flaw_here, start_added, mark_by}

-- What was passed over, where the rest of the code stands at an offset.
pub record Passes (pool : Pool) (max_locals at : ℕ) (code : List ℕ) (instrs : List (ℕ × Instr)) (starts : List Bool) (pc : ℕ) (rest : List ℕ) : Type 0 where
  pub flaws : filter_map (instr_flaw max_locals at) (decoded pool 0 pc rest) ≡ filter_map (instr_flaw max_locals at) (decoded pool 0 0 code)
  pub found : instrs ++ filter_map instr_of (decoded pool 0 pc rest) ≡ instrs_in pool code
  pub marked : (offset : ℕ) → is_marked starts offset ≡ is_start instrs offset
  pub inside : (offset : ℕ) → is_start instrs offset ≡ true → offset < length code
  pub room : length starts ≡ length code
  pub place : pc + length rest ≡ length code

pub starts_out : (pool : Pool) (max_locals at : ℕ) (code : List ℕ) (starts : List Bool) → length starts ≡ length code → ((offset : ℕ) → is_marked starts offset ≡ false) → Passes pool max_locals at code [] starts 0 code
unfolding instrs_in
starts_out pool max_locals at code starts len none = record {
  flaws = refl;
  found = refl;
  marked = none;
  inside = λ offset e. absurd (let never : false ≡ true = e in cc);
  room = len;
  place = omega arith;
}

-- the offset behind what was read, and what is left
abbrev Ahead : ℕ → List ℕ → ℕ → List ℕ → Type 0
Ahead pc rest behind others = (pc + 1 ≤ behind) × (behind + length others ≡ pc + length rest)

ahead : (pool : Pool) (pc : ℕ) (rest : List ℕ) (i : Instr) (behind : ℕ) (others : List ℕ) → judged (instruction pool) pc rest ≡ Ok (i, behind, others) → Ahead pc rest behind others
ahead pool pc rest i behind others e =
    let is = read_is pool pc rest i behind others e in
    (instruction_ahead pool pc rest (instr i, behind, others) is, read_length (instruction pool) pc rest (instr i, behind, others) is)

pub shrinks : (pool : Pool) (pc : ℕ) (rest : List ℕ) (i : Instr) (behind : ℕ) (others : List ℕ) → judged (instruction pool) pc rest ≡ Ok (i, behind, others) → length others < length rest
shrinks pool pc rest i behind others e =
    let a = ahead pool pc rest i behind others e in
    let far : pc + 1 ≤ behind = a.0 in
    let sum : behind + length others ≡ pc + length rest = a.1 in
    omega arith

no_flaw : (pool : Pool) (max_locals at pc : ℕ) (i : Instr) (more : List (Placed Spelled)) → nat_le (locals_named i) max_locals ≡ true → filter_map (instr_flaw max_locals at) (record { at = pc; value = instr i } ∷ more) ≡ filter_map (instr_flaw max_locals at) more
no_flaw pool max_locals at pc i more holds = rw holds refl

a_flaw : (pool : Pool) (max_locals at pc : ℕ) (i : Instr) (more : List (Placed Spelled)) → nat_le (locals_named i) max_locals ≡ false → filter_map (instr_flaw max_locals at) (record { at = pc; value = instr i } ∷ more) ≡ flaw_at 11 (at + pc) ∷ filter_map (instr_flaw max_locals at) more
a_flaw pool max_locals at pc i more fails = rw fails refl

inside_by : (b : Bool) (instrs : List (ℕ × Instr)) (pc offset n : ℕ) → (pc == offset) ≡ b → pc < n → (is_start instrs offset || b) ≡ true → (is_start instrs offset ≡ true → offset < n) → offset < n
inside_by true instrs pc offset n is lt e old = let same : pc ≡ offset = eqb-true pc offset is in omega arith
inside_by false instrs pc offset n is lt e old = old (cut (is_start instrs offset) e)
  where
    cut : (b : Bool) → (b || false) ≡ true → b ≡ true
    cut true e = refl
    cut false e = e

pub passes_on : (pool : Pool) (max_locals at : ℕ) (code : List ℕ) (instrs : List (ℕ × Instr)) (starts : List Bool) (pc : ℕ) (rest : List ℕ) (i : Instr) (behind : ℕ) (others : List ℕ)
    → Passes pool max_locals at code instrs starts pc rest → 0 < length rest → judged (instruction pool) pc rest ≡ Ok (i, behind, others) → nat_le (locals_named i) max_locals ≡ true
    → Passes pool max_locals at code (instrs ++ (pc, i) ∷ []) (set starts pc true) behind others
passes_on pool max_locals at code instrs starts pc [] i behind others p lt e holds = absurd (omega arith)
passes_on pool max_locals at code instrs starts pc (b ∷ bytes) i behind others p lt e holds =
    let is = read_is pool pc (b ∷ bytes) i behind others e in
    let one = decoded_ok pool pc b bytes (instr i, behind, others) is in
    let a = ahead pool pc (b ∷ bytes) i behind others e in
    let sum : behind + length others ≡ pc + length (b ∷ bytes) = a.1 in
    let total : pc + length (b ∷ bytes) ≡ length code = p.place in
    let there : pc < length code = omega arith in
    let wide : length starts ≡ length code = p.room in
    let here : pc < length starts = omega arith in
    record {
      flaws = sym (ap (filter_map (instr_flaw max_locals at)) one ∙ no_flaw pool max_locals at pc i (decoded pool 0 behind others) holds) ∙ p.flaws;
      found = append_assoc instrs ((pc, i) ∷ []) (filter_map instr_of (decoded pool 0 behind others)) ∙ sym (ap (λ (ds : List (Placed Spelled)). instrs ++ filter_map instr_of ds) one) ∙ p.found;
      marked = λ offset. mark_by (pc == offset) starts instrs pc offset refl here (p.marked offset) ∙ sym (start_added instrs pc i offset);
      inside = λ offset e. inside_by (pc == offset) instrs pc offset (length code) refl there (sym (start_added instrs pc i offset) ∙ e) (p.inside offset);
      room = length-set starts pc true ∙ wide;
      place = sum ∙ total;
    }

pub passes_stop : (pool : Pool) (max_locals at : ℕ) (code : List ℕ) (instrs : List (ℕ × Instr)) (starts : List Bool) (pc : ℕ) (rest : List ℕ) (n : ℕ)
    → Passes pool max_locals at code instrs starts pc rest → 0 < length rest → judged (instruction pool) pc rest ≡ Err n → IsStopped pool max_locals at code (flaw_at n (at + pc))
passes_stop pool max_locals at code instrs starts pc [] n p lt e = absurd (omega arith)
passes_stop pool max_locals at code instrs starts pc (b ∷ bytes) n p lt e =
    let begins = flaw_here pool pc b bytes n max_locals at e in
    (begins.0, sym p.flaws ∙ begins.1)

pub passes_short : (pool : Pool) (max_locals at : ℕ) (code : List ℕ) (instrs : List (ℕ × Instr)) (starts : List Bool) (pc : ℕ) (rest : List ℕ) (i : Instr) (behind : ℕ) (others : List ℕ)
    → Passes pool max_locals at code instrs starts pc rest → 0 < length rest → judged (instruction pool) pc rest ≡ Ok (i, behind, others) → nat_le (locals_named i) max_locals ≡ false → IsStopped pool max_locals at code (flaw_at 11 (at + pc))
passes_short pool max_locals at code instrs starts pc [] i behind others p lt e fails = absurd (omega arith)
passes_short pool max_locals at code instrs starts pc (b ∷ bytes) i behind others p lt e fails =
    let is = read_is pool pc (b ∷ bytes) i behind others e in
    let one = decoded_ok pool pc b bytes (instr i, behind, others) is in
    (filter_map (instr_flaw max_locals at) (decoded pool 0 behind others), sym p.flaws ∙ ap (filter_map (instr_flaw max_locals at)) one ∙ a_flaw pool max_locals at pc i (decoded pool 0 behind others) fails)

pub is_passed : (pool : Pool) (max_locals at : ℕ) (code : List ℕ) (instrs : List (ℕ × Instr)) (starts : List Bool) (pc : ℕ) (rest : List ℕ) → Passes pool max_locals at code instrs starts pc rest → length rest ≡ 0 → IsRead pool max_locals at code instrs starts
unfolding decoded
is_passed pool max_locals at code instrs starts pc [] p none = record {
  instrs_are = sym (append-nil instrs) ∙ p.found;
  flawless = sym p.flaws;
  marked = p.marked;
  inside = p.inside;
}
is_passed pool max_locals at code instrs starts pc (b ∷ bytes) p none = absurd (omega arith)

pub fail_stops : (X : Type 0) (pool : Pool) (max_locals at : ℕ) (code : List ℕ) (instrs : List (ℕ × Instr)) (starts : List Bool) (pc : ℕ) (rest : List ℕ) (fail : Fail ℕ)
    → Passes pool max_locals at code instrs starts pc rest → 0 < length rest → Takes as_read (Err fail) (judged (instruction pool) pc rest) → IfRefused {X = X} (Err (placed_fail fail (at + pc))) (IsStopped pool max_locals at code)
fail_stops X pool max_locals at code instrs starts pc rest (Refused n) p lt e = passes_stop pool max_locals at code instrs starts pc rest n p lt e
fail_stops X pool max_locals at code instrs starts pc rest NoMemory p lt e = tt

pub more_so : (n : ℕ) → nat_lt 0 n ≡ true → 0 < n
more_so n e = grind (arith, nat_tests)

pub no_more : (n : ℕ) → nat_lt 0 n ≡ false → n ≡ 0
no_more n e = grind (arith, nat_tests)
