-- Code without flaws is the spellings of its instructions, one behind the other.
use Rattle.std.proofs.Common.{◌≡◌, ℕ, zero, suc, ◌+◌, ◌-◌, ◌≤◌, List, [], ◌∷◌, length, drop, Option, Some, None, Result, Ok, Err, refl, sym, ap, subst, ◌∙◌, arith, add-zero}
use Rattle.std.specs.List.{filter_map, cons_option}
use Rattle.th_syntax.specs.declared.instr.Instr.{Instr}
use Rattle.th_syntax.specs.declared.refusal.Flaw.{Flaw}
use Rattle.th_syntax.specs.Forms.{◌>>=◌, Placed, Stands, Found, read}
use Rattle.th_syntax.specs.ClassBytes.{Pool, u1}
use Rattle.th_syntax.specs.CodeBytes.{Spelled, instr, flawed, among, rows, instruction}
use Rattle.th_syntax.specs.Decoding.{spelled_by, decoded, instr_of, instrs_in, instr_flaw, flow_flaws, or_else, flaws_in, AreSpelled, none, more}
use Rattle.th_syntax.proofs.Reading.{stands_read, read_stands}
use Rattle.th_syntax.proofs.ReadingParts.{read_behind, read_split, read_length, number_place}

-- the bytes of an instruction are passed over
skipped : (pool : Pool) (k pc : ℕ) (bytes : List ℕ) → k ≤ length bytes → decoded pool k pc bytes ≡ decoded pool 0 (pc + k) (drop k bytes)
unfolding decoded
skipped pool zero pc bytes le = ap (λ (n : ℕ). decoded pool 0 n bytes) (sym (add-zero pc))
skipped pool (suc k) pc [] le = absurd (omega arith)
skipped pool (suc k) pc (b ∷ bytes) le =
    skipped pool k (pc + 1) bytes (omega arith) ∙ ap (λ (n : ℕ). decoded pool 0 n (drop k bytes)) (let sum : (pc + 1) + k ≡ pc + suc k = omega arith in sum)

-- an instruction has at least one byte
pub instruction_ahead : (pool : Pool) (pc : ℕ) (bytes : List ℕ) (found : Found Spelled) → read (instruction pool) pc bytes ≡ Ok found → pc + 1 ≤ found.1
unfolding instruction
instruction_ahead pool pc bytes found e =
    let one = read_split u1 (λ code. among (rows pool) code.value code.at code.at) pc bytes found e in
    let begin : one.0.1 ≡ pc + 1 = (number_place 1 pc bytes one.0 one.1).1 in
    let far : one.0.1 ≤ found.1 = (read_behind (among (rows pool) one.0.0.value one.0.0.at one.0.0.at) one.0.1 one.0.2 found one.2).0 in
    omega arith

-- behind what an instruction's bytes spell the decoding goes on
pub decoded_ok : (pool : Pool) (pc b : ℕ) (bytes : List ℕ) (found : Found Spelled) → read (instruction pool) pc (b ∷ bytes) ≡ Ok found → decoded pool 0 pc (b ∷ bytes) ≡ record { at = pc; value = found.0 } ∷ decoded pool 0 found.1 found.2
unfolding decoded
decoded_ok pool pc b bytes found e =
    let ahead = instruction_ahead pool pc (b ∷ bytes) found e in
    let behind = read_behind (instruction pool) pc (b ∷ bytes) found e in
    let sum = read_length (instruction pool) pc (b ∷ bytes) found e in
    let k : ℕ = (found.1 - pc) - 1 in
    let next : found.1 - pc ≡ suc k = omega arith in
    let rest : found.2 ≡ drop k bytes = behind.1 ∙ ap (λ (n : ℕ). drop n (b ∷ bytes)) next in
    let room : k ≤ length bytes = omega arith in
    let place : (pc + 1) + k ≡ found.1 = omega arith in
    let later : decoded pool k (pc + 1) bytes ≡ decoded pool 0 found.1 found.2 = skipped pool k (pc + 1) bytes room ∙ ap (λ (n : ℕ). decoded pool 0 n (drop k bytes)) place ∙ ap (decoded pool 0 found.1) (sym rest) in
    let first : Placed Spelled = record { at = pc; value = found.0 } in
    rw e (ap (λ (more : List (Placed Spelled)). first ∷ more) later)

-- behind bytes that spell nothing it goes on at the next one
pub decoded_err : (pool : Pool) (pc b : ℕ) (bytes : List ℕ) (flaw : Flaw) → read (instruction pool) pc (b ∷ bytes) ≡ Err flaw
    → decoded pool 0 pc (b ∷ bytes) ≡ record { at = pc; value = (spelled_by pc (Err flaw)).0 } ∷ decoded pool 0 (pc + 1) bytes
unfolding decoded
decoded_err pool pc b bytes flaw e = rw e refl

-- ---- from no flaw to spellings

-- what these spellings make of no flaw
abbrev Gives : Pool → ℕ → ℕ → ℕ → List ℕ → List (Placed Spelled) → Type 0
Gives pool max_locals start pc bytes spelled = filter_map (instr_flaw max_locals start) spelled ≡ [] → AreSpelled pool pc bytes (filter_map instr_of spelled)

one_given : (pool : Pool) (max_locals start pc b : ℕ) (bytes : List ℕ) (s : Spelled) (behind : ℕ) (others : List ℕ) (spelled : List (Placed Spelled)) → Stands (instruction pool) pc (b ∷ bytes) s behind others
    → Gives pool max_locals start behind others spelled → Gives pool max_locals start pc (b ∷ bytes) (record { at = pc; value = s } ∷ spelled)
one_given pool max_locals start pc b bytes (flawed number numbers) behind others spelled stands later e = absurd cc
one_given pool max_locals start pc b bytes (instr i) behind others spelled stands later e =
    more i behind others (filter_map instr_of spelled) stands (later (rest_none (instr_flaw max_locals start (record { at = pc; value = instr i })) (filter_map (instr_flaw max_locals start) spelled) e))
  where
    rest_none : (o : Option Flaw) (flaws : List Flaw) → cons_option o flaws ≡ [] → flaws ≡ []
    rest_none None flaws e = e
    rest_none (Some flaw) flaws e = absurd cc

by_reading : (pool : Pool) (max_locals start pc b : ℕ) (bytes : List ℕ) (result : Result (Found Spelled) Flaw) → read (instruction pool) pc (b ∷ bytes) ≡ result
    → ((found : Found Spelled) → read (instruction pool) pc (b ∷ bytes) ≡ Ok found → Gives pool max_locals start found.1 found.2 (decoded pool 0 found.1 found.2)) → Gives pool max_locals start pc (b ∷ bytes) (decoded pool 0 pc (b ∷ bytes))
by_reading pool max_locals start pc b bytes (Err flaw) is later = subst (Gives pool max_locals start pc (b ∷ bytes)) (sym (decoded_err pool pc b bytes flaw is)) (λ e. absurd cc)
by_reading pool max_locals start pc b bytes (Ok found) is later =
    subst (Gives pool max_locals start pc (b ∷ bytes)) (sym (decoded_ok pool pc b bytes found is))
    (one_given pool max_locals start pc b bytes found.0 found.1 found.2 (decoded pool 0 found.1 found.2) (read_stands (instruction pool) pc (b ∷ bytes) found is) (later found is))

given : (fuel : ℕ) (pool : Pool) (max_locals start pc : ℕ) (bytes : List ℕ) → length bytes ≤ fuel → Gives pool max_locals start pc bytes (decoded pool 0 pc bytes)
unfolding decoded
given fuel pool max_locals start pc [] le e = none
given zero pool max_locals start pc (b ∷ bytes) le e = absurd (omega arith)
given (suc fuel) pool max_locals start pc (b ∷ bytes) le e =
    by_reading pool max_locals start pc b bytes (read (instruction pool) pc (b ∷ bytes)) refl
    (λ found is. given fuel pool max_locals start found.1 found.2
    (let ahead = instruction_ahead pool pc (b ∷ bytes) found is in let sum = read_length (instruction pool) pc (b ∷ bytes) found is in omega arith)) e

pub flawless_spelled : (pool : Pool) (max_locals start : ℕ) (bytes : List ℕ) → flaws_in pool max_locals start bytes ≡ [] → AreSpelled pool 0 bytes (instrs_in pool bytes)
unfolding flaws_in instrs_in
flawless_spelled pool max_locals start bytes e =
    given (length bytes) pool max_locals start 0 bytes (omega arith) (instrs_none (filter_map (instr_flaw max_locals start) (decoded pool 0 0 bytes)) (flow_flaws start (instrs_in pool bytes)) e)
  where
    instrs_none : (flaws flow : List Flaw) → or_else flaws flow ≡ [] → flaws ≡ []
    instrs_none [] flow e = refl
    instrs_none (flaw ∷ flaws) flow e = absurd cc

-- ---- from spellings to instructions

spelled_front : (pool : Pool) (pc : ℕ) (bytes : List ℕ) (i : Instr) (behind : ℕ) (others : List ℕ) (instrs : List (ℕ × Instr)) → Stands (instruction pool) pc bytes (instr i) behind others
    → filter_map instr_of (decoded pool 0 behind others) ≡ instrs → filter_map instr_of (decoded pool 0 pc bytes) ≡ (pc, i) ∷ instrs
spelled_front pool pc [] i behind others instrs stands later =
    absurd (let sum = read_length (instruction pool) pc [] (instr i, behind, others) (stands_read (instruction pool) pc [] (instr i) behind others stands) in
    let ahead = instruction_ahead pool pc [] (instr i, behind, others) (stands_read (instruction pool) pc [] (instr i) behind others stands) in omega arith)
spelled_front pool pc (b ∷ bytes) i behind others instrs stands later =
    ap (filter_map instr_of) (decoded_ok pool pc b bytes (instr i, behind, others) (stands_read (instruction pool) pc (b ∷ bytes) (instr i) behind others stands))
    ∙ ap (λ (rest : List (ℕ × Instr)). (pc, i) ∷ rest) later

spelled_are : (pool : Pool) (pc : ℕ) (bytes : List ℕ) (instrs : List (ℕ × Instr)) → AreSpelled pool pc bytes instrs → filter_map instr_of (decoded pool 0 pc bytes) ≡ instrs
unfolding decoded
spelled_are pool pc bytes instrs none = refl
spelled_are pool pc bytes instrs (more {pc = at} {bytes = front} i behind others rest stands later) = spelled_front pool at front i behind others rest stands (spelled_are pool behind others rest later)

pub spelled_decoded : (pool : Pool) (bytes : List ℕ) (instrs : List (ℕ × Instr)) → AreSpelled pool 0 bytes instrs → instrs_in pool bytes ≡ instrs
unfolding instrs_in
spelled_decoded pool bytes instrs are = spelled_are pool 0 bytes instrs are
