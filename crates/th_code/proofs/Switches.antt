-- What stands behind a switch.
use Rattle.std.proofs.Common.{◌≡◌, ℕ, ◌-◌, ◌%◌, ◌^◌, Bool, true, false, List, [], ◌∷◌, map, Result, Ok, Err, refl, ap, ◌∙◌}
use Rattle.std.specs.Prelude.{ℤ, None, int_le, nat_lt}
use Rattle.th_syntax.specs.declared.cause.TheConstants as cause
use Rattle.th_syntax.specs.declared.instr.Instr.{Instr}
use Rattle.th_syntax.specs.declared.instr.Instr.TheVariants.{TableSwitch, LookupSwitch}
use Rattle.th_syntax.specs.Flaws.{unless}
use Rattle.th_syntax.specs.Forms.{Form, ◌>>=◌, Placed, Found, read}
use Rattle.th_syntax.specs.ClassBytes.{u4, run, demand, times}
use Rattle.th_syntax.specs.CodeBytes.{Spelled, plain, checked, target, padding, i4, count_between, table_switch, match_pair, keys_ascend, lookup_switch}
use Rattle.th_syntax.proofs.ReadingParts.{read_demand, read_refusal}
use Rattle.th_code.specs.Judged.{operand, judge, judged}
use Rattle.th_code.specs.Switches.{targets_of, pairs_of, mapped, rising_after}
use Rattle.th_code.proofs.Operands.{judged_after, judged_stops, judged_plain}
use Rattle.th_code.proofs.Cases.{rising}

-- ---- a demand

demanded : (test : Bool) (place : ℕ) (g : Unit {0} → Form Spelled) (at : ℕ) (bytes : List ℕ) → test ≡ true → judged (demand test place cause.CODE_SHAPE >>= g) at bytes ≡ judged (g tt) at bytes
unfolding judged
demanded test place g at bytes holds = ap judge (read_demand test place cause.CODE_SHAPE g at bytes holds)

not_met : (test : Bool) (place : ℕ) (g : Unit {0} → Form Spelled) (at : ℕ) (bytes : List ℕ) → test ≡ false → judged (demand test place cause.CODE_SHAPE >>= g) at bytes ≡ Err cause.CODE_SHAPE
unfolding judged
not_met test place g at bytes fails = ap judge (read_refusal test place cause.CODE_SHAPE g at bytes fails)

-- what was seen of what was found
abbrev Seen : {A B : Type 0} → (A → B) → Result (Found A) ℕ → B → ℕ → List ℕ → Type 0
Seen {A = A} f r y b u = (x : A) × (r ≡ Ok (x, b, u)) × (f x ≡ y)

seen_of : {A B : Type 0} (f : A → B) (r : Result (Found A) ℕ) (y : B) (b : ℕ) (u : List ℕ) → mapped f r ≡ Ok (y, b, u) → Seen f r y b u
seen_of {A = A} {B = B} f (Ok found) y b u e =
    let same : (let p : Found B = (f found.0, found.1, found.2) in p) ≡ (y, b, u) = cc in
    let places : (let p : Found A = (found.0, found.1, found.2) in p) ≡ (found.0, b, u) = ap (λ (p : Found B). (let q : Found A = (found.0, p.1, p.2) in q)) same in
    (found.0, ap (λ (p : Found A). (let r : Result (Found A) ℕ = Ok p in r)) places, ap (λ (p : Found B). p.0) same)
seen_of f (Err n) y b u e = absurd cc

missed : {A B : Type 0} (f : A → B) (r : Result (Found A) ℕ) (n : ℕ) → mapped f r ≡ Err n → r ≡ Err n
missed f (Ok found) n e = absurd cc
missed {A = A} f (Err m) n e = let same : m ≡ n = cc in ap (λ (k : ℕ). (let r : Result (Found A) ℕ = Err k in r)) same

-- ---- tableswitch

table_made : ℕ → ℤ → ℤ → List ℤ → Form Spelled
table_made pc other low targets = plain (TableSwitch low (map (target pc) targets) (target pc other))

table_counted : ℕ → ℤ → ℤ → ℤ → Unit {0} → Form Spelled
table_counted pc other low high ordered = times (count_between low high) i4 >>= table_made pc other low

table_high : ℕ → ℤ → ℤ → ℤ → Form Spelled
table_high pc other low high = demand (int_le low high) pc cause.CODE_SHAPE >>= table_counted pc other low high

table_low : ℕ → ℤ → ℤ → Form Spelled
table_low pc other low = i4 >>= table_high pc other low

table_other : ℕ → ℤ → Form Spelled
table_other pc other = i4 >>= table_low pc other

table_padded : ℕ → Placed (List ℕ) → Form Spelled
table_padded pc skipped = i4 >>= table_other pc

pub table_stops_0 : (pc at : ℕ) (bytes : List ℕ) (n : ℕ) → operand (run (3 - pc % 4)) at bytes ≡ Err n → judged (table_switch pc) at bytes ≡ Err n
unfolding table_padded table_other table_low table_high table_counted table_made
table_stops_0 pc at bytes n f = judged_stops (padding pc) (table_padded pc) at bytes n f

pub table_stops_1 : (pc at : ℕ) (bytes : List ℕ) (s : Placed (List ℕ)) (b0 : ℕ) (u0 : List ℕ) (n : ℕ) → operand (run (3 - pc % 4)) at bytes ≡ Ok (s, b0, u0) → operand i4 b0 u0 ≡ Err n → judged (table_switch pc) at bytes ≡ Err n
unfolding table_padded table_other table_low table_high table_counted table_made
table_stops_1 pc at bytes s b0 u0 n e0 f = judged_after (padding pc) (table_padded pc) at bytes (s, b0, u0) e0 ∙ judged_stops i4 (table_other pc) b0 u0 n f

pub table_stops_2 : (pc at : ℕ) (bytes : List ℕ) (s : Placed (List ℕ)) (b0 : ℕ) (u0 : List ℕ) (other : ℤ) (b1 : ℕ) (u1 : List ℕ) (n : ℕ) → operand (run (3 - pc % 4)) at bytes ≡ Ok (s, b0, u0) → operand i4 b0 u0 ≡ Ok (other, b1, u1) → operand i4 b1 u1 ≡ Err n → judged (table_switch pc) at bytes ≡ Err n
unfolding table_padded table_other table_low table_high table_counted table_made
table_stops_2 pc at bytes s b0 u0 other b1 u1 n e0 e1 f = judged_after (padding pc) (table_padded pc) at bytes (s, b0, u0) e0 ∙ judged_after i4 (table_other pc) b0 u0 (other, b1, u1) e1 ∙ judged_stops i4 (table_low pc other) b1 u1 n f

pub table_stops_3 : (pc at : ℕ) (bytes : List ℕ) (s : Placed (List ℕ)) (b0 : ℕ) (u0 : List ℕ) (other : ℤ) (b1 : ℕ) (u1 : List ℕ) (low : ℤ) (b2 : ℕ) (u2 : List ℕ) (n : ℕ) → operand (run (3 - pc % 4)) at bytes ≡ Ok (s, b0, u0) → operand i4 b0 u0 ≡ Ok (other, b1, u1) → operand i4 b1 u1 ≡ Ok (low, b2, u2) → operand i4 b2 u2 ≡ Err n → judged (table_switch pc) at bytes ≡ Err n
unfolding table_padded table_other table_low table_high table_counted table_made
table_stops_3 pc at bytes s b0 u0 other b1 u1 low b2 u2 n e0 e1 e2 f = judged_after (padding pc) (table_padded pc) at bytes (s, b0, u0) e0 ∙ judged_after i4 (table_other pc) b0 u0 (other, b1, u1) e1 ∙ judged_after i4 (table_low pc other) b1 u1 (low, b2, u2) e2 ∙ judged_stops i4 (table_high pc other low) b2 u2 n f

pub table_unordered : (pc at : ℕ) (bytes : List ℕ) (s : Placed (List ℕ)) (b0 : ℕ) (u0 : List ℕ) (other : ℤ) (b1 : ℕ) (u1 : List ℕ) (low : ℤ) (b2 : ℕ) (u2 : List ℕ) (high : ℤ) (b3 : ℕ) (u3 : List ℕ) → operand (run (3 - pc % 4)) at bytes ≡ Ok (s, b0, u0) → operand i4 b0 u0 ≡ Ok (other, b1, u1) → operand i4 b1 u1 ≡ Ok (low, b2, u2) → operand i4 b2 u2 ≡ Ok (high, b3, u3) → int_le low high ≡ false → judged (table_switch pc) at bytes ≡ Err cause.CODE_SHAPE
unfolding table_padded table_other table_low table_high table_counted table_made
table_unordered pc at bytes s b0 u0 other b1 u1 low b2 u2 high b3 u3 e0 e1 e2 e3 f = judged_after (padding pc) (table_padded pc) at bytes (s, b0, u0) e0 ∙ judged_after i4 (table_other pc) b0 u0 (other, b1, u1) e1 ∙ judged_after i4 (table_low pc other) b1 u1 (low, b2, u2) e2 ∙ judged_after i4 (table_high pc other low) b2 u2 (high, b3, u3) e3 ∙ not_met (int_le low high) pc (table_counted pc other low high) b3 u3 f

pub table_short : (pc at : ℕ) (bytes : List ℕ) (s : Placed (List ℕ)) (b0 : ℕ) (u0 : List ℕ) (other : ℤ) (b1 : ℕ) (u1 : List ℕ) (low : ℤ) (b2 : ℕ) (u2 : List ℕ) (high : ℤ) (b3 : ℕ) (u3 : List ℕ) (n : ℕ) → operand (run (3 - pc % 4)) at bytes ≡ Ok (s, b0, u0) → operand i4 b0 u0 ≡ Ok (other, b1, u1) → operand i4 b1 u1 ≡ Ok (low, b2, u2) → operand i4 b2 u2 ≡ Ok (high, b3, u3) → int_le low high ≡ true → mapped (targets_of pc) (operand (times (count_between low high) i4) b3 u3) ≡ Err n → judged (table_switch pc) at bytes ≡ Err n
unfolding table_padded table_other table_low table_high table_counted table_made
table_short pc at bytes s b0 u0 other b1 u1 low b2 u2 high b3 u3 n e0 e1 e2 e3 o f = judged_after (padding pc) (table_padded pc) at bytes (s, b0, u0) e0 ∙ judged_after i4 (table_other pc) b0 u0 (other, b1, u1) e1 ∙ judged_after i4 (table_low pc other) b1 u1 (low, b2, u2) e2 ∙ judged_after i4 (table_high pc other low) b2 u2 (high, b3, u3) e3 ∙ demanded (int_le low high) pc (table_counted pc other low high) b3 u3 o ∙ judged_stops (times (count_between low high) i4) (table_made pc other low) b3 u3 n (missed (targets_of pc) (operand (times (count_between low high) i4) b3 u3) n f)

table_end : (pc : ℕ) (other low : ℤ) (raw : List ℤ) (ts : List ℕ) (o b : ℕ) (u : List ℕ) → targets_of pc raw ≡ ts → o ≡ target pc other → judged (table_made pc other low raw) b u ≡ Ok (TableSwitch low ts o, b, u)
unfolding table_made targets_of
table_end pc other low raw ts o b u e f = judged_plain (TableSwitch low (map (target pc) raw) (target pc other)) b u ∙ rw (e, f) refl

table_cases : (pc : ℕ) (other low high : ℤ) (b3 : ℕ) (u3 : List ℕ) (ts : List ℕ) (o b4 : ℕ) (u4 : List ℕ) → mapped (targets_of pc) (operand (times (count_between low high) i4) b3 u3) ≡ Ok (ts, b4, u4) → o ≡ target pc other → judged (table_counted pc other low high tt) b3 u3 ≡ Ok (TableSwitch low ts o, b4, u4)
unfolding table_counted
table_cases pc other low high b3 u3 ts o b4 u4 f is =
    let seen = seen_of (targets_of pc) (operand (times (count_between low high) i4) b3 u3) ts b4 u4 f in
    judged_after (times (count_between low high) i4) (table_made pc other low) b3 u3 (seen.0, b4, u4) seen.1 ∙ table_end pc other low seen.0 ts o b4 u4 seen.2 is

pub table_read : (pc at : ℕ) (bytes : List ℕ) (s : Placed (List ℕ)) (b0 : ℕ) (u0 : List ℕ) (other : ℤ) (b1 : ℕ) (u1 : List ℕ) (low : ℤ) (b2 : ℕ) (u2 : List ℕ) (high : ℤ) (b3 : ℕ) (u3 : List ℕ) (ts : List ℕ) (o b4 : ℕ) (u4 : List ℕ) → operand (run (3 - pc % 4)) at bytes ≡ Ok (s, b0, u0) → operand i4 b0 u0 ≡ Ok (other, b1, u1) → operand i4 b1 u1 ≡ Ok (low, b2, u2) → operand i4 b2 u2 ≡ Ok (high, b3, u3) → int_le low high ≡ true → mapped (targets_of pc) (operand (times (count_between low high) i4) b3 u3) ≡ Ok (ts, b4, u4) → o ≡ target pc other → judged (table_switch pc) at bytes ≡ Ok (TableSwitch low ts o, b4, u4)
unfolding table_padded table_other table_low table_high table_counted table_made
table_read pc at bytes s b0 u0 other b1 u1 low b2 u2 high b3 u3 ts o b4 u4 e0 e1 e2 e3 h f is = judged_after (padding pc) (table_padded pc) at bytes (s, b0, u0) e0 ∙ judged_after i4 (table_other pc) b0 u0 (other, b1, u1) e1 ∙ judged_after i4 (table_low pc other) b1 u1 (low, b2, u2) e2 ∙ judged_after i4 (table_high pc other low) b2 u2 (high, b3, u3) e3 ∙ demanded (int_le low high) pc (table_counted pc other low high) b3 u3 h ∙ table_cases pc other low high b3 u3 ts o b4 u4 f is

pub ruleset tables = (table_stops_0, table_stops_1, table_stops_2, table_stops_3, table_unordered, table_short, table_read)

-- ---- lookupswitch

lookup_made : ℕ → ℤ → List (ℤ × ℤ) → Form Spelled
lookup_made pc other pairs = checked (LookupSwitch (map (λ pair. (pair.0, target pc pair.1)) pairs) (target pc other)) (unless (keys_ascend pairs) cause.CODE_SHAPE)

lookup_counted : ℕ → ℤ → ℕ → Unit {0} → Form Spelled
lookup_counted pc other count natural = times count match_pair >>= lookup_made pc other

lookup_count : ℕ → ℤ → Placed ℕ → Form Spelled
lookup_count pc other count = demand (nat_lt count.value (2 ^ 31)) pc cause.CODE_SHAPE >>= lookup_counted pc other count.value

lookup_other : ℕ → ℤ → Form Spelled
lookup_other pc other = u4 >>= lookup_count pc other

lookup_padded : ℕ → Placed (List ℕ) → Form Spelled
lookup_padded pc skipped = i4 >>= lookup_other pc

pub lookup_stops_0 : (pc at : ℕ) (bytes : List ℕ) (n : ℕ) → operand (run (3 - pc % 4)) at bytes ≡ Err n → judged (lookup_switch pc) at bytes ≡ Err n
unfolding lookup_padded lookup_other lookup_count lookup_counted lookup_made
lookup_stops_0 pc at bytes n f = judged_stops (padding pc) (lookup_padded pc) at bytes n f

pub lookup_stops_1 : (pc at : ℕ) (bytes : List ℕ) (s : Placed (List ℕ)) (b0 : ℕ) (u0 : List ℕ) (n : ℕ) → operand (run (3 - pc % 4)) at bytes ≡ Ok (s, b0, u0) → operand i4 b0 u0 ≡ Err n → judged (lookup_switch pc) at bytes ≡ Err n
unfolding lookup_padded lookup_other lookup_count lookup_counted lookup_made
lookup_stops_1 pc at bytes s b0 u0 n e0 f = judged_after (padding pc) (lookup_padded pc) at bytes (s, b0, u0) e0 ∙ judged_stops i4 (lookup_other pc) b0 u0 n f

pub lookup_stops_2 : (pc at : ℕ) (bytes : List ℕ) (s : Placed (List ℕ)) (b0 : ℕ) (u0 : List ℕ) (other : ℤ) (b1 : ℕ) (u1 : List ℕ) (n : ℕ) → operand (run (3 - pc % 4)) at bytes ≡ Ok (s, b0, u0) → operand i4 b0 u0 ≡ Ok (other, b1, u1) → operand u4 b1 u1 ≡ Err n → judged (lookup_switch pc) at bytes ≡ Err n
unfolding lookup_padded lookup_other lookup_count lookup_counted lookup_made
lookup_stops_2 pc at bytes s b0 u0 other b1 u1 n e0 e1 f = judged_after (padding pc) (lookup_padded pc) at bytes (s, b0, u0) e0 ∙ judged_after i4 (lookup_other pc) b0 u0 (other, b1, u1) e1 ∙ judged_stops u4 (lookup_count pc other) b1 u1 n f

pub lookup_negative : (pc at : ℕ) (bytes : List ℕ) (s : Placed (List ℕ)) (b0 : ℕ) (u0 : List ℕ) (other : ℤ) (b1 : ℕ) (u1 : List ℕ) (p count b2 : ℕ) (u2 : List ℕ) → operand (run (3 - pc % 4)) at bytes ≡ Ok (s, b0, u0) → operand i4 b0 u0 ≡ Ok (other, b1, u1) → operand u4 b1 u1 ≡ Ok (record { at = p; value = count }, b2, u2) → nat_lt count (2 ^ 31) ≡ false → judged (lookup_switch pc) at bytes ≡ Err cause.CODE_SHAPE
unfolding lookup_padded lookup_other lookup_count lookup_counted lookup_made
lookup_negative pc at bytes s b0 u0 other b1 u1 p count b2 u2 e0 e1 e2 f = judged_after (padding pc) (lookup_padded pc) at bytes (s, b0, u0) e0 ∙ judged_after i4 (lookup_other pc) b0 u0 (other, b1, u1) e1 ∙ judged_after u4 (lookup_count pc other) b1 u1 (record { at = p; value = count }, b2, u2) e2 ∙ not_met (nat_lt count (2 ^ 31)) pc (lookup_counted pc other count) b2 u2 f

pub lookup_short : (pc at : ℕ) (bytes : List ℕ) (s : Placed (List ℕ)) (b0 : ℕ) (u0 : List ℕ) (other : ℤ) (b1 : ℕ) (u1 : List ℕ) (p count b2 : ℕ) (u2 : List ℕ) (n : ℕ) → operand (run (3 - pc % 4)) at bytes ≡ Ok (s, b0, u0) → operand i4 b0 u0 ≡ Ok (other, b1, u1) → operand u4 b1 u1 ≡ Ok (record { at = p; value = count }, b2, u2) → nat_lt count (2 ^ 31) ≡ true → mapped (pairs_of pc) (operand (times count match_pair) b2 u2) ≡ Err n → judged (lookup_switch pc) at bytes ≡ Err n
unfolding lookup_padded lookup_other lookup_count lookup_counted lookup_made
lookup_short pc at bytes s b0 u0 other b1 u1 p count b2 u2 n e0 e1 e2 o f = judged_after (padding pc) (lookup_padded pc) at bytes (s, b0, u0) e0 ∙ judged_after i4 (lookup_other pc) b0 u0 (other, b1, u1) e1 ∙ judged_after u4 (lookup_count pc other) b1 u1 (record { at = p; value = count }, b2, u2) e2 ∙ demanded (nat_lt count (2 ^ 31)) pc (lookup_counted pc other count) b2 u2 o ∙ judged_stops (times count match_pair) (lookup_made pc other) b2 u2 n (missed (pairs_of pc) (operand (times count match_pair) b2 u2) n f)

lookup_end : (pc : ℕ) (other : ℤ) (raw : List (ℤ × ℤ)) (ps : List (ℤ × ℕ)) (o b : ℕ) (u : List ℕ) → pairs_of pc raw ≡ ps → rising_after None ps ≡ true → o ≡ target pc other → judged (lookup_made pc other raw) b u ≡ Ok (LookupSwitch ps o, b, u)
unfolding lookup_made pairs_of
lookup_end pc other raw ps o b u e up f =
    let ascends : keys_ascend raw ≡ true = rising pc raw ∙ ap (rising_after None) e ∙ up in
    rw ascends (judged_plain (LookupSwitch (pairs_of pc raw) (target pc other)) b u ∙ rw (e, f) refl)

refused_judged : (at : ℕ) (bytes : List ℕ) (i : Instr) → judged (checked i (cause.CODE_SHAPE ∷ [])) at bytes ≡ Err cause.CODE_SHAPE
unfolding judged read
refused_judged at bytes i = refl

lookup_falls : (pc : ℕ) (other : ℤ) (raw : List (ℤ × ℤ)) (ps : List (ℤ × ℕ)) (b : ℕ) (u : List ℕ) → pairs_of pc raw ≡ ps → rising_after None ps ≡ false → judged (lookup_made pc other raw) b u ≡ Err cause.CODE_SHAPE
unfolding lookup_made pairs_of
lookup_falls pc other raw ps b u e up =
    let ascends : keys_ascend raw ≡ false = rising pc raw ∙ ap (rising_after None) e ∙ up in
    rw ascends (refused_judged b u (LookupSwitch (map (λ (pair : ℤ × ℤ). (pair.0, target pc pair.1)) raw) (target pc other)))

lookup_cases : (pc : ℕ) (other : ℤ) (count b2 : ℕ) (u2 : List ℕ) (ps : List (ℤ × ℕ)) (o b3 : ℕ) (u3 : List ℕ) → mapped (pairs_of pc) (operand (times count match_pair) b2 u2) ≡ Ok (ps, b3, u3) → rising_after None ps ≡ true → o ≡ target pc other → judged (lookup_counted pc other count tt) b2 u2 ≡ Ok (LookupSwitch ps o, b3, u3)
unfolding lookup_counted
lookup_cases pc other count b2 u2 ps o b3 u3 f up is =
    let seen = seen_of (pairs_of pc) (operand (times count match_pair) b2 u2) ps b3 u3 f in
    judged_after (times count match_pair) (lookup_made pc other) b2 u2 (seen.0, b3, u3) seen.1 ∙ lookup_end pc other seen.0 ps o b3 u3 seen.2 up is

lookup_unsorted : (pc : ℕ) (other : ℤ) (count b2 : ℕ) (u2 : List ℕ) (ps : List (ℤ × ℕ)) (b3 : ℕ) (u3 : List ℕ) → mapped (pairs_of pc) (operand (times count match_pair) b2 u2) ≡ Ok (ps, b3, u3) → rising_after None ps ≡ false → judged (lookup_counted pc other count tt) b2 u2 ≡ Err cause.CODE_SHAPE
unfolding lookup_counted
lookup_unsorted pc other count b2 u2 ps b3 u3 f up =
    let seen = seen_of (pairs_of pc) (operand (times count match_pair) b2 u2) ps b3 u3 f in
    judged_after (times count match_pair) (lookup_made pc other) b2 u2 (seen.0, b3, u3) seen.1 ∙ lookup_falls pc other seen.0 ps b3 u3 seen.2 up

pub lookup_fallen : (pc at : ℕ) (bytes : List ℕ) (s : Placed (List ℕ)) (b0 : ℕ) (u0 : List ℕ) (other : ℤ) (b1 : ℕ) (u1 : List ℕ) (p count b2 : ℕ) (u2 : List ℕ) (ps : List (ℤ × ℕ)) (b3 : ℕ) (u3 : List ℕ) → operand (run (3 - pc % 4)) at bytes ≡ Ok (s, b0, u0) → operand i4 b0 u0 ≡ Ok (other, b1, u1) → operand u4 b1 u1 ≡ Ok (record { at = p; value = count }, b2, u2) → nat_lt count (2 ^ 31) ≡ true → mapped (pairs_of pc) (operand (times count match_pair) b2 u2) ≡ Ok (ps, b3, u3) → rising_after None ps ≡ false → judged (lookup_switch pc) at bytes ≡ Err cause.CODE_SHAPE
unfolding lookup_padded lookup_other lookup_count lookup_counted lookup_made
lookup_fallen pc at bytes s b0 u0 other b1 u1 p count b2 u2 ps b3 u3 e0 e1 e2 o f up = judged_after (padding pc) (lookup_padded pc) at bytes (s, b0, u0) e0 ∙ judged_after i4 (lookup_other pc) b0 u0 (other, b1, u1) e1 ∙ judged_after u4 (lookup_count pc other) b1 u1 (record { at = p; value = count }, b2, u2) e2 ∙ demanded (nat_lt count (2 ^ 31)) pc (lookup_counted pc other count) b2 u2 o ∙ lookup_unsorted pc other count b2 u2 ps b3 u3 f up

pub lookup_read : (pc at : ℕ) (bytes : List ℕ) (s : Placed (List ℕ)) (b0 : ℕ) (u0 : List ℕ) (other : ℤ) (b1 : ℕ) (u1 : List ℕ) (p count b2 : ℕ) (u2 : List ℕ) (ps : List (ℤ × ℕ)) (to b3 : ℕ) (u3 : List ℕ) → operand (run (3 - pc % 4)) at bytes ≡ Ok (s, b0, u0) → operand i4 b0 u0 ≡ Ok (other, b1, u1) → operand u4 b1 u1 ≡ Ok (record { at = p; value = count }, b2, u2) → nat_lt count (2 ^ 31) ≡ true → mapped (pairs_of pc) (operand (times count match_pair) b2 u2) ≡ Ok (ps, b3, u3) → rising_after None ps ≡ true → to ≡ target pc other → judged (lookup_switch pc) at bytes ≡ Ok (LookupSwitch ps to, b3, u3)
unfolding lookup_padded lookup_other lookup_count lookup_counted lookup_made
lookup_read pc at bytes s b0 u0 other b1 u1 p count b2 u2 ps to b3 u3 e0 e1 e2 o f up is = judged_after (padding pc) (lookup_padded pc) at bytes (s, b0, u0) e0 ∙ judged_after i4 (lookup_other pc) b0 u0 (other, b1, u1) e1 ∙ judged_after u4 (lookup_count pc other) b1 u1 (record { at = p; value = count }, b2, u2) e2 ∙ demanded (nat_lt count (2 ^ 31)) pc (lookup_counted pc other count) b2 u2 o ∙ lookup_cases pc other count b2 u2 ps to b3 u3 f up is

pub ruleset lookups = (lookup_stops_0, lookup_stops_1, lookup_stops_2, lookup_negative, lookup_short, lookup_fallen, lookup_read)
