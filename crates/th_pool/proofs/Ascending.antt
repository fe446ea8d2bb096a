-- The entries of a pool that was read stand one behind the other, so the first flaw in their order is
-- the one at the least offset.
use Rattle.std.proofs.Common.{◌≡◌, ℕ, zero, suc, ◌+◌, ◌-◌, ◌<◌, ◌≤◌, Bool, true, false, cond, ltb, leb, ◌&&◌, List, [], ◌∷◌, length, take, drop, Result, Ok, Err, refl, sym, ap, subst, ◌∙◌, arith, inl, inr}
use Rattle.std.specs.Prelude.{Option, Some, None, nat_lt, nat_le}
use Rattle.std.specs.List.{filter_map, cons_option, AllByRecursion}
use Rattle.std.proofs.lemmas.Bool.{le-leb, leb-true}
use Rattle.std.proofs.lemmas.List.{drop-drop}
use Rattle.th_syntax.specs.declared.cause.TheConstants as cause
use Rattle.th_syntax.specs.declared.refusal.Flaw.{Flaw}
use Rattle.th_syntax.specs.Forms.{Form, whole, ◌>>=◌, Placed, Found, number_of, read}
use Rattle.th_syntax.specs.ClassBytes.{Entry, Pool, number, u1, u2, demand, content, entry, slot, slots, takes_two, pool}
use Rattle.th_syntax.specs.PoolChecks.{entries_ascend, refers_well, entry_flaw, entry_flaws}
use Rattle.th_syntax.specs.Flaws.{NotBehind, IsFirst}
use Rattle.th_syntax.proofs.ReadingParts.{read_behind, read_split, read_whole, read_demand, read_refusal}
use Rattle.th_pool.proofs.Entries.{allows, with_tag, behind_tag}
use Rattle.th_pool.proofs.Loop.{rest_of, counted, behind_count}

-- ---- reading gives ascending offsets

both : (a b : Bool) → (a && b) ≡ true → (a ≡ true) × (b ≡ true)
both true b e = (refl, e)
both false b e = absurd cc

passed : {A : Type 0} (b : Bool) (d : Flaw) (x y : A) → cond b (Err d) (Ok x) ≡ (let r : Result A Flaw = Ok y in r) → x ≡ y
passed true d x y e = absurd cc
passed false d x y e = cc

-- a number stands where the reading stood, and ends behind it
number_place : (n at : ℕ) (bytes : List ℕ) (found : Found (Placed ℕ)) → read (number n) at bytes ≡ Ok found → (found.0.at ≡ at) × (found.1 ≡ at + n)
unfolding read number
number_place n at bytes found e =
    let made : Found (Placed ℕ) = (record { at = at; value = number_of (take n bytes) }, at + n, drop n bytes) in
    let same : made ≡ found = passed (ltb (length bytes) n) (record { number = cause.TRUNCATED; offset = at }) made found e in
    (ap (λ (f : Found (Placed ℕ)). f.0.at) (sym same), ap (λ (f : Found (Placed ℕ)). f.1) (sym same))

whole_found : {A : Type 0} (x : A) (at : ℕ) (bytes : List ℕ) (found : Found A) → read (whole x) at bytes ≡ Ok found → (found.0 ≡ x) × (found.1 ≡ at)
whole_found {A = A} x at bytes found e =
    let made : Found A = (x, at, bytes) in
    let two : (let r : Result (Found A) Flaw = Ok made in r) ≡ Ok found = sym (read_whole x at bytes) ∙ e in
    let same : made ≡ found = cc in
    (ap (λ (f : Found A). f.0) (sym same), ap (λ (f : Found A). f.1) (sym same))

demand_found : {B : Type 0} (test : Bool) (place refusal : ℕ) (g : Unit {0} → Form B) (at : ℕ) (bytes : List ℕ) (found : Found B) → read (demand test place refusal >>= g) at bytes ≡ Ok found → read (g tt) at bytes ≡ Ok found
demand_found true place refusal g at bytes found e = sym (read_demand true place refusal g at bytes refl) ∙ e
demand_found {B = B} false place refusal g at bytes found e =
    absurd (let never : (let r : Result (Found B) Flaw = Err (record { number = refusal; offset = place }) in r) ≡ Ok found = sym (read_refusal false place refusal g at bytes refl) ∙ e in cc)

-- slots that ascend from an offset ascend from a lower one
ascend_earlier : (low at : ℕ) (slots : Pool) → low ≤ at → entries_ascend at slots ≡ true → entries_ascend low slots ≡ true
ascend_earlier low at [] le up = refl
ascend_earlier low at (None ∷ slots) le up = ascend_earlier low at slots le up
ascend_earlier low at (Some e ∷ slots) le up =
    let two = both (nat_le at e.at) (entries_ascend (e.at + 1) slots) up in
    let here : at ≤ e.at = leb-true _ _ two.0 in
    let test : leb low e.at ≡ true = le-leb _ _ (omega arith) in
    rw test two.1

-- an entry stands where the reading stood, and ends behind its tag
entry_place : (left at : ℕ) (bytes : List ℕ) (found : Found (Placed Entry)) → read (entry left) at bytes ≡ Ok found → (found.0.at ≡ at) × (at + 1 ≤ found.1)
unfolding entry
entry_place left at bytes found e =
    let one = read_split u1 (behind_tag left) at bytes found e in
    let tag = number_place 1 at bytes one.0 one.1 in
    let rest = demand_found (allows left one.0.0.value) one.0.0.at cause.POOL (λ known. with_tag one.0.0) one.0.1 one.0.2 found one.2 in
    let two = read_split (content one.0.0.value) (λ value. whole (record { at = one.0.0.at; value = value })) one.0.1 one.0.2 found rest in
    let far = read_behind (content one.0.0.value) one.0.1 one.0.2 two.0 two.1 in
    let made : Placed Entry = record { at = one.0.0.at; value = two.0.0 } in
    let last = whole_found made two.0.1 two.0.2 found two.2 in
    let from : found.0.at ≡ one.0.0.at = ap (λ (p : Placed Entry). p.at) last.0 in
    let low : one.0.1 ≤ two.0.1 = far.0 in
    let end : found.1 ≡ two.0.1 = last.1 in
    let begin : one.0.1 ≡ at + 1 = tag.1 in
    (from ∙ tag.0, omega arith)

-- what an index leads to stands where the reading stood
slot_place : (second : Bool) (left at : ℕ) (bytes : List ℕ) (found : Found (Option (Placed Entry))) (others : Pool) → read (slot second left) at bytes ≡ Ok found → entries_ascend found.1 others ≡ true → entries_ascend at (found.0 ∷ others) ≡ true
unfolding slot
slot_place true left at bytes found others e up =
    let last = whole_found None at bytes found e in
    rw last.0 (ap (λ (k : ℕ). entries_ascend k others) (sym last.1) ∙ up)
slot_place false left at bytes found others e up =
    let one = read_split (entry left) (λ x. whole (Some x)) at bytes found e in
    let place = entry_place left at bytes one.0 one.1 in
    let last = whole_found (Some one.0.0) one.0.1 one.0.2 found one.2 in
    let here : one.0.0.at ≡ at = place.0 in
    let end : found.1 ≡ one.0.1 = last.1 in
    let test : leb at one.0.0.at ≡ true = le-leb _ _ (omega arith) in
    let room : one.0.0.at + 1 ≤ found.1 = (let far : at + 1 ≤ one.0.1 = place.1 in omega arith) in
    rw (last.0, test) (ascend_earlier (one.0.0.at + 1) found.1 others room up)

-- the indices of a pool, and the pool
pub slots_ascend : (second : Bool) (left at : ℕ) (bytes : List ℕ) (found : Found Pool) → read (slots second left) at bytes ≡ Ok found → entries_ascend at found.0 ≡ true
unfolding slots
slots_ascend second zero at bytes found e = rw (whole_found [] at bytes found e).0 refl
slots_ascend second (suc left) at bytes found e =
    let one = read_split (slot second left) (rest_of left) at bytes found e in
    let two = read_split (slots (takes_two one.0.0) left) (λ others. whole (one.0.0 ∷ others)) one.0.1 one.0.2 found one.2 in
    let made : Pool = one.0.0 ∷ two.0.0 in
    let last = whole_found made two.0.1 two.0.2 found two.2 in
    rw last.0 (slot_place second left at bytes one.0 two.0.0 one.1 (slots_ascend (takes_two one.0.0) left one.0.1 one.0.2 two.0 two.1))

pub pool_ascends : (at : ℕ) (bytes : List ℕ) (found : Found Pool) → read pool at bytes ≡ Ok found → entries_ascend 0 found.0 ≡ true
unfolding pool
pool_ascends at bytes found e =
    let one = read_split u2 counted at bytes found e in
    let rest = demand_found (nat_lt 0 one.0.0.value) one.0.0.at cause.POOL (λ counts. behind_count one.0.0) one.0.1 one.0.2 found one.2 in
    let two = read_split (slots false (one.0.0.value - 1)) (λ others. whole (None ∷ others)) one.0.1 one.0.2 found rest in
    let made : Pool = None ∷ two.0.0 in
    let last = whole_found made two.0.1 two.0.2 found two.2 in
    rw last.0 (ascend_earlier 0 one.0.1 two.0.0 (omega arith) (slots_ascend false (one.0.0.value - 1) one.0.1 one.0.2 two.0 two.1))

-- ---- the first flaw of ascending entries

-- the flaw of an entry, where it doesn't refer well
one_flaw : (at : ℕ) (b : Bool) (P : Flaw → Type 0) → P (record { number = cause.POOL; offset = at }) → (rest : List Flaw) → AllByRecursion P rest → AllByRecursion P (cons_option (cond b None (Some (record { number = cause.POOL; offset = at }))) rest)
one_flaw at true P here rest all = all
one_flaw at false P here rest all = (here, all)

-- what stands behind an offset stands behind a lower one
all_later : (at low : ℕ) → low ≤ at → (flaws : List Flaw) → AllByRecursion (λ f. at ≤ f.offset) flaws → AllByRecursion (λ f. low ≤ f.offset) flaws
all_later at low le [] all = tt
all_later at low le (f ∷ flaws) all = ((let h : at ≤ f.offset = all.0 in omega arith), all_later at low le flaws all.1)

-- the flaws of ascending entries stand at this offset or later
all_behind : (test : Pool) (at : ℕ) (slots : Pool) → entries_ascend at slots ≡ true → AllByRecursion (λ f. at ≤ f.offset) (filter_map (entry_flaw test) slots)
all_behind test at [] up = tt
all_behind test at (None ∷ slots) up = all_behind test at slots up
all_behind test at (Some e ∷ slots) up =
    let two = both (nat_le at e.at) (entries_ascend (e.at + 1) slots) up in
    let here : at ≤ e.at = leb-true _ _ two.0 in
    one_flaw e.at (refers_well test e.value) (λ f. at ≤ f.offset) here (filter_map (entry_flaw test) slots) (all_later (e.at + 1) at (omega arith) (filter_map (entry_flaw test) slots) (all_behind test (e.at + 1) slots two.1))

-- what stands behind an offset comes after what stands before it
all_above : (at : ℕ) (flaw : Flaw) → flaw.offset < at → (flaws : List Flaw) → AllByRecursion (λ f. at ≤ f.offset) flaws → AllByRecursion (NotBehind flaw) flaws
all_above at flaw lower [] all = tt
all_above at flaw lower (f ∷ flaws) all = (inl (let h : at ≤ f.offset = all.0 in omega arith), all_above at flaw lower flaws all.1)

-- the first flaw is that of this entry, or it is among those behind it
first_or_later : (b : Bool) (at : ℕ) (rest : List Flaw) (flaw : Flaw) (others : List Flaw) → AllByRecursion (λ f. at + 1 ≤ f.offset) rest → (rest ≡ flaw ∷ others → AllByRecursion (NotBehind flaw) others)
    → cons_option (cond b None (Some (record { number = cause.POOL; offset = at }))) rest ≡ flaw ∷ others → AllByRecursion (NotBehind flaw) others
first_or_later true at rest flaw others behind later e = later e
first_or_later false at rest flaw others behind later e =
    let here : (let f : Flaw = record { number = cause.POOL; offset = at } in f) ≡ flaw = cc in
    let same : rest ≡ others = cc in
    let at_it : flaw.offset ≡ at = ap (λ (f : Flaw). f.offset) (sym here) in
    subst (AllByRecursion (NotBehind flaw)) same (all_above (at + 1) flaw (omega arith) rest behind)

-- the flaw that is first in the order of the entries comes before the others
pub others_behind : (test : Pool) (at : ℕ) (slots : Pool) (flaw : Flaw) (others : List Flaw) → entries_ascend at slots ≡ true → filter_map (entry_flaw test) slots ≡ flaw ∷ others → AllByRecursion (NotBehind flaw) others
others_behind test at [] flaw others up e = absurd cc
others_behind test at (None ∷ slots) flaw others up e = others_behind test at slots flaw others up e
others_behind test at (Some p ∷ slots) flaw others up e =
    let two = both (nat_le at p.at) (entries_ascend (p.at + 1) slots) up in
    first_or_later (refers_well test p.value) p.at (filter_map (entry_flaw test) slots) flaw others (all_behind test (p.at + 1) slots two.1) (λ is. others_behind test (p.at + 1) slots flaw others two.1 is) e

pub is_first : (pool : Pool) (flaw : Flaw) (others : List Flaw) → entries_ascend 0 pool ≡ true → entry_flaws pool ≡ flaw ∷ others → IsFirst (entry_flaws pool) flaw
unfolding entry_flaws
is_first pool flaw others up e =
    let here : IsFirst (flaw ∷ others) flaw = record { found = (0, omega arith, refl); least = (inr (refl, omega arith), others_behind pool 0 pool flaw others up e) } in
    subst (λ (fs : List Flaw). IsFirst fs flaw) (sym e) here

-- a pool that was read from the bytes of a file at an offset, with the bytes of the file behind it
pub pool_in_file : (at : ℕ) (bytes rest : List ℕ) (x : Pool) (behind : ℕ) (others : List ℕ) → rest ≡ drop at bytes → read pool at rest ≡ Ok (x, behind, others) → read pool at (drop at bytes) ≡ Ok (x, behind, drop behind bytes)
pool_in_file at bytes rest x behind others is e =
    let here : read pool at (drop at bytes) ≡ Ok (x, behind, others) = ap (read pool at) (sym is) ∙ e in
    let b = read_behind pool at (drop at bytes) (x, behind, others) here in
    let sum : at + (behind - at) ≡ behind = (let far : at ≤ behind = b.0 in omega arith) in
    let same : others ≡ drop behind bytes = b.1 ∙ drop-drop (behind - at) at bytes ∙ ap (λ (k : ℕ). drop k bytes) sum in
    here ∙ ap (λ (r : List ℕ). let f : Result (Found Pool) Flaw = Ok (x, behind, r) in f) same
