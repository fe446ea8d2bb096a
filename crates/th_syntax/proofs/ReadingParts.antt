-- How a form is read: one part after the other. A reader's proof goes by these steps.
use Rattle.std.specs.Prelude.{◌≡◌, ℕ, ◌+◌, ◌-◌, ◌≤◌, Bool, true, false, cond, List, length, take, drop, Result, Ok, Err}
use Rattle.std.specs.List.{concat}
use Rattle.std.proofs.Common.{refl, sym, ap, subst, ◌∙◌, ltb, arith}
use Rattle.std.proofs.lemmas.Bool.{ltb-false}
use Rattle.std.proofs.lemmas.List.{drop-drop, length-append, length-take}
use Rattle.th_syntax.specs.declared.cause.TheConstants as cause
use Rattle.th_syntax.specs.declared.refusal.Flaw.{Flaw}
use Rattle.th_syntax.specs.Flaws.{flaw_at}
use Rattle.th_syntax.specs.Forms.{Form, whole, item, wrong, ◌>>=◌, Placed, number_of, Found, read}
use Rattle.th_syntax.specs.ClassBytes.{number, run, demand}
use Rattle.th_syntax.proofs.Reading.{read_stands}

-- nothing is left to read
pub read_whole : {A : Type 0} (x : A) (at : ℕ) (bytes : List ℕ) → read (whole x) at bytes ≡ Ok (x, at, bytes)
unfolding read
read_whole x at bytes = refl

-- ---- a part that was read, and what follows it

test_ok : {A : Type 0} (b : Bool) (d : Flaw) (r : Result A Flaw) (y : A) → cond b (Err d) r ≡ Ok y → (b ≡ false) × (r ≡ Ok y)
test_ok true d r y e = absurd cc
test_ok false d r y e = (refl, e)

pub read_after : {A B : Type 0} (f : Form A) (g : A → Form B) (at : ℕ) (bytes : List ℕ) (found : Found A) → read f at bytes ≡ Ok found → read (f >>= g) at bytes ≡ read (g found.0) found.1 found.2
unfolding read ◌>>=◌
read_after {A = A} (whole x) g at bytes found e =
    let made : Found A = (x, at, bytes) in
    let same : made ≡ found = cc in
    ap (λ (z : Found A). read (g z.0) z.1 z.2) same
read_after (wrong place number) g at bytes found e = absurd cc
read_after (item n next) g at bytes found e =
    let t = test_ok (ltb (length bytes) n) (record { number = 2; offset = at }) (read (next at (take n bytes)) (at + n) (drop n bytes)) found e in
    rw t.0 (read_after (next at (take n bytes)) g (at + n) (drop n bytes) found t.1)

-- ---- a part that is wrong

test_err : {A B : Type 0} (b : Bool) (d flaw : Flaw) (r : Result A Flaw) (s : Result B Flaw) → (r ≡ Err flaw → s ≡ Err flaw) → cond b (Err d) r ≡ Err flaw → cond b (Err d) s ≡ Err flaw
test_err {B = B} true d flaw r s then_too e = let same : d ≡ flaw = cc in ap (λ (x : Flaw). let t : Result B Flaw = Err x in t) same
test_err false d flaw r s then_too e = then_too e

pub read_stops : {A B : Type 0} (f : Form A) (g : A → Form B) (at : ℕ) (bytes : List ℕ) (flaw : Flaw) → read f at bytes ≡ Err flaw → read (f >>= g) at bytes ≡ Err flaw
unfolding read ◌>>=◌
read_stops (whole x) g at bytes flaw e = absurd cc
read_stops {B = B} (wrong place number) g at bytes flaw e = let same : (let d : Flaw = record { number = number; offset = place } in d) ≡ flaw = cc in ap (λ (x : Flaw). let t : Result (Found B) Flaw = Err x in t) same
read_stops (item n next) g at bytes flaw e =
    test_err (ltb (length bytes) n) (record { number = 2; offset = at }) flaw (read (next at (take n bytes)) (at + n) (drop n bytes)) (read (next at (take n bytes) >>= g) (at + n) (drop n bytes))
    (λ h. read_stops (next at (take n bytes)) g (at + n) (drop n bytes) flaw h) e

-- ---- the same towards an answer

pub step_ok : {A B : Type 0} (f : Form A) (g : A → Form B) (at : ℕ) (bytes : List ℕ) (found : Found A) (answer : Result (Found B) Flaw) → read f at bytes ≡ Ok found → read (g found.0) found.1 found.2 ≡ answer → read (f >>= g) at bytes ≡ answer
step_ok f g at bytes found answer first rest = rw (read_after f g at bytes found first) rest

-- ---- a demand that holds, and one that doesn't

pub read_demand : {B : Type 0} (test : Bool) (place number : ℕ) (g : Unit {0} → Form B) (at : ℕ) (bytes : List ℕ) → test ≡ true → read (demand test place number >>= g) at bytes ≡ read (g tt) at bytes
unfolding read ◌>>=◌ demand
read_demand test place number g at bytes holds = rw holds refl

pub read_refusal : {B : Type 0} (test : Bool) (place number : ℕ) (g : Unit {0} → Form B) (at : ℕ) (bytes : List ℕ) → test ≡ false → read (demand test place number >>= g) at bytes ≡ Err (record { number = number; offset = place })
unfolding read ◌>>=◌ demand
read_refusal test place number g at bytes fails = rw fails refl

-- ---- where the reading stands behind a part

-- the offset behind what was read isn't lower, and the bytes there are those of the whole
pub read_behind : {A : Type 0} (f : Form A) (at : ℕ) (bytes : List ℕ) (found : Found A) → read f at bytes ≡ Ok found → (at ≤ found.1) × (found.2 ≡ drop (found.1 - at) bytes)
unfolding read
read_behind {A = A} (whole x) at bytes found e =
    let made : Found A = (x, at, bytes) in
    let same : made ≡ found = cc in
    let none : at - at ≡ 0 = omega arith in
    subst (λ (z : Found A). (at ≤ z.1) × (z.2 ≡ drop (z.1 - at) bytes)) same (omega arith, ap (λ (k : ℕ). drop k bytes) (sym none))
read_behind (wrong place number) at bytes found e = absurd cc
read_behind (item n next) at bytes found e =
    let t = test_ok (ltb (length bytes) n) (record { number = 2; offset = at }) (read (next at (take n bytes)) (at + n) (drop n bytes)) found e in
    let rest = read_behind (next at (take n bytes)) (at + n) (drop n bytes) found t.1 in
    let far : at + n ≤ found.1 = rest.0 in
    let sum : n + (found.1 - (at + n)) ≡ found.1 - at = omega arith in
    (omega arith, rest.1 ∙ drop-drop (found.1 - (at + n)) n bytes ∙ ap (λ (k : ℕ). drop k bytes) sum)

-- a part and what follows it, where both were read
pub read_split : {A B : Type 0} (f : Form A) (g : A → Form B) (at : ℕ) (bytes : List ℕ) (found : Found B) → read (f >>= g) at bytes ≡ Ok found → (x : Found A) × (read f at bytes ≡ Ok x) × (read (g x.0) x.1 x.2 ≡ Ok found)
read_split {A = A} {B = B} f g at bytes found e = go (read f at bytes) refl
  where
    go : (r : Result (Found A) Flaw) → read f at bytes ≡ r → (x : Found A) × (read f at bytes ≡ Ok x) × (read (g x.0) x.1 x.2 ≡ Ok found)
    go (Ok x) is = (x, is, sym (read_after f g at bytes x is) ∙ e)
    go (Err flaw) is = absurd (let never : (let r : Result (Found B) Flaw = Err flaw in r) ≡ Ok found = sym (read_stops f g at bytes flaw is) ∙ e in cc)

-- ---- what the items of small forms are

passed : {A : Type 0} (b : Bool) (d : Flaw) (x y : A) → cond b (Err d) (Ok x) ≡ (let r : Result A Flaw = Ok y in r) → x ≡ y
passed true d x y e = absurd cc
passed false d x y e = cc

-- a number stands where the reading stood, and ends behind it
pub number_place : (n at : ℕ) (bytes : List ℕ) (found : Found (Placed ℕ)) → read (number n) at bytes ≡ Ok found → (found.0.at ≡ at) × (found.1 ≡ at + n)
unfolding read number
number_place n at bytes found e =
    let made : Found (Placed ℕ) = (record { at = at; value = number_of (take n bytes) }, at + n, drop n bytes) in
    let same : made ≡ found = passed (ltb (length bytes) n) (flaw_at cause.TRUNCATED at) made found e in
    (ap (λ (f : Found (Placed ℕ)). f.0.at) (sym same), ap (λ (f : Found (Placed ℕ)). f.1) (sym same))

-- a run has as many bytes as it was to have
pub run_place : (n at : ℕ) (bytes : List ℕ) (found : Found (Placed (List ℕ))) → read (run n) at bytes ≡ Ok found → (found.0.at ≡ at) × (at + length found.0.value ≡ found.1)
unfolding read run
run_place n at bytes found e =
    let t = test_ok (ltb (length bytes) n) (flaw_at cause.TRUNCATED at) (let r : Result (Found (Placed (List ℕ))) Flaw = Ok (record { at = at; value = take n bytes }, at + n, drop n bytes) in r) found e in
    let long : n ≤ length bytes = ltb-false _ _ t.0 in
    let made : Found (Placed (List ℕ)) = (record { at = at; value = take n bytes }, at + n, drop n bytes) in
    let same : made ≡ found = passed (ltb (length bytes) n) (flaw_at cause.TRUNCATED at) made found e in
    let len : length (take n bytes) ≡ n = omega (arith, length-take n bytes) in (
      ap (λ (f : Found (Placed (List ℕ))). f.0.at) (sym same),
      subst (λ (f : Found (Placed (List ℕ))). at + length f.0.value ≡ f.1) same (ap (λ (k : ℕ). at + k) len),
    )

pub whole_found : {A : Type 0} (x : A) (at : ℕ) (bytes : List ℕ) (found : Found A) → read (whole x) at bytes ≡ Ok found → (found.0 ≡ x) × (found.1 ≡ at)
whole_found {A = A} x at bytes found e =
    let made : Found A = (x, at, bytes) in
    let two : (let r : Result (Found A) Flaw = Ok made in r) ≡ Ok found = sym (read_whole x at bytes) ∙ e in
    let same : made ≡ found = cc in
    (ap (λ (f : Found A). f.0) (sym same), ap (λ (f : Found A). f.1) (sym same))

pub demand_found : {B : Type 0} (test : Bool) (place refusal : ℕ) (g : Unit {0} → Form B) (at : ℕ) (bytes : List ℕ) (found : Found B) → read (demand test place refusal >>= g) at bytes ≡ Ok found → read (g tt) at bytes ≡ Ok found
demand_found true place refusal g at bytes found e = sym (read_demand true place refusal g at bytes refl) ∙ e
demand_found {B = B} false place refusal g at bytes found e =
    absurd (let never : (let r : Result (Found B) Flaw = Err (flaw_at refusal place) in r) ≡ Ok found = sym (read_refusal false place refusal g at bytes refl) ∙ e in cc)

-- what is read and what is left are all the bytes
pub read_length : {A : Type 0} (f : Form A) (at : ℕ) (bytes : List ℕ) (found : Found A) → read f at bytes ≡ Ok found → found.1 + length found.2 ≡ at + length bytes
read_length f at bytes found e =
    let s = read_stands f at bytes found e in
    let behind : found.1 ≡ at + length (concat s.items) = s.behind_is in
    omega (arith, ap length s.front, length-append (concat s.items) found.2)
