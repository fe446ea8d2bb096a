-- Bytes that are the items of a form and no others: how one form after the other is spelled.
use Rattle.std.proofs.Common.{◌≡◌, ℕ, ◌+◌, ◌<◌, ◌^◌, Bool, true, List, [], ◌∷◌, ◌++◌, length, Ok, refl, sym, ap, subst, ◌∙◌, append_assoc, add-zero, arith}
use Rattle.std.specs.List.{concat, flat_map, AllByRecursion}
use Rattle.std.proofs.lemmas.List.{append-nil, length-append}
use Rattle.th_syntax.specs.Forms.{Form, whole, item, wrong, ◌>>=◌, number_of, Begins, Stands, read}
use Rattle.th_syntax.specs.ClassBytes as form
use Rattle.th_syntax.proofs.Reading.{stands_read}
use Rattle.th_gen.specs.ClassText as text

-- The items of the form are these bytes, and stand for this value.
pub record Spells {A : Type 0} (f : Form A) (at : ℕ) (bytes : List ℕ) (value : A) : Type 0 where
  pub items : List (List ℕ)
  pub spelled : bytes ≡ concat items
  pub begins : Begins f at items (whole value)

concat-append : (xs ys : List (List ℕ)) → concat (xs ++ ys) ≡ concat xs ++ concat ys
concat-append [] ys = refl
concat-append (x ∷ xs) ys = ap (λ (r : List ℕ). x ++ r) (concat-append xs ys) ∙ sym (append_assoc x (concat xs) (concat ys))

begins_then : {A B : Type 0} (f : Form A) (g : A → Form B) (at : ℕ) (items more : List (List ℕ)) (x : A) (y : B)
    → Begins f at items (whole x) → Begins (g x) (at + length (concat items)) more (whole y) → Begins (f >>= g) at (items ++ more) (whole y)
unfolding ◌>>=◌
begins_then f g at [] more x y is rest =
    let here : at + 0 ≡ at = add-zero at in
    subst (λ h. Begins (h >>= g) at more (whole y)) (sym is) (subst (λ (n : ℕ). Begins (g x) n more (whole y)) here rest)
begins_then (whole z) g at (first ∷ items) more x y is rest = absurd is
begins_then (wrong place n) g at (first ∷ items) more x y is rest = absurd is
begins_then (item n next) g at (first ∷ items) more x y is rest =
    let len : length first ≡ n = is.0 in
    let place : at + length (first ++ concat items) ≡ (at + n) + length (concat items) = omega (arith, length-append first (concat items)) in
    (is.0, begins_then (next at first) g (at + n) items more x y is.1 (subst (λ (k : ℕ). Begins (g x) k more (whole y)) place rest))

-- one form after the other
pub spells_then : {A B : Type 0} (f : Form A) (g : A → Form B) (at : ℕ) (xs ys : List ℕ) (x : A) (y : B)
    → Spells f at xs x → Spells (g x) (at + length xs) ys y → Spells (f >>= g) at (xs ++ ys) y
spells_then f g at xs ys x y s t = record {
  items = s.items ++ t.items;
  spelled = ap (λ (r : List ℕ). r ++ ys) s.spelled ∙ ap (λ (r : List ℕ). concat s.items ++ r) t.spelled ∙ sym (concat-append s.items t.items);
  begins = begins_then f g at s.items t.items x y s.begins (subst (λ (r : List ℕ). Begins (g x) (at + length r) t.items (whole y)) s.spelled t.begins);
}

pub spells_whole : {A : Type 0} (x : A) (at : ℕ) → Spells (whole x) at [] x
spells_whole x at = record { items = []; spelled = refl; begins = refl }

-- a value made of what is spelled
pub spells_made : {A B : Type 0} (f : Form A) (make : A → B) (at : ℕ) (xs : List ℕ) (x : A) → Spells f at xs x → Spells (f >>= λ v. whole (make v)) at xs (make x)
spells_made f make at xs x s =
    subst (λ (r : List ℕ). Spells (f >>= λ v. whole (make v)) at r (make x)) (append-nil xs) (spells_then f (λ v. whole (make v)) at xs [] x (make x) s (spells_whole (make x) (at + length xs)))

-- a demand that holds takes no bytes
pub spells_demand : {B : Type 0} (test : Bool) (place n : ℕ) (g : Unit {0} → Form B) (at : ℕ) (ys : List ℕ) (y : B) → test ≡ true → Spells (g tt) at ys y → Spells (form.demand test place n >>= g) at ys y
unfolding form.demand ◌>>=◌
spells_demand test place n g at ys y holds s = rw holds s

-- ---- numbers and runs

number_spells : (n at : ℕ) (bytes : List ℕ) → length bytes ≡ n → Spells (form.number n) at bytes (record { at = at; value = number_of bytes })
unfolding form.number
number_spells n at bytes len = record { items = bytes ∷ []; spelled = sym (append-nil bytes); begins = (len, refl) }

pub u1_spells : (at b : ℕ) → Spells (form.number 1) at (b ∷ []) (record { at = at; value = b })
u1_spells at b =
    let value : number_of (b ∷ []) ≡ b = omega arith in
    subst (λ (v : ℕ). Spells (form.number 1) at (b ∷ []) (record { at = at; value = v })) value (number_spells 1 at (b ∷ []) refl)

u2_value : (n : ℕ) → n < 2 ^ 16 → number_of (text.u2 n) ≡ n
unfolding text.u2
u2_value n lt = omega arith

u4_value : (n : ℕ) → n < 2 ^ 32 → number_of (text.u4 n) ≡ n
unfolding text.u4
u4_value n lt = omega arith

pub u2_length : (n : ℕ) → length (text.u2 n) ≡ 2
unfolding text.u2
u2_length n = refl

pub u4_length : (n : ℕ) → length (text.u4 n) ≡ 4
unfolding text.u4
u4_length n = refl

pub u2_spells : (at n : ℕ) → n < 2 ^ 16 → Spells (form.number 2) at (text.u2 n) (record { at = at; value = n })
u2_spells at n lt =
    subst (λ (v : ℕ). Spells (form.number 2) at (text.u2 n) (record { at = at; value = v })) (u2_value n lt) (number_spells 2 at (text.u2 n) (u2_length n))

pub u4_spells : (at n : ℕ) → n < 2 ^ 32 → Spells (form.number 4) at (text.u4 n) (record { at = at; value = n })
u4_spells at n lt =
    subst (λ (v : ℕ). Spells (form.number 4) at (text.u4 n) (record { at = at; value = v })) (u4_value n lt) (number_spells 4 at (text.u4 n) (u4_length n))

pub run_spells : (at : ℕ) (bytes : List ℕ) → Spells (form.run (length bytes)) at bytes (record { at = at; value = bytes })
unfolding form.run
run_spells at bytes = record { items = bytes ∷ []; spelled = sym (append-nil bytes); begins = (refl, refl) }

-- ---- lists

-- what holds of the items of two lists, place by place
unfoldable pub AllTwo : {X A : Type 0} → (X → A → Type 0) → List X → List A → Type 0
AllTwo P [] [] = Unit {0}
AllTwo P [] (a ∷ ys) = ⊥
AllTwo P (x ∷ xs) [] = ⊥
AllTwo P (x ∷ xs) (a ∷ ys) = P x a × AllTwo P xs ys

pub times_spells : {X A : Type 0} (f : Form A) (bytes : X → List ℕ) (Q : X → Type 0) (P : X → A → Type 0) (each : (x : X) (at : ℕ) → Q x → (a : A) × Spells f at (bytes x) a × P x a)
    (xs : List X) (at : ℕ) → AllByRecursion Q xs → (ys : List A) × Spells (form.times (length xs) f) at (flat_map bytes xs) ys × AllTwo P xs ys
unfolding form.times AllTwo
times_spells f bytes Q P each [] at all = ([], spells_whole [] at, tt)
times_spells {A = A} f bytes Q P each (x ∷ xs) at all =
    let one = each x at all.0 in
    let rest = times_spells f bytes Q P each xs (at + length (bytes x)) all.1 in (
      one.0 ∷ rest.0,
      spells_then f (λ first. form.times (length xs) f >>= λ others. whole (first ∷ others)) at (bytes x) (flat_map bytes xs) one.0 (one.0 ∷ rest.0) one.1
          (spells_made (form.times (length xs) f) (λ (others : List A). one.0 ∷ others) (at + length (bytes x)) (flat_map bytes xs) rest.0 rest.1),
      (one.2, rest.2),
    )

pub counted_spells : {A : Type 0} (f : Form A) (at n : ℕ) (bytes : List ℕ) (ys : List A) → n < 2 ^ 16 → Spells (form.times n f) (at + 2) bytes ys → Spells (form.counted f) at (text.u2 n ++ bytes) ys
unfolding form.counted
counted_spells f at n bytes ys lt s =
    spells_then (form.number 2) (λ count. form.times count.value f) at (text.u2 n) bytes (record { at = at; value = n }) ys (u2_spells at n lt)
    (let place : at + 2 ≡ at + length (text.u2 n) = ap (λ (k : ℕ). at + k) (sym (u2_length n)) in subst (λ (k : ℕ). Spells (form.times n f) k bytes ys) place s)

-- ---- from spelled bytes to bytes that are read

pub spelled_stands : {A : Type 0} (f : Form A) (at : ℕ) (bytes others : List ℕ) (x : A) → Spells f at bytes x → Stands f at (bytes ++ others) x (at + length bytes) others
spelled_stands f at bytes others x s = record {
  items = s.items;
  front = ap (λ (r : List ℕ). r ++ others) s.spelled;
  begins = s.begins;
  behind_is = ap (λ (r : List ℕ). at + length r) s.spelled;
}

pub spelled_read : {A : Type 0} (f : Form A) (at : ℕ) (bytes : List ℕ) (x : A) → Spells f at bytes x → read f at bytes ≡ Ok (x, at + length bytes, [])
spelled_read f at bytes x s =
    ap (read f at) (sym (append-nil bytes)) ∙ stands_read f at (bytes ++ []) x (at + length bytes) [] (spelled_stands f at bytes [] x s)
