-- Members of lists that are mapped, filtered, sorted and joined, and lists that ascend.
use Rattle.std.proofs.Common.{◌≡◌, ℕ, zero, suc, ◌<◌, ◌==◌, ◌⊎◌, inl, inr, Bool, true, false, cond, eqb, List, [], ◌∷◌, ◌++◌, length, get_or, map, refl, sym, ap, subst, ◌∙◌, arith}
use Rattle.std.specs.Prelude.{Contains, filter, nat_eq}
use Rattle.std.specs.List.{AllByRecursion, dedup}
use Rattle.std.specs.List.Sorted.{IsPermutation, IsSorted, IsStrictlySortedBy}
use Rattle.std.specs.Ordering.{nat_cmp}
use Rattle.std.specs.declared.cmp.Ordering.{Ordering}
use Rattle.std.specs.declared.cmp.Ordering.TheVariants.{Less}
use Rattle.std.proofs.lemmas.Bool.{eqb-true, eq-eqb, or_left, or_right}
use Rattle.std.proofs.lemmas.List.Kept.{Contains-dedup_nat, Contains-from_dedup}
use Rattle.std.proofs.lemmas.List.Sorted.{Contains-permutation, IsPermutation-sym}
use Rattle.std.proofs.lemmas.Map.Keys.{IsStrictlyIncreasing-dedup, sorted_from_strictly_increasing}
use Rattle.std.proofs.lemmas.Map.Views.{Contains-from_any}
use Rattle.th_syntax.proofs.Inverting.{all_append}
use Rattle.th_machine.specs.Leading.{is_among}

-- ---- one member more

pub contains_none : {A : Type 0} (x : A) → Contains [] x → ⊥
contains_none x c = let h = c.1 in omega (arith, h)

pub contains_first : {A : Type 0} (x : A) (xs : List A) → Contains (x ∷ xs) x
contains_first x xs = (0, omega arith, refl)

pub contains_later : {A : Type 0} (y : A) (xs : List A) (x : A) → Contains xs x → Contains (y ∷ xs) x
contains_later y xs x c = (suc c.0, (let h = c.1 in omega (arith, h)), c.2)

by_place : {A : Type 0} (y : A) (ys : List A) (x : A) (k : ℕ) → k < length (y ∷ ys) → get_or (y ∷ ys) k x ≡ x → (y ≡ x) ⊎ Contains ys x
by_place y ys x zero h e = inl e
by_place y ys x (suc k) h e = inr (k, omega (arith, h), e)

pub contains_cases : {A : Type 0} (y : A) (ys : List A) (x : A) → Contains (y ∷ ys) x → (y ≡ x) ⊎ Contains ys x
contains_cases y ys x c = by_place y ys x c.0 c.1 c.2

-- ---- members of filtered and mapped lists

first_kept : {A : Type 0} (x : A) (xs : List A) (b : Bool) → b ≡ true → Contains (cond b (x ∷ xs) xs) x
first_kept x xs true e = contains_first x xs
first_kept x xs false e = absurd cc

later_kept : {A : Type 0} (y : A) (xs : List A) (x : A) (b : Bool) → Contains xs x → Contains (cond b (y ∷ xs) xs) x
later_kept y xs x true c = contains_later y xs x c
later_kept y xs x false c = c

pub kept : {A : Type 0} (p : A → Bool) (xs : List A) (x : A) → Contains xs x → p x ≡ true → Contains (filter p xs) x
kept p [] x c e = absurd (contains_none x c)
kept p (y ∷ ys) x c e = elim (contains_cases y ys x c) [
  | inl same ↦ subst (λ z. Contains (cond (p z) (z ∷ filter p ys) (filter p ys)) x) (sym same) (first_kept x (filter p ys) (p x) e)
  | inr more ↦ later_kept y (filter p ys) x (p y) (kept p ys x more e)
]

by_test : {A : Type 0} (p : A → Bool) (y : A) (ys : List A) (x : A) (b : Bool) → p y ≡ b → Contains (cond b (y ∷ filter p ys) (filter p ys)) x
    → (Contains (filter p ys) x → Contains ys x × (p x ≡ true)) → Contains (y ∷ ys) x × (p x ≡ true)
by_test p y ys x true is c rest = elim (contains_cases y (filter p ys) x c) [
  | inl same ↦ (subst (Contains (y ∷ ys)) same (contains_first y ys), ap p (sym same) ∙ is)
  | inr more ↦ (let there = rest more in (contains_later y ys x there.0, there.1))
]
by_test p y ys x false is c rest = let there = rest c in (contains_later y ys x there.0, there.1)

pub of_kept : {A : Type 0} (p : A → Bool) (xs : List A) (x : A) → Contains (filter p xs) x → Contains xs x × (p x ≡ true)
of_kept p [] x c = absurd (contains_none x c)
of_kept p (y ∷ ys) x c = by_test p y ys x (p y) refl c (of_kept p ys x)

pub mapped : {A B : Type 0} (f : A → B) (xs : List A) (x : A) → Contains xs x → Contains (map f xs) (f x)
mapped f [] x c = absurd (contains_none x c)
mapped f (y ∷ ys) x c = elim (contains_cases y ys x c) [
  | inl same ↦ subst (λ z. Contains (f y ∷ map f ys) (f z)) same (contains_first (f y) (map f ys))
  | inr more ↦ contains_later (f y) (map f ys) (f x) (mapped f ys x more)
]

pub of_mapped : {A B : Type 0} (f : A → B) (xs : List A) (y : B) → Contains (map f xs) y → (x : A) × Contains xs x × (f x ≡ y)
of_mapped f [] y c = absurd (contains_none y c)
of_mapped f (x ∷ xs) y c = elim (contains_cases (f x) (map f xs) y c) [
  | inl same ↦ (x, contains_first x xs, same)
  | inr more ↦ (let there = of_mapped f xs y more in (there.0, contains_later x xs there.0 there.1, there.2))
]

-- ---- the test whether a number is among others

pub among_is : (xs : List ℕ) (x : ℕ) → is_among xs x ≡ true → Contains xs x
among_is xs x e = Contains-from_any {eq = nat_eq} (λ a b. eqb-true a b) x xs e

pub is_among_by : (xs : List ℕ) (x : ℕ) → Contains xs x → is_among xs x ≡ true
is_among_by [] x c = absurd (contains_none x c)
is_among_by (y ∷ ys) x c = elim (contains_cases y ys x c) [
  | inl same ↦ or_left (x == y) (is_among ys x) (eq-eqb x y (sym same))
  | inr more ↦ or_right (x == y) (is_among ys x) (is_among_by ys x more)
]

-- ---- sorted numbers, each once

pub sorted_has : (xs ys : List ℕ) (x : ℕ) → IsPermutation xs ys → Contains xs x → Contains (dedup eqb ys) x
sorted_has xs ys x same c = Contains-dedup_nat ys x (Contains-permutation xs ys x same c)

pub of_sorted : (xs ys : List ℕ) (x : ℕ) → IsPermutation xs ys → Contains (dedup eqb ys) x → Contains xs x
of_sorted xs ys x same c = Contains-permutation ys xs x (IsPermutation-sym xs ys same) (Contains-from_dedup eqb ys x c)

pub sorted_ascend : (xs : List ℕ) → IsSorted nat_cmp xs → IsStrictlySortedBy nat_cmp (dedup eqb xs)
sorted_ascend xs sorted = sorted_from_strictly_increasing (dedup eqb xs) (IsStrictlyIncreasing-dedup xs sorted)

-- ---- lists that ascend

pub all_of : {A : Type 0} (P : A → Type 0) (xs : List A) → ((x : A) → Contains xs x → P x) → AllByRecursion P xs
all_of P [] each = tt
all_of P (x ∷ xs) each = (each x (contains_first x xs), all_of P xs (λ y there. each y (contains_later x xs y there)))

-- two lists that ascend, the second above the first, ascend as one
pub ascend_joined : {A : Type 0} (c : A → A → Ordering) (xs ys : List A) → IsStrictlySortedBy c xs → IsStrictlySortedBy c ys
    → ((x y : A) → Contains xs x → Contains ys y → c x y ≡ Less) → IsStrictlySortedBy c (xs ++ ys)
unfolding IsStrictlySortedBy
ascend_joined c [] ys one two below = two
ascend_joined c (x ∷ xs) ys one two below = (
  all_append (λ y. c x y ≡ Less) xs ys one.0 (all_of (λ y. c x y ≡ Less) ys (λ y there. below x y (contains_first x xs) there)),
  ascend_joined c xs ys one.1 two (λ z y left right. below z y (contains_later x xs z left) right),
)
