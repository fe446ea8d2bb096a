-- Lists that ascend by a key: joined, mapped, and made of lists; what is among them.
use Rattle.std.proofs.Common.{◌≡◌, ◌⊎◌, inl, inr, ℕ, zero, suc, ◌<◌, ◌==◌, Bool, true, List, [], ◌∷◌, ◌++◌, length, map, Some, slice_get, refl, sym, ap, subst, arith, ◌∙◌}
use Rattle.std.specs.List.{AllByRecursion, flat_map, list_any}
use Rattle.std.specs.List.Sorted.{IsStrictlySortedBy}
use Rattle.std.specs.declared.cmp.Ordering.{Ordering}
use Rattle.std.specs.declared.cmp.Ordering.TheVariants.{Less, Equal, Greater}
use Rattle.std.specs.Ordering.{nat_cmp, ordering_then}
use Rattle.std.specs.Cmp.{nat_cmp_is}
use Rattle.std.specs.Cmp.Lexicographic.{slice_cmp}
use Rattle.std.proofs.lemmas.Bool.{eqb-true, eq-eqb, or_cases, or_left, or_right}
use Rattle.th_base.specs.IdSet.{has, IsAscending}
use Rattle.th_ir.specs.Program.{Among}
use Rattle.th_ir.specs.FactSets.{AscendBy}
use Rattle.th_ir.proofs.Plain.{some_is}

-- ---- keys

abbrev pub IsBelow : List ℕ → List ℕ → Type 0
IsBelow a b = slice_cmp nat_cmp a b ≡ Less

pub below_first : (x y : ℕ) (xs ys : List ℕ) → x < y → IsBelow (x ∷ xs) (y ∷ ys)
below_first x y xs ys less = ap (λ o. ordering_then o (slice_cmp nat_cmp xs ys)) (sym (nat_cmp_is x y Less less))

pub below_next : (x : ℕ) (xs ys : List ℕ) → IsBelow xs ys → IsBelow (x ∷ xs) (x ∷ ys)
below_next x xs ys less = ap (λ o. ordering_then o (slice_cmp nat_cmp xs ys)) (sym (nat_cmp_is x x Equal refl)) ∙ less

-- of keys as long as each other the order stays when both grow
pub below_longer : (xs ys us vs : List ℕ) → length xs ≡ length ys → IsBelow xs ys → IsBelow (xs ++ us) (ys ++ vs)
below_longer [] [] us vs long less = absurd cc
below_longer [] (y ∷ ys) us vs long less = absurd cc
below_longer (x ∷ xs) [] us vs long less = absurd cc
below_longer (x ∷ xs) (y ∷ ys) us vs long less = by_first (nat_cmp x y) refl (λ e. below_longer xs ys us vs (omega arith) e) less
  where
    by_first : (o : Ordering) → nat_cmp x y ≡ o → (IsBelow xs ys → IsBelow (xs ++ us) (ys ++ vs)) → ordering_then o (slice_cmp nat_cmp xs ys) ≡ Less → ordering_then (nat_cmp x y) (slice_cmp nat_cmp (xs ++ us) (ys ++ vs)) ≡ Less
    by_first Less is more e = ap (λ o. ordering_then o (slice_cmp nat_cmp (xs ++ us) (ys ++ vs))) is
    by_first Equal is more e = ap (λ o. ordering_then o (slice_cmp nat_cmp (xs ++ us) (ys ++ vs))) is ∙ more e
    by_first Greater is more e = absurd cc

-- ---- members

pub among_first : {X : Type 0} (x : X) (xs : List X) → Among (x ∷ xs) x
among_first x xs = (0, refl)

pub among_more : {X : Type 0} (y : X) (xs : List X) (x : X) → Among xs x → Among (y ∷ xs) x
among_more y xs x a = (suc a.0, a.1)

pub among_cases : {X : Type 0} (y : X) (ys : List X) (x : X) → Among (y ∷ ys) x → (y ≡ x) ⊎ Among ys x
among_cases {X} y ys x a = by_place a.0 a.1
  where
    by_place : (k : ℕ) → slice_get (y ∷ ys) k ≡ Some x → (y ≡ x) ⊎ Among ys x
    by_place zero e = inl (some_is y x e)
    by_place (suc k) e = inr (k, e)

pub among_either : {X : Type 0} (xs ys : List X) (x : X) → Among (xs ++ ys) x → Among xs x ⊎ Among ys x
among_either [] ys x a = inr a
among_either (y ∷ xs) ys x a = elim (among_cases y (xs ++ ys) x a) [
  | inl here ↦ inl (0, ap Some here)
  | inr more ↦ elim (among_either xs ys x more) [ inl left ↦ inl (among_more y xs x left) | inr right ↦ inr right ]
]

pub among_left : {X : Type 0} (xs ys : List X) (x : X) → Among xs x → Among (xs ++ ys) x
among_left [] ys x a = let e = a.1 in absurd cc
among_left (y ∷ xs) ys x a = elim (among_cases y xs x a) [
  | inl here ↦ (0, ap Some here)
  | inr more ↦ among_more y (xs ++ ys) x (among_left xs ys x more)
]

pub among_right : {X : Type 0} (xs ys : List X) (x : X) → Among ys x → Among (xs ++ ys) x
among_right [] ys x a = a
among_right (y ∷ xs) ys x a = among_more y (xs ++ ys) x (among_right xs ys x a)

pub among_mapped : {X Y : Type 0} (f : X → Y) (xs : List X) (y : Y) → Among (map f xs) y → (x : X) × Among xs x × (f x ≡ y)
among_mapped f [] y a = let e = a.1 in absurd cc
among_mapped f (x ∷ xs) y a = elim (among_cases (f x) (map f xs) y a) [
  | inl here ↦ (x, (0, refl), here)
  | inr more ↦ (let m = among_mapped f xs y more in (m.0, among_more x xs m.0 m.1, m.2))
]

pub mapped_among : {X Y : Type 0} (f : X → Y) (xs : List X) (x : X) → Among xs x → Among (map f xs) (f x)
mapped_among f [] x a = let e = a.1 in absurd cc
mapped_among f (y ∷ xs) x a = elim (among_cases y xs x a) [
  | inl here ↦ (0, ap (λ z. Some (f z)) here)
  | inr more ↦ among_more (f y) (map f xs) (f x) (mapped_among f xs x more)
]

pub among_flat : {X Y : Type 0} (f : X → List Y) (xs : List X) (y : Y) → Among (flat_map f xs) y → (x : X) × Among xs x × Among (f x) y
among_flat f [] y a = let e = a.1 in absurd cc
among_flat f (x ∷ xs) y a = elim (among_either (f x) (flat_map f xs) y a) [
  | inl here ↦ (x, (0, refl), here)
  | inr more ↦ (let m = among_flat f xs y more in (m.0, among_more x xs m.0 m.1, m.2))
]

pub flat_among : {X Y : Type 0} (f : X → List Y) (xs : List X) (x : X) (y : Y) → Among xs x → Among (f x) y → Among (flat_map f xs) y
flat_among f [] x y a b = let e = a.1 in absurd cc
flat_among f (z ∷ xs) x y a b = elim (among_cases z xs x a) [
  | inl here ↦ among_left (f z) (flat_map f xs) y (subst (λ w. Among (f w) y) (sym here) b)
  | inr more ↦ among_right (f z) (flat_map f xs) y (flat_among f xs x y more b)
]

pub has_among : (xs : List ℕ) (n : ℕ) → has xs n ≡ true → Among xs n
has_among [] n e = absurd cc
has_among (x ∷ xs) n e = elim (or_cases (x == n) (has xs n) e) [ inl here ↦ (0, ap Some (eqb-true x n here)) | inr more ↦ among_more x xs n (has_among xs n more) ]

pub among_has : (xs : List ℕ) (n : ℕ) → Among xs n → has xs n ≡ true
among_has [] n a = let e = a.1 in absurd cc
among_has (x ∷ xs) n a = elim (among_cases x xs n a) [
  | inl here ↦ or_left (x == n) (has xs n) (eq-eqb x n here)
  | inr more ↦ or_right (x == n) (has xs n) (among_has xs n more)
]

pub any_among : {X : Type 0} (p : X → Bool) (xs : List X) → list_any p xs ≡ true → (x : X) × Among xs x × (p x ≡ true)
any_among p [] e = absurd cc
any_among p (x ∷ xs) e = elim (or_cases (p x) (list_any p xs) e) [
  | inl here ↦ (x, (0, refl), here)
  | inr more ↦ (let m = any_among p xs more in (m.0, among_more x xs m.0 m.1, m.2))
]

pub among_any : {X : Type 0} (p : X → Bool) (xs : List X) (x : X) → Among xs x → p x ≡ true → list_any p xs ≡ true
among_any p [] x a e = let is = a.1 in absurd cc
among_any p (y ∷ xs) x a e = elim (among_cases y xs x a) [
  | inl here ↦ or_left (p y) (list_any p xs) (ap p here ∙ e)
  | inr more ↦ or_right (p y) (list_any p xs) (among_any p xs x more e)
]

-- ---- ascending

pub below_all : {X : Type 0} (key : X → List ℕ) (k : List ℕ) (xs : List X) → ((x : X) → Among xs x → IsBelow k (key x)) → AllByRecursion (λ y. IsBelow k y) (map key xs)
below_all key k [] each = tt
below_all key k (x ∷ xs) each = (each x (0, refl), below_all key k xs (λ y a. each y (among_more x xs y a)))

pub all_below : {X : Type 0} (key : X → List ℕ) (k : List ℕ) (xs : List X) (x : X) → AllByRecursion (λ y. IsBelow k y) (map key xs) → Among xs x → IsBelow k (key x)
all_below key k [] x all a = let e = a.1 in absurd cc
all_below key k (y ∷ xs) x all a = elim (among_cases y xs x a) [
  | inl here ↦ subst (λ z. IsBelow k (key z)) here all.0
  | inr more ↦ all_below key k xs x all.1 more
]

pub ascend_cons : {X : Type 0} (key : X → List ℕ) (x : X) (xs : List X) → ((y : X) → Among xs y → IsBelow (key x) (key y)) → AscendBy key xs → AscendBy key (x ∷ xs)
unfolding IsStrictlySortedBy
ascend_cons key x xs each rest = (below_all key (key x) xs each, rest)

pub ascend_none : {X : Type 0} (key : X → List ℕ) → AscendBy key []
unfolding IsStrictlySortedBy
ascend_none key = tt

pub ascend_append : {X : Type 0} (key : X → List ℕ) (xs ys : List X) → AscendBy key xs → AscendBy key ys → ((x y : X) → Among xs x → Among ys y → IsBelow (key x) (key y)) → AscendBy key (xs ++ ys)
unfolding IsStrictlySortedBy
ascend_append key [] ys a b across = b
ascend_append key (x ∷ xs) ys a b across =
    ascend_cons key x (xs ++ ys)
    (λ y m. elim (among_either xs ys y m) [
      | inl left ↦ all_below key (key x) xs y a.0 left
      | inr right ↦ across x y (0, refl) right
    ])
    (ascend_append key xs ys a.1 b (λ z y in_xs in_ys. across z y (among_more x xs z in_xs) in_ys))

-- a list made of lists, one for each item of a list that ascends itself
pub ascend_flat : {X Y : Type 0} (outer : X → List ℕ) (key : Y → List ℕ) (f : X → List Y) (xs : List X) → AscendBy outer xs → ((x : X) → Among xs x → AscendBy key (f x))
    → ((x z : X) (y w : Y) → IsBelow (outer x) (outer z) → Among (f x) y → Among (f z) w → IsBelow (key y) (key w)) → AscendBy key (flat_map f xs)
unfolding IsStrictlySortedBy
ascend_flat outer key f [] ascend each across = tt
ascend_flat outer key f (x ∷ xs) ascend each across =
    ascend_append key (f x) (flat_map f xs) (each x (0, refl)) (ascend_flat outer key f xs ascend.1 (λ z a. each z (among_more x xs z a)) across)
    (λ y w in_first in_rest.
    let m = among_flat f xs w in_rest in
    across x m.0 y w (all_below outer (outer x) xs m.0 ascend.0 m.1) in_first m.2)

number_all : (n : ℕ) (xs : List ℕ) (x : ℕ) → AllByRecursion (λ y. n < y) xs → Among xs x → n < x
number_all n [] x all a = let e = a.1 in absurd cc
number_all n (y ∷ xs) x all a = elim (among_cases y xs x a) [ inl here ↦ subst (λ z. n < z) here all.0 | inr more ↦ number_all n xs x all.1 more ]

-- what is made of ascending numbers, in order
pub ascend_numbers : {X : Type 0} (key : X → List ℕ) (f : ℕ → X) (ns : List ℕ) → IsAscending ns → ((m n : ℕ) → m < n → IsBelow (key (f m)) (key (f n))) → AscendBy key (map f ns)
ascend_numbers key f [] ascend each = ascend_none key
ascend_numbers key f (n ∷ ns) ascend each =
    ascend_cons key (f n) (map f ns)
    (λ y m. let a = among_mapped f ns y m in subst (λ z. IsBelow (key (f n)) (key z)) a.2 (each n a.0 (number_all n ns a.0 ascend.0 a.1)))
    (ascend_numbers key f ns ascend.1 each)

-- items whose numbers ascend
pub ascend_by_number : {X : Type 0} (number : X → ℕ) (xs : List X) → IsAscending (map number xs) → AscendBy (λ x. number x ∷ []) xs
ascend_by_number number [] ascend = ascend_none (λ x. number x ∷ [])
ascend_by_number {X} number (x ∷ xs) ascend =
    ascend_cons (λ (y : X). number y ∷ []) x xs
    (λ y m. below_first (number x) (number y) [] [] (number_all (number x) (map number xs) (number y) ascend.0 (mapped_among number xs y m)))
    (ascend_by_number number xs ascend.1)
