-- Lists with the same members: after a sort, with one number more, as a union.
use Rattle.std.proofs.Common.{◌≡◌, ℕ, ◌<◌, ◌+◌, ◌-◌, suc, Bool, true, false, eqb, ltb, cond, ◌||◌, List, [], ◌∷◌, ◌++◌, inl, inr, length, get_or, refl, sym, ap, ◌∙◌, subst, arith}
use Rattle.std.specs.List.{AllPairs, filter, dedup}
use Rattle.std.specs.List.Sorted.{IsPermutation, IsSorted}
use Rattle.std.specs.Ordering.{nat_cmp}
use Rattle.std.proofs.lemmas.Bool.{cases_Bool, cases_order, both_ways, eq-eqb, or_parts, or_right, lt-ltb, le-ltb}
use Rattle.std.proofs.lemmas.List.{length-append}
use Rattle.std.proofs.lemmas.List.Elements.{recursion_from_All}
use Rattle.std.proofs.lemmas.List.Kept.{AllPairs-from_increasing, Contains-dedup_nat, Contains-from_dedup}
use Rattle.std.proofs.lemmas.List.Sorted.{Contains-permutation, IsPermutation-sym}
use Rattle.std.proofs.lemmas.Map.Keys.{IsStrictlyIncreasing-dedup}
use Rattle.th_base.specs.IdSet.{has, inserted, union_of, intersection_of, IsAscending}
use Rattle.th_base.proofs.Ascending.{has-append, has-union_of, has_first, absent_below, all_weaker}
use Rattle.th_base.proofs.Membership.{Contains-from_has, has-from_Contains}
use Rattle.th_incl.specs.Parts.{SameMembers}

pub same_tests : (a b : Bool) → (a ≡ true → b ≡ true) → (b ≡ true → a ≡ true) → a ≡ b
same_tests a b f g =
    elim (cases_Bool a) [
      | inl t ↦ t ∙ sym (f t)
      | inr o ↦ elim (cases_Bool b) [ inl t ↦ absurd (both_ways _ o (g t)) | inr same ↦ o ∙ sym same ]
    ]

pub same_after : (xs ys zs : List ℕ) → SameMembers xs ys → SameMembers ys zs → SameMembers xs zs
same_after xs ys zs f g x = g x ∙ f x

-- ---- after a sort

all_pairs_ascend : (xs : List ℕ) → AllPairs (λ x y. x < y) xs → IsAscending xs
all_pairs_ascend [] p = tt
all_pairs_ascend (x ∷ xs) p = (
  recursion_from_All (λ y. x < y) xs (λ k d h. p 0 (suc k) d (omega arith) (omega arith)),
  all_pairs_ascend xs (λ i j d h g. p (suc i) (suc j) d (omega arith) (omega arith)),
)

pub IsAscending-dedup : (xs : List ℕ) → IsSorted nat_cmp xs → IsAscending (dedup eqb xs)
IsAscending-dedup xs s = all_pairs_ascend (dedup eqb xs) (AllPairs-from_increasing (dedup eqb xs) (IsStrictlyIncreasing-dedup xs s))

pub same-dedup : (xs ys : List ℕ) → IsPermutation xs ys → SameMembers xs (dedup eqb ys)
same-dedup xs ys p x =
    same_tests _ _
    (λ h. has-from_Contains xs x (Contains-permutation ys xs x (IsPermutation-sym xs ys p) (Contains-from_dedup eqb ys x (Contains-from_has (dedup eqb ys) x h))))
    (λ h. has-from_Contains (dedup eqb ys) x (Contains-dedup_nat ys x (Contains-permutation xs ys x p (Contains-from_has xs x h))))

-- ---- one number more

pub has_one : (y x : ℕ) → has (y ∷ []) x ≡ eqb y x
has_one y x = elim (eqb y x) as (λ b. (b || false) ≡ b) [ true ↦ refl | false ↦ refl ]

or_swap : (a b : Bool) → (a || b) ≡ (b || a)
or_swap true true = refl
or_swap true false = refl
or_swap false true = refl
or_swap false false = refl

pub has_push_is : (xs : List ℕ) (y x : ℕ) → has (xs ++ y ∷ []) x ≡ (eqb y x || has xs x)
has_push_is xs y x = has-append xs (y ∷ []) x ∙ ap (λ b. has xs x || b) (has_one y x) ∙ or_swap (has xs x) (eqb y x)

-- a number pushed at the end
pub same-push : (xs : List ℕ) (y : ℕ) → SameMembers (y ∷ xs) (xs ++ y ∷ [])
same-push xs y x = has_push_is xs y x

pub same-push_after : (xs ys : List ℕ) (y : ℕ) → SameMembers xs ys → SameMembers (y ∷ xs) (ys ++ y ∷ [])
same-push_after xs ys y s x = has_push_is ys y x ∙ ap (λ b. eqb y x || b) (s x)

-- a number above the last keeps the order
pub IsAscending-push : (xs : List ℕ) (y : ℕ) → IsAscending xs → (0 < length xs → get_or xs (length xs - 1) 0 < y) → IsAscending (xs ++ y ∷ [])
IsAscending-push [] y a h = (tt, tt)
IsAscending-push (x ∷ []) y a h = let less : x < y = h (omega arith) in ((less, tt), (tt, tt))
IsAscending-push (x ∷ z ∷ zs) y a h =
    let less : x < z = a.0.0 in
    let rest = IsAscending-push (z ∷ zs) y a.1 (λ l.
    let e : length (x ∷ z ∷ zs) - 1 ≡ suc (length (z ∷ zs) - 1) = omega arith in
    subst (λ i. get_or (x ∷ z ∷ zs) i 0 < y) e (h (omega arith))) in
    ((less, all_weaker (λ w. z < w) (λ w. x < w) (λ w g. omega arith) (zs ++ y ∷ []) rest.0), rest)

-- ---- lists that have no number in common

pub apart_by : (xs ys : List ℕ) → ((x : ℕ) → has ys x ≡ true → has xs x ≡ false) → intersection_of xs ys ≡ []
apart_by [] ys h = refl
apart_by (x ∷ xs) ys h =
    let absent : has ys x ≡ false = elim (cases_Bool (has ys x)) [ inl t ↦ absurd (both_ways _ (h x t) (has_first x xs)) | inr f ↦ f ] in
    rw absent (apart_by xs ys (λ z e. (or_parts (eqb x z) (has xs z) (h z e)).1))

-- ---- lengths

step_parts : (y x a : ℕ) (l r : List ℕ) → eqb y x ≡ false → length l + length r ≡ a
    → length (cond (ltb y x) (y ∷ l) l) + length (cond (ltb x y) (y ∷ r) r) ≡ a + 1
step_parts y x a l r e h =
    elim (cases_order y x) [
      | inl same ↦ absurd (both_ways _ e (eq-eqb y x same))
      | inr (inl less) ↦ rw (lt-ltb y x less, le-ltb x y (omega arith)) (omega arith)
      | inr (inr more) ↦ rw (le-ltb y x (omega arith), lt-ltb x y more) (omega arith)
    ]

length_parts : (x : ℕ) (xs : List ℕ) → has xs x ≡ false → length (filter (λ y. ltb y x) xs) + length (filter (λ y. ltb x y) xs) ≡ length xs
length_parts x [] h = refl
length_parts x (y ∷ ys) h =
    let p = or_parts (eqb y x) (has ys x) h in
    step_parts y x (length ys) (filter (λ z. ltb z x) ys) (filter (λ z. ltb x z) ys) p.0 (length_parts x ys p.1) ∙ omega arith

length-inserted : (x : ℕ) (xs : List ℕ) → has xs x ≡ false → length (inserted x xs) ≡ length xs + 1
length-inserted x xs h = omega (arith, length-append (filter (λ y. ltb y x) xs) (x ∷ filter (λ y. ltb x y) xs), length_parts x xs h)

-- numbers that a set hasn't make it longer by so many
pub length-union_of : (xs ys : List ℕ) → IsAscending ys → ((x : ℕ) → has ys x ≡ true → has xs x ≡ false) → length (union_of xs ys) ≡ length xs + length ys
length-union_of xs [] a h = omega arith
length-union_of xs (y ∷ ys) a h =
    let absent : has (union_of xs ys) y ≡ false =
    has-union_of xs ys y ∙ rw (h y (has_first y ys), absent_below y ys a.0) refl in
    let rest = length-union_of xs ys a.1 (λ x k. h x (or_right (eqb y x) (has ys x) k)) in
    omega (arith, length-inserted y (union_of xs ys) absent, rest)
