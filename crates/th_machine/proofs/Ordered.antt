-- Lists in strict order of their keys: two that have the same members are one list.
use Rattle.std.proofs.Common.{◌≡◌, Ordering, Less, ℕ, ◌<◌, zero, suc, List, [], ◌∷◌, length, ◌⊎◌, inl, inr, refl, sym, ap, ◌∙◌, subst, arith}
use Rattle.std.specs.Prelude.{map}
use Rattle.std.specs.List.{Contains, AllByRecursion}
use Rattle.std.specs.List.Sorted.{IsStrictlySortedBy}
use Rattle.std.specs.Cmp.{IsTotalOrder}
use Rattle.std.specs.Ordering.{ordering_reverse}

-- ---- members

contains_none : {X : Type 0} (x : X) → Contains [] x → ⊥
contains_none x one = let h : one.0 < 0 = one.1 in absurd (omega arith)

contains_first : {X : Type 0} (x : X) (xs : List X) → Contains (x ∷ xs) x
contains_first x xs = (0, omega arith, refl)

contains_more : {X : Type 0} (y : X) (xs : List X) (x : X) → Contains xs x → Contains (y ∷ xs) x
contains_more y xs x one = let h : one.0 < length xs = one.1 in (suc one.0, omega arith, one.2)

contains_cases : {X : Type 0} (y : X) (ys : List X) (x : X) → Contains (y ∷ ys) x → (y ≡ x) ⊎ Contains ys x
contains_cases y ys x (zero, lt, e) = inl e
contains_cases y ys x (suc k, lt, e) = inr (k, omega arith, e)

-- ---- order

module _ {X K : Type 0} (R : K → K → Ordering) (o : IsTotalOrder R) (key : X → K) where
  -- the first is below the others
  first_below : (x : X) (xs : List X) → AllByRecursion (λ k. R (key x) k ≡ Less) (map key xs) → (y : X) → Contains xs y → R (key x) (key y) ≡ Less
  first_below x [] all y one = absurd (contains_none y one)
  first_below x (z ∷ zs) all y one = elim (contains_cases z zs y one) [
    | inl same ↦ subst (λ (w : X). R (key x) (key w) ≡ Less) same all.0
    | inr later ↦ first_below x zs all.1 y later
  ]

  not_both : (x y : X) → R (key x) (key y) ≡ Less → R (key y) (key x) ≡ Less → ⊥
  not_both x y a b = let e : Less ≡ ordering_reverse Less = sym a ∙ o.antisymm (key x) (key y) ∙ ap ordering_reverse b in cc

  same_first : (x y : X) (xs ys : List X) → AllByRecursion (λ k. R (key x) k ≡ Less) (map key xs) → AllByRecursion (λ k. R (key y) k ≡ Less) (map key ys)
      → Contains (y ∷ ys) x → Contains (x ∷ xs) y → x ≡ y
  same_first x y xs ys above beyond one other = elim (contains_cases y ys x one) [
    | inl same ↦ sym same
    | inr later ↦ elim (contains_cases x xs y other) [
      | inl same ↦ same
      | inr further ↦ absurd (not_both x y (first_below x xs above y further) (first_below y ys beyond x later))
    ]
  ]

  -- what is in the one list behind its first is in the other behind the same
  behind : (x y : X) (xs ys : List X) → x ≡ y → AllByRecursion (λ k. R (key x) k ≡ Less) (map key xs) → ((z : X) → Contains (x ∷ xs) z → Contains (y ∷ ys) z)
      → (z : X) → Contains xs z → Contains ys z
  behind x y xs ys same above into z one = elim (contains_cases y ys z (into z (contains_more x xs z one))) [
    | inl found ↦ let less : R (key x) (key x) ≡ Less = subst (λ (w : X). R (key x) (key w) ≡ Less) (sym (same ∙ found)) (first_below x xs above z one) in
        absurd (not_both x x less less)
    | inr later ↦ later
  ]

  pub one_in_order : (xs ys : List X) → IsStrictlySortedBy R (map key xs) → IsStrictlySortedBy R (map key ys)
      → ((x : X) → Contains xs x → Contains ys x) → ((x : X) → Contains ys x → Contains xs x) → xs ≡ ys
  unfolding IsStrictlySortedBy
  one_in_order [] [] a b into back = refl
  one_in_order [] (y ∷ ys) a b into back = absurd (contains_none y (back y (contains_first y ys)))
  one_in_order (x ∷ xs) [] a b into back = absurd (contains_none x (into x (contains_first x xs)))
  one_in_order (x ∷ xs) (y ∷ ys) a b into back =
      let same : x ≡ y = same_first x y xs ys a.0 b.0 (into x (contains_first x xs)) (back y (contains_first y ys)) in
      let rest : xs ≡ ys = one_in_order xs ys a.1 b.1 (behind x y xs ys same a.0 into) (behind y x ys xs (sym same) b.0 back) in
      ap (λ (z : X). z ∷ xs) same ∙ ap (λ (zs : List X). y ∷ zs) rest
