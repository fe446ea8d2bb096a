-- Sets of sites that tables of facts hold have together no more sites than the tables.
use Rattle.std.proofs.Common.{◌≡◌, inl, inr, ℕ, ◌<◌, ◌≤◌, ◌+◌, ◌==◌, suc, Bool, true, false, cond, List, [], ◌∷◌, length, filter, refl, sym, ap, subst, arith, ◌∙◌, if◌then◌else◌}
use Rattle.std.specs.Prelude.{◌&&◌, ◌||◌, not, sum, map}
use Rattle.std.specs.List.{AllByRecursion, AllZip, fold, list_any}
use Rattle.std.proofs.lemmas.Bool.{cases_order, both_ways, or_cases, or_right, eqb-true}
use Rattle.th_base.specs.IdSet.{has, IsAscending}
use Rattle.th_base.proofs.Ascending.{has_first, absent_below, all_weaker, has-filter, IsAscending-filter}
use Rattle.th_ir.proofs.Plain.{and_parts}

fold_from : (a : ℕ) (xs : List ℕ) → fold ◌+◌ a xs ≡ a + fold ◌+◌ 0 xs
fold_from a [] = let e : a ≡ a + 0 = omega arith in e
fold_from a (x ∷ xs) = let one = fold_from (a + x) xs in let other = fold_from (0 + x) xs in omega (arith, one, other)

pub sum_cons : (x : ℕ) (xs : List ℕ) → sum (x ∷ xs) ≡ x + sum xs
sum_cons x xs = let one = fold_from (0 + x) xs in omega (arith, one)

-- an ascending list whose numbers are all in another is no longer
pub part_le : (xs ys : List ℕ) → IsAscending xs → IsAscending ys → ((z : ℕ) → has xs z ≡ true → has ys z ≡ true) → length xs ≤ length ys
part_le [] ys a b h = omega arith
part_le (x ∷ xs) [] a b h = absurd (both_ways _ refl (h x (has_first x xs)))
part_le (x ∷ xs) (y ∷ ys) a b h =
    elim (cases_order x y) [
      | inl same ↦
          let rest = part_le xs ys a.1 b.1 (λ z k. elim (or_cases (y == z) (has ys z) (h z (or_right (x == z) (has xs z) k))) [
            | inl first ↦ absurd (both_ways _ (absent_below x xs a.0) (ap (λ w. has xs w) (same ∙ eqb-true y z first) ∙ k))
            | inr later ↦ later
          ]) in
          omega (arith, rest)
      | inr (inl less) ↦
          absurd (both_ways _ (absent_below x (y ∷ ys) (less, all_weaker (λ z. y < z) (λ z. x < z) (λ z g. omega arith) ys b.0)) (h x (has_first x xs)))
      | inr (inr more) ↦
          let rest = part_le (x ∷ xs) ys a b.1 (λ z k. elim (or_cases (y == z) (has ys z) (h z k)) [
            | inl first ↦
                absurd (both_ways _ (absent_below y (x ∷ xs) (more, all_weaker (λ z. x < z) (λ z. y < z) (λ z g. omega arith) xs a.0))
                (ap (λ w. has (x ∷ xs) w) (eqb-true y z first) ∙ k))
            | inr later ↦ later
          ]) in
          omega (arith, rest)
    ]

-- how many sites the entries that meet a test have together
abbrev pub size_at : {X : Type 0} → (X → Bool) → (X → List ℕ) → List X → ℕ
size_at test set [] = 0
size_at test set (x ∷ xs) = (if test x then length (set x) else 0) + size_at test set xs

size_cons : {X : Type 0} (test : X → Bool) (set : X → List ℕ) (x : X) (xs : List X) → size_at test set (x ∷ xs) ≡ (if test x then length (set x) else 0) + size_at test set xs
size_cons test set x xs = refl

size_none : {X : Type 0} (test : X → Bool) (set : X → List ℕ) → size_at test set [] ≡ 0
size_none test set = refl

parts_of : (keep : ℕ → Bool) (xs : List ℕ) → length xs ≡ length (filter keep xs) + length (filter (λ x. not (keep x)) xs)
parts_of keep [] = refl
parts_of keep (x ∷ xs) = by (keep x) (parts_of keep xs)
  where
    by : (b : Bool) → length xs ≡ length (filter keep xs) + length (filter (λ x. not (keep x)) xs)
        → suc (length xs) ≡ length (cond b (x ∷ filter keep xs) (filter keep xs)) + length (cond (not b) (x ∷ filter (λ x. not (keep x)) xs) (filter (λ x. not (keep x)) xs))
    by true e = omega arith
    by false e = omega arith

-- an ascending list whose numbers are all in entries that meet the test
pub no_longer : {X : Type 0} (test : X → Bool) (set : X → List ℕ) (table : List X) (xs : List ℕ) → AllByRecursion (λ e. IsAscending (set e)) table → IsAscending xs
    → ((x : ℕ) → has xs x ≡ true → list_any (λ e. test e && has (set e) x) table ≡ true) → length xs ≤ size_at test set table
no_longer test set [] [] listed asc each = omega arith
no_longer test set [] (x ∷ xs) listed asc each = absurd (nothing (each x (first x xs)))
  where
    nothing : false ≡ true → ⊥
    nothing e = cc

    first : (y : ℕ) (ys : List ℕ) → has (y ∷ ys) y ≡ true
    first y ys = subst (λ (b : Bool). (b || has ys y) ≡ true) (sym (same_number y)) refl
      where
        same_number : (y : ℕ) → (y == y) ≡ true
        same_number y = grind arith
no_longer test set (e ∷ table) xs listed asc each =
    let mine : List ℕ = filter (λ x. test e && has (set e) x) xs in
    let rest : List ℕ = filter (λ x. not (test e && has (set e) x)) xs in
    let both : length xs ≡ length mine + length rest = parts_of (λ x. test e && has (set e) x) xs in
    let later : length rest ≤ size_at test set table = no_longer test set table rest listed.1 (IsAscending-filter (λ x. not (test e && has (set e) x)) xs asc)
    (λ x h.
    (let parts = and_parts (not (test e && has (set e) x)) (has xs x) (sym (has-filter (λ x. not (test e && has (set e) x)) xs x) ∙ h) in
    elim (or_cases (test e && has (set e) x) (list_any (λ d. test d && has (set d) x) table) (each x parts.1)) [
      | inl here ↦ absurd (clash (test e && has (set e) x) here parts.0)
      | inr more ↦ more
    ])) in
    let first : length mine ≤ (if test e then length (set e) else 0) = by (test e) refl in
    omega (arith, both, later, first, size_cons test set e table)
  where
    clash : (b : Bool) → b ≡ true → not b ≡ true → ⊥
    clash true one other = cc
    clash false one other = cc

    by : (b : Bool) → test e ≡ b → length (filter (λ x. test e && has (set e) x) xs) ≤ (if b then length (set e) else 0)
    by true is = part_le (filter (λ x. test e && has (set e) x) xs) (set e) (IsAscending-filter (λ x. test e && has (set e) x) xs asc) listed.0
        (λ z h. (and_parts (test e) (has (set e) z) (and_parts (test e && has (set e) z) (has xs z) (sym (has-filter (λ x. test e && has (set e) x) xs z) ∙ h)).0).1)
    by false is = none (filter (λ x. test e && has (set e) x) xs) (λ z h.
        (let part = and_parts (test e) (has (set e) z) (and_parts (test e && has (set e) z) (has xs z) (sym (has-filter (λ x. test e && has (set e) x) xs z) ∙ h)).0 in differs part.0 is))
      where
        differs : {b : Bool} → b ≡ true → b ≡ false → ⊥
        differs one other = cc

        none : (ys : List ℕ) → ((z : ℕ) → has ys z ≡ true → ⊥) → length ys ≤ 0
        none [] never = omega arith
        none (y ∷ ys) never = absurd (never y (has_first y ys))

-- ---- the sizes at several keys

-- each entry meets the test of one of the keys at most
abbrev pub Once : {K X : Type 0} → (K → X → Bool) → List K → X → Type 0
Once test [] x = Unit {0}
Once test (k ∷ ks) x = (test k x ≡ true → AllByRecursion (λ j. test j x ≡ false) ks) × Once test ks x

abbrev pub sizes : {K X : Type 0} → (K → X → Bool) → (X → List ℕ) → List K → List X → ℕ
sizes test set [] table = 0
sizes test set (k ∷ ks) table = size_at (test k) set table + sizes test set ks table

abbrev pub ones : {K X : Type 0} → (K → X → Bool) → (X → List ℕ) → List K → X → ℕ
ones test set [] x = 0
ones test set (k ∷ ks) x = (if test k x then length (set x) else 0) + ones test set ks x

ones_cons : {K X : Type 0} (test : K → X → Bool) (set : X → List ℕ) (k : K) (ks : List K) (x : X) → ones test set (k ∷ ks) x ≡ (if test k x then length (set x) else 0) + ones test set ks x
ones_cons test set k ks x = refl

ones_none : {K X : Type 0} (test : K → X → Bool) (set : X → List ℕ) (x : X) → ones test set [] x ≡ 0
ones_none test set x = refl

no_ones : {K X : Type 0} (test : K → X → Bool) (set : X → List ℕ) (ks : List K) (x : X) → AllByRecursion (λ j. test j x ≡ false) ks → ones test set ks x ≡ 0
no_ones test set [] x all = ones_none test set x
no_ones test set (k ∷ ks) x all =
    ones_cons test set k ks x ∙ ap (λ (b : Bool). (if b then length (set x) else 0) + ones test set ks x) all.0 ∙ no_more (ones test set ks x) (no_ones test set ks x all.1)
  where
    no_more : (n : ℕ) → n ≡ 0 → 0 + n ≡ 0
    no_more n e = omega arith

ones_le : {K X : Type 0} (test : K → X → Bool) (set : X → List ℕ) (ks : List K) (x : X) → Once test ks x → ones test set ks x ≤ length (set x)
ones_le test set [] x once = let none = ones_none test set x in omega (arith, none)
ones_le test set (k ∷ ks) x once = by (test k x) refl (ones_le test set ks x once.1) (ones_cons test set k ks x)
  where
    by : (b : Bool) → test k x ≡ b → ones test set ks x ≤ length (set x) → ones test set (k ∷ ks) x ≡ (if test k x then length (set x) else 0) + ones test set ks x
        → ones test set (k ∷ ks) x ≤ length (set x)
    by true e rest is =
        let none : ones test set ks x ≡ 0 = no_ones test set ks x (once.0 e) in
        let now : ones test set (k ∷ ks) x ≡ length (set x) + ones test set ks x = is ∙ ap (λ (b : Bool). (if b then length (set x) else 0) + ones test set ks x) e in
        omega (arith, none, now)
    by false e rest is =
        let now : ones test set (k ∷ ks) x ≡ 0 + ones test set ks x = is ∙ ap (λ (b : Bool). (if b then length (set x) else 0) + ones test set ks x) e in
        omega (arith, rest, now)

sizes_cons : {K X : Type 0} (test : K → X → Bool) (set : X → List ℕ) (ks : List K) (x : X) (xs : List X) → sizes test set ks (x ∷ xs) ≡ ones test set ks x + sizes test set ks xs
sizes_cons test set [] x xs = let none = ones_none test set x in omega (arith, none)
sizes_cons test set (k ∷ ks) x xs =
    let first = size_cons (test k) set x xs in
    let rest = sizes_cons test set ks x xs in
    let one = ones_cons test set k ks x in
    omega (arith, first, rest, one)

sizes_none : {K X : Type 0} (test : K → X → Bool) (set : X → List ℕ) (ks : List K) → sizes test set ks [] ≡ 0
sizes_none test set [] = refl
sizes_none test set (k ∷ ks) = let first = size_none (test k) set in let rest = sizes_none test set ks in omega (arith, first, rest)

pub sizes_le : {K X : Type 0} (test : K → X → Bool) (set : X → List ℕ) (ks : List K) (table : List X) → AllByRecursion (Once test ks) table → sizes test set ks table ≤ sum (map (λ x. length (set x)) table)
sizes_le test set ks [] once = let none = sizes_none test set ks in omega (arith, none)
sizes_le test set ks (x ∷ xs) once =
    let rest = sizes_le test set ks xs once.1 in
    let first = ones_le test set ks x once.0 in
    let cons = sizes_cons test set ks x xs in
    let total : sum (map (λ x. length (set x)) (x ∷ xs)) ≡ length (set x) + sum (map (λ x. length (set x)) xs) = sum_cons (length (set x)) (map (λ x. length (set x)) xs) in
    omega (arith, rest, first, cons, total)

-- sets, one for each key, that are within the entries of their keys
pub sets_le : {K X : Type 0} (test : K → X → Bool) (set : X → List ℕ) (table : List X) (ks : List K) (sets : List (List ℕ)) → length sets ≡ length ks
    → AllByRecursion (λ e. IsAscending (set e)) table → AllByRecursion IsAscending sets → AllZip (λ k xs. (x : ℕ) → has xs x ≡ true → list_any (λ e. test k e && has (set e) x) table ≡ true) ks sets
    → sum (map (λ xs. length xs) sets) ≤ sizes test set ks table
sets_le test set table [] [] len listed asc each = omega arith
sets_le test set table [] (s ∷ sets) len listed asc each = absurd (omega (arith, len))
sets_le test set table (k ∷ ks) [] len listed asc each = omega arith
sets_le test set table (k ∷ ks) (s ∷ sets) len listed asc each =
    let first = no_longer (test k) set table s listed asc.0 each.0 in
    let rest = sets_le test set table ks sets (omega (arith, len)) listed asc.1 each.1 in
    let total : sum (map (λ xs. length xs) (s ∷ sets)) ≡ length s + sum (map (λ xs. length xs) sets) = sum_cons (length s) (map (λ xs. length xs) sets) in
    omega (arith, first, rest, total)
