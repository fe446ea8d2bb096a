-- Rows each of which stands before the next ascend, and only such.
use Rattle.std.proofs.Common.{◌≡◌, inl, inr, sym, ℕ, ◌+◌, ◌<◌, suc, zero, Bool, true, false, List, [], ◌∷◌, length, map, get_or, refl, ap, arith, ◌∙◌}
use Rattle.std.specs.Prelude.{◌↔◌, IsTrue}
use Rattle.std.specs.List.{AllByRecursion, AllAdjacentBelow, IsAllAdjacentAnswer}
use Rattle.std.specs.List.Sorted.{IsStrictlySortedBy}
use Rattle.std.specs.declared.cmp.Ordering.TheVariants.{Less, Equal}
use Rattle.std.specs.Ordering.{nat_cmp, ordering_then}
use Rattle.std.specs.Cmp.{nat_cmp_is}
use Rattle.std.specs.Cmp.Lexicographic.{slice_cmp}
use Rattle.std.proofs.lemmas.Bool.{ltb-true, lt-ltb}
use Rattle.std.proofs.lemmas.Cmp.{nat_list_cmp_total}
use Rattle.th_base.specs.declared.number.FieldId.{FieldId}
use Rattle.th_base.specs.declared.number.SiteId.{SiteId}
use Rattle.th_ir.specs.FactSets.{AscendBy, cell_key, elem_key}
use Rattle.th_narrow.specs.Rows.{cell_before, elem_before}
use Rattle.th_narrow.proofs.Rowing.{IsBelow, below_cases, below_places, before_cases, before_from, cells_below}

-- ---- keys

below_first : (x y : ℕ) (xs ys : List ℕ) → x < y → IsBelow (x ∷ xs) (y ∷ ys)
below_first x y xs ys less = ap (λ o. ordering_then o (slice_cmp nat_cmp xs ys)) (sym (nat_cmp_is x y Less less))

below_next : (x y : ℕ) (xs ys : List ℕ) → x ≡ y → IsBelow xs ys → IsBelow (x ∷ xs) (y ∷ ys)
below_next x y xs ys same less = ap (λ o. ordering_then o (slice_cmp nat_cmp xs ys)) (sym (nat_cmp_is x y Equal same)) ∙ less

-- ---- from each row and the next to all

module _ {X : Type 0} (key : X → List ℕ) (before : X → X → Bool) (down : (x y : X) → before x y ≡ true → IsBelow (key x) (key y)) where
  all_above : (x y : X) (ys : List X) → IsBelow (key x) (key y) → AllByRecursion (λ k. slice_cmp nat_cmp (key y) k ≡ Less) (map key ys) → AllByRecursion (λ k. slice_cmp nat_cmp (key x) k ≡ Less) (map key ys)
  all_above x y [] less all = tt
  all_above x y (z ∷ zs) less all = (nat_list_cmp_total.trans (key x) (key y) (key z) less all.0, all_above x y zs less all.1)

  from_each : (xs : List X) → AllAdjacentBelow (λ x y. true ≡ before x y) xs (length xs) → AscendBy key xs
  unfolding IsStrictlySortedBy
  from_each [] each = tt
  from_each (x ∷ []) each = (tt, tt)
  from_each (x ∷ y ∷ ys) each =
      let rest : AscendBy key (y ∷ ys) = from_each (y ∷ ys) (λ k d h. later k d (each (suc k) d (omega (arith, h)))) in
      let first : IsBelow (key x) (key y) = down x y (sym (each 0 x (omega arith))) in
      ((first, all_above x y ys first rest.0), rest)
    where
      later : (k : ℕ) (d : X) → true ≡ before (get_or (x ∷ y ∷ ys) (suc k) d) (get_or (x ∷ y ∷ ys) (suc k + 1) d) → true ≡ before (get_or (y ∷ ys) k d) (get_or (y ∷ ys) (k + 1) d)
      later k d e = let next : suc k + 1 ≡ suc (k + 1) = omega arith in e ∙ ap (λ i. before (get_or (y ∷ ys) k d) (get_or (x ∷ y ∷ ys) i d)) next

-- what a test of each row and the next says of all
pub ordered_by : {X : Type 0} (key : X → List ℕ) (before : X → X → Bool) → ((x y : X) → before x y ≡ true → IsBelow (key x) (key y)) → ((x y : X) → IsBelow (key x) (key y) → before x y ≡ true)
    → (xs : List X) (r : Bool) → IsAllAdjacentAnswer (λ x y b. b ≡ before x y) xs r → IsTrue r ↔ AscendBy key xs
ordered_by key before down up xs true each = (λ _. from_each key before down xs each, λ _. refl)
ordered_by {X} key before down up [] false (k, h, answer) = absurd (omega (arith, h))
ordered_by {X} key before down up (x ∷ xs) false (k, h, answer) = (λ t. absurd (differ t), λ a. answer x ∙ up (get_or (x ∷ xs) k x) (get_or (x ∷ xs) (k + 1) x) (below_places key (x ∷ xs) k (k + 1) x a (omega arith) h))
  where
    differ : false ≡ true → ⊥
    differ e = cc

-- ---- cells and elements

pub cells_ordered : (cells : List (SiteId × FieldId × List ℕ)) (r : Bool) → IsAllAdjacentAnswer (λ c d b. b ≡ cell_before d.0.0 d.1.0 c) cells r → IsTrue r ↔ AscendBy cell_key cells
cells_ordered cells r answer = ordered_by cell_key (λ c d. cell_before d.0.0 d.1.0 c)
    (λ c d e. elim (before_cases d.0.0 d.1.0 c e) [
      | inl less ↦ below_first c.0.0 d.0.0 (c.1.0 ∷ []) (d.1.0 ∷ []) less
      | inr next ↦ below_next c.0.0 d.0.0 (c.1.0 ∷ []) (d.1.0 ∷ []) next.0 (below_first c.1.0 d.1.0 [] [] next.1)
    ])
    (λ c d b. before_from d.0.0 d.1.0 c (cells_below c d b)) cells r answer

pub elements_ordered : (elems : List (SiteId × List ℕ)) (r : Bool) → IsAllAdjacentAnswer (λ x y b. b ≡ elem_before y.0.0 x) elems r → IsTrue r ↔ AscendBy elem_key elems
elements_ordered elems r answer = ordered_by elem_key (λ x y. elem_before y.0.0 x)
    (λ x y e. below_first x.0.0 y.0.0 [] [] (ltb-true x.0.0 y.0.0 e))
    (λ x y b. elim (below_cases x.0.0 y.0.0 [] [] b) [ inl less ↦ lt-ltb x.0.0 y.0.0 less | inr none ↦ absurd (equal none.1) ]) elems r answer
  where
    equal : Equal ≡ Less → ⊥
    equal e = cc
