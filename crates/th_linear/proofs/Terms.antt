-- Ascending terms are determined by their coefficients.
use Rattle.std.proofs.Common.{◌≡◌, ◌≢◌, ℕ, ◌+◌, ◌<◌, ◌≤◌, ℤ, pos, List, [], ◌∷◌, arith, refl, ap, sym, ◌∙◌, eqb, inl, inr, true, false}
use Rattle.std.specs.Int.RustNames.{unsigned_abs}
use Rattle.std.proofs.lemmas.Int.{ints}
use Rattle.std.proofs.lemmas.Bool.{cases_order, cases_lt}
use Rattle.std.proofs.lemmas.Bool.Decides.{nat_tests}
use Rattle.th_linear.specs.Forms.{AreTerms, coef}

-- the variables ascend from `low` on
abbrev pub Ascend : ℕ → List (ℕ × ℤ) → Type 0
Ascend low [] = Unit {0}
Ascend low (t ∷ ts) = (low ≤ t.0) × Ascend (t.0 + 1) ts

-- and no coefficient is 0
abbrev pub Clean : ℕ → List (ℕ × ℤ) → Type 0
Clean low [] = Unit {0}
Clean low (t ∷ ts) = (low ≤ t.0) × (t.1 ≢ pos 0) × Clean (t.0 + 1) ts

pub clean_ascend : (low : ℕ) (ts : List (ℕ × ℤ)) → Clean low ts → Ascend low ts
clean_ascend low [] h = tt
clean_ascend low (t ∷ ts) h = (h.0, clean_ascend (t.0 + 1) ts h.2)

nonzero : (z : ℤ) → 0 < unsigned_abs z → z ≡ pos 0 → ⊥
nonzero z h e = absurd (omega (arith, ints, h, ap unsigned_abs e))

pub clean_terms : (low : ℕ) (ts : List (ℕ × ℤ)) → AreTerms low ts → Clean low ts
clean_terms low [] h = tt
clean_terms low (t ∷ ts) h = (h.0, nonzero t.1 h.1, clean_terms (t.0 + 1) ts h.3)

pub terms_ascend : (low : ℕ) (ts : List (ℕ × ℤ)) → AreTerms low ts → Ascend low ts
terms_ascend low ts h = clean_ascend low ts (clean_terms low ts h)

pub test_same : (v : ℕ) → eqb v v ≡ true
test_same v = grind (arith, nat_tests)

pub test_below : (v w : ℕ) → v < w → eqb v w ≡ false
test_below v w h = grind (arith, nat_tests)

pub test_above : (v w : ℕ) → w < v → eqb v w ≡ false
test_above v w h = grind (arith, nat_tests)

pub coef_under : (v low : ℕ) (ts : List (ℕ × ℤ)) → Ascend low ts → v < low → coef v ts ≡ pos 0
coef_under v low [] h lt = refl
coef_under v low (t ∷ ts) h lt =
    rw (test_below v t.0 (omega (arith, h.0))) (coef_under v (t.0 + 1) ts h.1 (omega (arith, h.0)))

pub coef_head : (t : ℕ × ℤ) (ts : List (ℕ × ℤ)) → coef t.0 (t ∷ ts) ≡ t.1
coef_head t ts = rw (test_same t.0) refl

-- a variable before the head has coefficient 0
under_head : (v : ℕ) (t : ℕ × ℤ) (ts : List (ℕ × ℤ)) → v < t.0 → Clean (t.0 + 1) ts → coef v (t ∷ ts) ≡ pos 0
under_head v t ts lt h = rw (test_below v t.0 lt) (coef_under v (t.0 + 1) ts (clean_ascend (t.0 + 1) ts h) (omega arith))

-- the coefficients of the rest
rest_same : (t u : ℕ × ℤ) (ts us : List (ℕ × ℤ)) → t.0 ≡ u.0 → Clean (t.0 + 1) ts → Clean (u.0 + 1) us
    → ((v : ℕ) → coef v (t ∷ ts) ≡ coef v (u ∷ us)) → (v : ℕ) → coef v ts ≡ coef v us
rest_same t u ts us e h k same v = elim (cases_lt t.0 v) [
  | inl more ↦
      let a : coef v (t ∷ ts) ≡ coef v ts = rw (test_above v t.0 more) refl in
      let b : coef v (u ∷ us) ≡ coef v us = rw (test_above v u.0 (omega (arith, e))) refl in
      sym a ∙ same v ∙ b
  | inr less ↦
      coef_under v (t.0 + 1) ts (clean_ascend (t.0 + 1) ts h) (omega arith)
      ∙ sym (coef_under v (u.0 + 1) us (clean_ascend (u.0 + 1) us k) (omega (arith, e)))
]

pub same_terms : (low : ℕ) (ts us : List (ℕ × ℤ)) → Clean low ts → Clean low us → ((v : ℕ) → coef v ts ≡ coef v us) → ts ≡ us
same_terms low [] [] h k same = refl
same_terms low [] (u ∷ us) h k same = absurd (k.1 (sym (coef_head u us) ∙ sym (same u.0)))
same_terms low (t ∷ ts) [] h k same = absurd (h.1 (sym (coef_head t ts) ∙ same t.0))
same_terms low (t ∷ ts) (u ∷ us) h k same = elim (cases_order t.0 u.0) [
  | inl e ↦
      let head : t.1 ≡ u.1 = sym (coef_head t ts) ∙ same t.0 ∙ ap (λ v. coef v (u ∷ us)) e ∙ coef_head u us in
      let rest : ts ≡ us = same_terms (t.0 + 1) ts us h.2 (rw e k.2) (rest_same t u ts us e h.2 k.2 same) in
      λ i. (e i, head i) ∷ rest i
  | inr apart ↦ elim apart [
    | inl less ↦ absurd (h.1 (sym (coef_head t ts) ∙ same t.0 ∙ under_head t.0 u us less k.2))
    | inr more ↦ absurd (k.1 (sym (coef_head u us) ∙ sym (same u.0) ∙ under_head u.0 t ts more h.2))
  ]
]
