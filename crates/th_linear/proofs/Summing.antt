-- The functions on sums give the terms with the summed coefficients.
use Rattle.std.proofs.Common.{◌≡◌, ℕ, ◌+◌, ◌<◌, ◌≤◌, ◌^◌, ℤ, pos, List, [], ◌∷◌, ◌+ℤ◌, ◌*ℤ◌, arith, refl, ap, sym, ◌∙◌, cond, eqb, inl, inr, true, false, Some, None, subst}
use Rattle.std.specs.Int.RustNames.{unsigned_abs}
use Rattle.std.specs.Ordering.{int_eq}
use Rattle.std.proofs.lemmas.Int.{ints}
use Rattle.std.proofs.lemmas.Bool.{cases_order, cases_eq, cases_Bool, lt-ltb, le-ltb, ltb-true, and_parts, false_from_ne_true, and_left, and_right, eq-eqb, ne_eqb}
use Rattle.std.proofs.lemmas.Bool.Decides.{Decides-int_eq}
use Rattle.th_linear.specs.Forms.{Form, AreTerms, Small, coef}
use Rattle.th_linear.specs.Normal.{scaled}
use Rattle.th_linear.specs.Mixed.{mixed, AreMixed, HasLarge}
use Rattle.th_linear.specs.Summed.{term_before, added, summed, mixed_terms, is_small, all_small, mixed_form}
use Rattle.th_linear.specs.declared.fact.Rel.{Rel}
use Rattle.th_linear.proofs.Terms.{Ascend, Clean, clean_ascend, clean_terms, coef_under, test_below, test_above, same_terms}

-- ---- one term

pub before_clean : (v low : ℕ) (c : ℤ) (ts : List (ℕ × ℤ)) → low ≤ v → Clean (v + 1) ts → Clean low (term_before v c ts)
before_clean v low c ts le h = elim (cases_Bool (int_eq c (pos 0))) [
  | inl is ↦ rw is (lower ts h)
  | inr isnt ↦ rw isnt (le, (λ e. let k : true ≡ false = sym ((Decides-int_eq c (pos 0)).1 e) ∙ isnt in cc), h)
]
  where
    lower : (us : List (ℕ × ℤ)) → Clean (v + 1) us → Clean low us
    lower [] k = tt
    lower (u ∷ us) k = (omega (arith, k.0), k.1, k.2)

pub coef_before : (w v : ℕ) (c : ℤ) (ts : List (ℕ × ℤ)) → Clean (v + 1) ts → coef w (term_before v c ts) ≡ cond (eqb w v) c (coef w ts)
coef_before w v c ts h = elim (cases_Bool (int_eq c (pos 0))) [
  | inl is ↦
      let none : c ≡ pos 0 = (Decides-int_eq c (pos 0)).0 is in
      rw is (elim (cases_eq w v) [
        | inl e ↦ rw (eq-eqb w v e) (coef_under w (v + 1) ts (clean_ascend (v + 1) ts h) (omega (arith, e)) ∙ sym none)
        | inr ne ↦ rw (ne_eqb w v ne) refl
      ])
  | inr isnt ↦ rw isnt refl
]

-- ---- a term added

times_one : (c : ℤ) → c ≡ c +ℤ pos 0
times_one c = omega (arith, ints)

zero_left : (c x : ℤ) → x ≡ pos 0 → c ≡ c +ℤ x
zero_left c x e = rw e (times_one c)

pub coef_added : (w v low : ℕ) (c : ℤ) (ts : List (ℕ × ℤ)) → Clean low ts
    → coef w (added v c ts) ≡ cond (eqb w v) (c +ℤ coef w ts) (coef w ts)
coef_added w v low c [] h =
    coef_before w v c [] tt ∙ ap (λ z. cond (eqb w v) z (pos 0)) (times_one c)
coef_added w v low c (t ∷ ts) h = elim (cases_order v t.0) [
  | inl e ↦
      rw (le-ltb v t.0 (omega (arith, e)), eq-eqb v t.0 e)
      (coef_before w v (c +ℤ t.1) ts (rw e h.2) ∙ merge w v c t ts e h.2)
  | inr apart ↦ elim apart [
    | inl less ↦
        rw (lt-ltb v t.0 less)
        (coef_before w v c (t ∷ ts) (omega (arith, less), h.1, h.2) ∙ fresh w v c t ts less h.2)
    | inr more ↦
        rw (le-ltb v t.0 (omega (arith, more)), test_above v t.0 more)
        (ap (λ z. cond (eqb w t.0) t.1 z) (coef_added w v (t.0 + 1) c ts h.2) ∙ past w v c t ts more)
  ]
]
  where
    merge : (w v : ℕ) (c : ℤ) (t : ℕ × ℤ) (ts : List (ℕ × ℤ)) → v ≡ t.0 → Clean (t.0 + 1) ts
        → cond (eqb w v) (c +ℤ t.1) (coef w ts) ≡ cond (eqb w v) (c +ℤ cond (eqb w t.0) t.1 (coef w ts)) (cond (eqb w t.0) t.1 (coef w ts))
    merge w v c t ts e k = elim (cases_eq w v) [
      | inl s ↦ rw (eq-eqb w v s, eq-eqb w t.0 (s ∙ e)) refl
      | inr n ↦ rw (ne_eqb w v n, ne_eqb w t.0 (λ s. n (s ∙ sym e))) refl
    ]

    fresh : (w v : ℕ) (c : ℤ) (t : ℕ × ℤ) (ts : List (ℕ × ℤ)) → v < t.0 → Clean (t.0 + 1) ts
        → cond (eqb w v) c (cond (eqb w t.0) t.1 (coef w ts)) ≡ cond (eqb w v) (c +ℤ cond (eqb w t.0) t.1 (coef w ts)) (cond (eqb w t.0) t.1 (coef w ts))
    fresh w v c t ts less k = elim (cases_eq w v) [
      | inl s ↦
          rw (eq-eqb w v s, test_below w t.0 (omega (arith, s)))
          (zero_left c (coef w ts) (coef_under w (t.0 + 1) ts (clean_ascend (t.0 + 1) ts k) (omega (arith, s))))
      | inr n ↦ rw (ne_eqb w v n) refl
    ]

    past : (w v : ℕ) (c : ℤ) (t : ℕ × ℤ) (ts : List (ℕ × ℤ)) → t.0 < v
        → cond (eqb w t.0) t.1 (cond (eqb w v) (c +ℤ coef w ts) (coef w ts)) ≡ cond (eqb w v) (c +ℤ cond (eqb w t.0) t.1 (coef w ts)) (cond (eqb w t.0) t.1 (coef w ts))
    past w v c t ts more = elim (cases_eq w v) [
      | inl s ↦ rw (eq-eqb w v s, test_above w t.0 (omega (arith, s))) refl
      | inr n ↦ rw (ne_eqb w v n) refl
    ]

pub added_clean : (v low : ℕ) (c : ℤ) (ts : List (ℕ × ℤ)) → low ≤ v → Clean low ts → Clean low (added v c ts)
added_clean v low c [] le h = before_clean v low c [] le tt
added_clean v low c (t ∷ ts) le h = elim (cases_order v t.0) [
  | inl e ↦
      rw (le-ltb v t.0 (omega (arith, e)), eq-eqb v t.0 e)
      (before_clean v low (c +ℤ t.1) ts le (rw e h.2))
  | inr apart ↦ elim apart [
    | inl less ↦ rw (lt-ltb v t.0 less) (before_clean v low c (t ∷ ts) le (omega (arith, less), h.1, h.2))
    | inr more ↦
        rw (le-ltb v t.0 (omega (arith, more)), test_above v t.0 more)
        (h.0, h.1, added_clean v (t.0 + 1) c ts (omega (arith, more)) h.2)
  ]
]

-- ---- two sums

pub summed_clean : (low : ℕ) (ts us : List (ℕ × ℤ)) → Ascend low ts → Clean 0 us → Clean 0 (summed ts us)
summed_clean low [] us h k = k
summed_clean low (t ∷ ts) us h k = added_clean t.0 0 t.1 (summed ts us) (omega arith) (summed_clean (t.0 + 1) ts us h.1 k)

sum_three : (a b c : ℤ) → a +ℤ (b +ℤ c) ≡ (a +ℤ b) +ℤ c
sum_three a b c = omega (arith, ints)

pub coef_summed : (w low : ℕ) (ts us : List (ℕ × ℤ)) → Ascend low ts → Clean 0 us → coef w (summed ts us) ≡ coef w ts +ℤ coef w us
coef_summed w low [] us h k = omega (arith, ints)
coef_summed w low (t ∷ ts) us h k =
    let rest : coef w (summed ts us) ≡ coef w ts +ℤ coef w us = coef_summed w (t.0 + 1) ts us h.1 k in
    coef_added w t.0 0 t.1 (summed ts us) (summed_clean (t.0 + 1) ts us h.1 k)
    ∙ elim (cases_eq w t.0) [
      | inl s ↦
          let none : coef w ts ≡ pos 0 = coef_under w (t.0 + 1) ts h.1 (omega (arith, s)) in
          rw (eq-eqb w t.0 s) (ap (λ z. t.1 +ℤ z) (rest ∙ ap (λ z. z +ℤ coef w us) none ∙ drop_zero (coef w us)))
      | inr n ↦ rw (ne_eqb w t.0 n) rest
    ]
  where
    drop_zero : (z : ℤ) → pos 0 +ℤ z ≡ z
    drop_zero z = omega (arith, ints)

times_zero : (p : ℤ) → pos 0 ≡ p *ℤ pos 0
times_zero p = omega (arith, ints)

pub coef_scaled : (w : ℕ) (p : ℤ) (ts : List (ℕ × ℤ)) → coef w (scaled p ts) ≡ p *ℤ coef w ts
coef_scaled w p [] = times_zero p
coef_scaled w p (t ∷ ts) = elim (cases_Bool (eqb w t.0)) [
  | inl is ↦ rw is refl
  | inr isnt ↦ rw isnt (coef_scaled w p ts)
]

pub scaled_ascend : (p : ℤ) (low : ℕ) (ts : List (ℕ × ℤ)) → Ascend low ts → Ascend low (scaled p ts)
scaled_ascend p low [] h = tt
scaled_ascend p low (t ∷ ts) h = (h.0, scaled_ascend p (t.0 + 1) ts h.1)

pub mixed_clean : (p : ℤ) (a : List (ℕ × ℤ)) (q : ℤ) (b : List (ℕ × ℤ)) → Ascend 0 a → Ascend 0 b → Clean 0 (mixed_terms p a q b)
unfolding mixed_terms
mixed_clean p a q b h k =
    summed_clean 0 (scaled p a) (summed (scaled q b) []) (scaled_ascend p 0 a h) (summed_clean 0 (scaled q b) [] (scaled_ascend q 0 b k) tt)

pub coef_mixed : (w : ℕ) (p : ℤ) (a : List (ℕ × ℤ)) (q : ℤ) (b : List (ℕ × ℤ)) → Ascend 0 a → Ascend 0 b
    → coef w (mixed_terms p a q b) ≡ mixed p (coef w a) q (coef w b)
unfolding mixed_terms
coef_mixed w p a q b h k =
    let sb = scaled_ascend q 0 b k in
    coef_summed w 0 (scaled p a) (summed (scaled q b) []) (scaled_ascend p 0 a h) (summed_clean 0 (scaled q b) [] sb tt)
    ∙ (λ i. coef_scaled w p a i +ℤ (coef_summed w 0 (scaled q b) [] sb tt ∙ sym (times_one (coef w (scaled q b))) ∙ coef_scaled w q b) i)

-- ---- small or not

pub small_terms : (low : ℕ) (ts : List (ℕ × ℤ)) → AreTerms low ts → all_small ts ≡ true
small_terms low [] h = refl
small_terms low (t ∷ ts) h = rw (lt-ltb (unsigned_abs t.1) (2 ^ 62) h.2) (small_terms (t.0 + 1) ts h.3)

pub small_coef : (w : ℕ) (ts : List (ℕ × ℤ)) → all_small ts ≡ true → Small (coef w ts)
small_coef w [] h = omega arith
small_coef w (t ∷ ts) h =
    let parts = and_parts (is_small t.1) (all_small ts) h in
    elim (cases_Bool (eqb w t.0)) [
      | inl is ↦ rw is (ltb-true (unsigned_abs t.1) (2 ^ 62) parts.0)
      | inr isnt ↦ rw isnt (small_coef w ts parts.1)
    ]

-- the terms of a sum are the only ones with its coefficients
pub terms_of_mixed : (p : ℤ) (a : List (ℕ × ℤ)) (q : ℤ) (b r : List (ℕ × ℤ)) → Ascend 0 a → Ascend 0 b → AreMixed p a q b r → mixed_terms p a q b ≡ r
terms_of_mixed p a q b r h k m =
    same_terms 0 (mixed_terms p a q b) r (mixed_clean p a q b h k) (clean_terms 0 r m.terms) (λ v. coef_mixed v p a q b h k ∙ sym (m.coef v))

pub mixed_some : (p : ℤ) (a : Form) (q : ℤ) (b : Form) (to : Rel) (r : List (ℕ × ℤ)) (k : ℤ) → Ascend 0 a.coefs → Ascend 0 b.coefs
    → AreMixed p a.coefs q b.coefs r → k ≡ mixed p a.constant q b.constant → Small k
    → mixed_form p a q b to ≡ Some (record { coefs = r; constant = k; rel = to })
unfolding mixed_form
mixed_some p a q b to r k h g m e small =
    let terms = terms_of_mixed p a.coefs q b.coefs r h g m in
    rw (terms, ← e, lt-ltb (unsigned_abs k) (2 ^ 62) small, small_terms 0 r m.terms) refl

pub mixed_large_constant : (p : ℤ) (a : Form) (q : ℤ) (b : Form) (to : Rel) → (Small (mixed p a.constant q b.constant) → ⊥) → mixed_form p a q b to ≡ None
unfolding mixed_form
mixed_large_constant p a q b to large =
    let no_small = false_from_ne_true (is_small (mixed p a.constant q b.constant)) (λ s. large (ltb-true (unsigned_abs (mixed p a.constant q b.constant)) (2 ^ 62) s)) in
    rw (and_left (is_small (mixed p a.constant q b.constant)) (all_small (mixed_terms p a.coefs q b.coefs)) no_small) refl

pub mixed_large_terms : (p : ℤ) (a : Form) (q : ℤ) (b : Form) (to : Rel) → Ascend 0 a.coefs → Ascend 0 b.coefs → HasLarge p a.coefs q b.coefs → mixed_form p a q b to ≡ None
unfolding mixed_form
mixed_large_terms p a q b to h k large =
    let terms = mixed_terms p a.coefs q b.coefs in
    let no_small = false_from_ne_true (all_small terms) (λ s. large.1 (subst Small (coef_mixed large.0 p a.coefs q b.coefs h k) (small_coef large.0 terms s))) in
    rw (and_right (is_small (mixed p a.constant q b.constant)) (all_small terms) no_small) refl
