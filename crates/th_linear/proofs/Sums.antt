-- What a sum of multiples is, says and leaves.
use Rattle.std.proofs.Common.{◌≡◌, ℕ, ◌+◌, ◌<◌, ◌^◌, ℤ, pos, neg_ℤ, List, [], ◌∷◌, ◌+ℤ◌, ◌*ℤ◌, arith, refl, ap, sym, ◌∙◌, inl, inr, true, ◌&&◌, Some, None, subst}
use Rattle.std.specs.Int.RustNames.{unsigned_abs}
use Rattle.std.specs.Ordering.{int_eq}
use Rattle.std.proofs.lemmas.Int.{ints}
use Rattle.std.proofs.lemmas.Bool.{cases_order, cases_Bool, lt-ltb, le-ltb, ltb-true, eq-eqb, and_parts}
use Rattle.std.proofs.lemmas.Bool.Decides.{Decides-int_eq}
use Rattle.th_linear.specs.Forms.{Form, AreTerms, value, coef}
use Rattle.th_linear.specs.Normal.{scaled}
use Rattle.th_linear.specs.Divided.{normal_of}
use Rattle.th_linear.specs.Mixed.{mixed, IsMixed, AreMixed, IsTooLarge}
use Rattle.th_linear.specs.Summed.{term_before, added, summed, mixed_terms, is_small, all_small, mixed_form}
use Rattle.th_linear.specs.Laws.{IsFact, DivisionKeeps, SumFollows, SubstitutionKeeps, AbsentStays}
use Rattle.th_linear.specs.declared.fact.Rel.{Rel}
use Rattle.th_linear.specs.declared.fact.Rel.TheVariants.{Le}
use Rattle.th_linear.proofs.Keeps.{value-scaled, normal-keeps}
use Rattle.th_linear.proofs.Normals.{is_normal, leaves_form}
use Rattle.th_linear.proofs.Follows.{combined-holds, substituted-keeps}
use Rattle.th_linear.proofs.Ring.{distrib_right}
use Rattle.th_linear.proofs.Terms.{Clean, terms_ascend, test_above}
use Rattle.th_linear.proofs.Summing.{mixed_clean, coef_mixed, mixed_some, mixed_large_constant, mixed_large_terms}

-- ---- the value of a sum

value_before : (v : ℕ) (c : ℤ) (ts : List (ℕ × ℤ)) (s : ℕ → ℤ) → value (term_before v c ts) s ≡ (c *ℤ s v) +ℤ value ts s
value_before v c ts s = elim (cases_Bool (int_eq c (pos 0))) [
  | inl is ↦ let none : c ≡ pos 0 = (Decides-int_eq c (pos 0)).0 is in rw is (drop_none c (s v) (value ts s) none)
  | inr isnt ↦ rw isnt refl
]
  where
    drop_none : (k x y : ℤ) → k ≡ pos 0 → y ≡ (k *ℤ x) +ℤ y
    drop_none k x y e = rw e (omega (arith, ints))

value_added : (v : ℕ) (c : ℤ) (ts : List (ℕ × ℤ)) (s : ℕ → ℤ) → value (added v c ts) s ≡ (c *ℤ s v) +ℤ value ts s
value_added v c [] s = value_before v c [] s
value_added v c (t ∷ ts) s = elim (cases_order v t.0) [
  | inl e ↦
      rw (le-ltb v t.0 (omega (arith, e)), eq-eqb v t.0 e)
      (value_before v (c +ℤ t.1) ts s ∙ ap (λ z. z +ℤ value ts s) (distrib_right c t.1 (s v))
      ∙ regroup (c *ℤ s v) (t.1 *ℤ s v) (value ts s) ∙ ap (λ w. (c *ℤ s v) +ℤ ((t.1 *ℤ s w) +ℤ value ts s)) e)
  | inr apart ↦ elim apart [
    | inl less ↦ rw (lt-ltb v t.0 less) (value_before v c (t ∷ ts) s)
    | inr more ↦
        rw (le-ltb v t.0 (omega (arith, more)), test_above v t.0 more)
        (ap (λ z. (t.1 *ℤ s t.0) +ℤ z) (value_added v c ts s) ∙ exchange (t.1 *ℤ s t.0) (c *ℤ s v) (value ts s))
  ]
]
  where
    regroup : (a b x : ℤ) → (a +ℤ b) +ℤ x ≡ a +ℤ (b +ℤ x)
    regroup a b x = omega (arith, ints)

    exchange : (a b x : ℤ) → a +ℤ (b +ℤ x) ≡ b +ℤ (a +ℤ x)
    exchange a b x = omega (arith, ints)

pub value_summed : (ts us : List (ℕ × ℤ)) (s : ℕ → ℤ) → value (summed ts us) s ≡ value ts s +ℤ value us s
value_summed [] us s = omega (arith, ints)
value_summed (t ∷ ts) us s = value_added t.0 t.1 (summed ts us) s ∙ group (t.1 *ℤ s t.0) (value (summed ts us) s) (value ts s) (value us s) (value_summed ts us s)
  where
    group : (x y a b : ℤ) → y ≡ a +ℤ b → x +ℤ y ≡ (x +ℤ a) +ℤ b
    group x y a b e = omega (arith, ints)

value_mixed : (p : ℤ) (a : List (ℕ × ℤ)) (q : ℤ) (b : List (ℕ × ℤ)) (s : ℕ → ℤ) → value (mixed_terms p a q b) s ≡ mixed p (value a s) q (value b s)
unfolding mixed_terms
value_mixed p a q b s =
    value_summed (scaled p a) (summed (scaled q b) []) s
    ∙ (λ i. value-scaled p a s i +ℤ (value_summed (scaled q b) [] s ∙ no_more (value (scaled q b) s) ∙ value-scaled q b s) i)
  where
    no_more : (z : ℤ) → z +ℤ pos 0 ≡ z
    no_more z = omega (arith, ints)

-- ---- the sum as a fact

pub clean_small : (low : ℕ) (ts : List (ℕ × ℤ)) → Clean low ts → all_small ts ≡ true → AreTerms low ts
clean_small low [] h k = tt
clean_small low (t ∷ ts) h k =
    let parts = and_parts (is_small t.1) (all_small ts) k in
    (h.0, magnitude t.1 h.1, ltb-true (unsigned_abs t.1) (2 ^ 62) parts.0, clean_small (t.0 + 1) ts h.2 parts.1)
  where
    magnitude : (z : ℤ) → (z ≡ pos 0 → ⊥) → 0 < unsigned_abs z
    magnitude z n = grind (arith, ints)

some_is : (r x : Form) → Some x ≡ Some r → x ≡ r
some_is r x e = cc

pub answer_of : (p : ℤ) (a : Form) (q : ℤ) (b : Form) (to : Rel) (r : Form) → IsFact a → IsFact b → mixed_form p a q b to ≡ Some r → IsFact r × IsMixed p a q b to r
unfolding mixed_form
answer_of p a q b to r h k e = elim (cases_Bool (is_small (mixed p a.constant q b.constant) && all_small (mixed_terms p a.coefs q b.coefs))) [
  | inl is ↦
      let terms = mixed_terms p a.coefs q b.coefs in
      let constant = mixed p a.constant q b.constant in
      let parts = and_parts (is_small constant) (all_small terms) is in
      let up = terms_ascend 0 a.coefs h.terms in
      let vp = terms_ascend 0 b.coefs k.terms in
      let made : IsFact (record { coefs = terms; constant = constant; rel = to }) × IsMixed p a q b to (record { coefs = terms; constant = constant; rel = to }) = (
        record { terms = clean_small 0 terms (mixed_clean p a.coefs q b.coefs up vp) parts.1; small = ltb-true (unsigned_abs constant) (2 ^ 62) parts.0 },
        record { value = λ s. value_mixed p a.coefs q b.coefs s; coef = λ v. coef_mixed v p a.coefs q b.coefs up vp; constant = refl; rel = refl },
      ) in
      subst (λ (x : Form). IsFact x × IsMixed p a q b to x) (some_is r (record { coefs = terms; constant = constant; rel = to }) (rw is at e)) made
  | inr isnt ↦ let n : None ≡ Some r = rw isnt at e in cc
]

pub sum_is : (p : ℤ) (a : Form) (q : ℤ) (b : Form) (to : Rel) (r : Form) → IsFact a → IsFact b → IsFact r → IsMixed p a q b to r → mixed_form p a q b to ≡ Some r
sum_is p a q b to r h k f m =
    let parts : AreMixed p a.coefs q b.coefs r.coefs = record { terms = f.terms; value = m.value; coef = m.coef } in
    mixed_some p a q b to r.coefs r.constant (terms_ascend 0 a.coefs h.terms) (terms_ascend 0 b.coefs k.terms) parts m.constant f.small
    ∙ ap (λ (rel : Rel). Some (record { coefs = r.coefs; constant = r.constant; rel = rel })) (sym m.rel)

pub no_sum : (p : ℤ) (a : Form) (q : ℤ) (b : Form) (to : Rel) → IsFact a → IsFact b → IsTooLarge p a q b → mixed_form p a q b to ≡ None
no_sum p a q b to h k (inl large) = mixed_large_constant p a q b to large
no_sum p a q b to h k (inr large) = mixed_large_terms p a q b to (terms_ascend 0 a.coefs h.terms) (terms_ascend 0 b.coefs k.terms) large

-- ---- what the steps keep

pub division_keeps : DivisionKeeps
division_keeps f h =
    let n = is_normal f h in
    (leaves_form f (normal_of f) h n, (λ s. normal-keeps f (normal_of f) s h.terms n))

pub sum_follows : SumFollows
sum_follows a p b q r h k la lb hp hq e =
    let x = answer_of p a q b Le r h k e in
    (x.0, x.1.rel, (λ s u v. combined-holds p q a b r s la lb hp hq x.1 u v))

pub substitution_keeps : SubstitutionKeeps
substitution_keeps f v by r h k eq e =
    let m = neg_ℤ (coef v f.coefs *ℤ coef v by.coefs) in
    let x = answer_of (pos 1) f m by f.rel r h k e in
    (x.0, x.1.rel, (λ s u. substituted-keeps m f by r s eq x.1 u))

-- ---- a fact without the variable

once : (z y : ℤ) → z ≡ mixed (pos 1) z (pos 0) y
once z y = omega (arith, ints)

no_multiple : (c x : ℤ) → c ≡ pos 0 → pos 0 ≡ neg_ℤ (c *ℤ x)
no_multiple c x e = rw e (omega (arith, ints))

pub absent_stays : AbsentStays
absent_stays f v by h k none =
    let itself : IsMixed (pos 1) f (pos 0) by f.rel f =
    record { value = λ s. once (value f.coefs s) (value by.coefs s); coef = λ w. once (coef w f.coefs) (coef w by.coefs); constant = once f.constant by.constant; rel = refl } in
    subst (λ (m : ℤ). mixed_form (pos 1) f m by f.rel ≡ Some f) (no_multiple (coef v f.coefs) (coef v by.coefs) none)
    (sum_is (pos 1) f (pos 0) by f.rel f h k h itself)
