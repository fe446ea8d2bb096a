-- Sums of multiples fit, term by term.
use Rattle.std.proofs.Common.{◌≡◌, ℕ, ◌+◌, ◌*◌, ◌<◌, ◌≤◌, ◌^◌, ℤ, pos, List, [], ◌∷◌, ◌*ℤ◌, ◌+ℤ◌, arith, refl, ap, sym, ◌∙◌, subst, FitsSigned, to_z, of_z, eqb, true, false, length}
use Rattle.std.specs.Int.{w128}
use Rattle.std.specs.Int.RustNames.{unsigned_abs}
use Rattle.std.proofs.lemmas.Int.{ints, unsigned_abs-mul, fits_signed_from_abs, to_z-of_z}
use Rattle.std.proofs.Math.Nat.{mul-le-mul}
use Rattle.th_linear.specs.Forms.{AreTerms, value, coef}
use Rattle.th_linear.specs.Mixed.{mixed, Steps}
use Rattle.std.proofs.lemmas.Bool.Decides.{nat_tests}
use Rattle.th_linear.proofs.Ring.{distrib, distrib_right, assoc}

product_bound : (p x : ℤ) → unsigned_abs p ≤ 2 ^ 62 → unsigned_abs x ≤ 2 ^ 62 → unsigned_abs (p *ℤ x) ≤ 2 ^ 124
product_bound p x a b = let m : unsigned_abs p * unsigned_abs x ≤ 2 ^ 62 * 2 ^ 62 = mul-le-mul a b in omega (arith, unsigned_abs-mul p x, m)

sum_bound : (a b : ℤ) (n : ℕ) → unsigned_abs a ≤ n → unsigned_abs b ≤ n → unsigned_abs (a +ℤ b) ≤ n + n
sum_bound a b n h k = omega (arith, ints)

pub mixed_fits : (p x q y : ℤ) → unsigned_abs p ≤ 2 ^ 62 → unsigned_abs x < 2 ^ 62 → unsigned_abs q ≤ 2 ^ 62 → unsigned_abs y < 2 ^ 62
    → FitsSigned w128 (p *ℤ x) × FitsSigned w128 (q *ℤ y) × FitsSigned w128 ((p *ℤ x) +ℤ (q *ℤ y))
mixed_fits p x q y a b c d =
    let l = product_bound p x a (omega arith) in
    let r = product_bound q y c (omega arith) in
    let s = sum_bound (p *ℤ x) (q *ℤ y) (2 ^ 124) l r in (
      fits_signed_from_abs w128 (p *ℤ x) (omega (arith, l)),
      fits_signed_from_abs w128 (q *ℤ y) (omega (arith, r)),
      fits_signed_from_abs w128 ((p *ℤ x) +ℤ (q *ℤ y)) (omega (arith, s)),
    )

sum_four : (a b c d : ℤ) → ((a +ℤ b) +ℤ (c +ℤ d)) ≡ ((a +ℤ c) +ℤ (b +ℤ d))
sum_four a b c d = omega (arith, ints)

-- one term of each list apart
pub apart : (p x q y s a b : ℤ) → mixed p ((x *ℤ s) +ℤ a) q ((y *ℤ s) +ℤ b) ≡ (mixed p x q y *ℤ s) +ℤ mixed p a q b
apart p x q y s a b =
    let l : p *ℤ ((x *ℤ s) +ℤ a) ≡ ((p *ℤ x) *ℤ s) +ℤ (p *ℤ a) = distrib p (x *ℤ s) a ∙ ap (λ z. z +ℤ (p *ℤ a)) (sym (assoc p x s)) in
    let r : q *ℤ ((y *ℤ s) +ℤ b) ≡ ((q *ℤ y) *ℤ s) +ℤ (q *ℤ b) = distrib q (y *ℤ s) b ∙ ap (λ z. z +ℤ (q *ℤ b)) (sym (assoc q y s)) in
    (λ i. l i +ℤ r i) ∙ sum_four ((p *ℤ x) *ℤ s) (p *ℤ a) ((q *ℤ y) *ℤ s) (q *ℤ b)
    ∙ ap (λ z. z +ℤ mixed p a q b) (sym (distrib_right (p *ℤ x) (q *ℤ y) s))

zero_term : (s a : ℤ) → (pos 0 *ℤ s) +ℤ a ≡ a
zero_term s a = omega (arith, ints)

pub coef_below : (v low : ℕ) (ts : List (ℕ × ℤ)) → AreTerms low ts → v < low → coef v ts ≡ pos 0
coef_below v low [] terms h = refl
coef_below v low (t ∷ ts) terms h =
    let e : eqb v t.0 ≡ false = other v t.0 (omega (arith, terms.0)) in
    rw e (coef_below v (t.0 + 1) ts terms.3 (omega (arith, terms.0)))
  where
    other : (m n : ℕ) → m < n → eqb m n ≡ false
    other m n k = grind (arith, nat_tests)

same_var : (v : ℕ) → eqb v v ≡ true
same_var v = grind (arith, nat_tests)

other_var : (v w : ℕ) → w < v → eqb v w ≡ false
other_var v w h = grind (arith, nat_tests)

pub lower : (low high : ℕ) (ts : List (ℕ × ℤ)) → low ≤ high → AreTerms high ts → AreTerms low ts
lower low high [] h terms = tt
lower low high (t ∷ ts) h terms = (omega (arith, terms.0), terms.1, terms.2, terms.3)

pub head_first : (low : ℕ) (t : ℕ × ℤ) (ts : List (ℕ × ℤ)) → AreTerms low (t ∷ ts) → AreTerms t.0 (t ∷ ts)
head_first low t ts terms = (omega arith, terms.1, terms.2, terms.3)

-- x is the coefficient of v in a, where a has no lesser variable, and xs is the rest
pub record Heads (v : ℕ) (x : ℤ) (a xs : List (ℕ × ℤ)) : Type 0 where
  pub value : (s : ℕ → ℤ) → value a s ≡ (x *ℤ s v) +ℤ value xs s
  pub here : coef v a ≡ x
  pub below : (w : ℕ) → w < v → coef w a ≡ pos 0
  pub later : (w : ℕ) → v < w → coef w xs ≡ coef w a
  pub rest : AreTerms (v + 1) xs

pub there : (t : ℕ × ℤ) (ts : List (ℕ × ℤ)) → AreTerms 0 (t ∷ ts) → Heads t.0 t.1 (t ∷ ts) ts
there t ts terms = record {
  value = λ s. refl;
  here = rw (same_var t.0) refl;
  below = λ w h. coef_below w t.0 (t ∷ ts) (head_first 0 t ts terms) h;
  later = λ w h. rw (other_var w t.0 h) refl;
  rest = terms.3;
}

pub absent : (v : ℕ) (ts : List (ℕ × ℤ)) → AreTerms (v + 1) ts → Heads v (pos 0) ts ts
absent v ts terms = record {
  value = λ s. sym (zero_term (s v) (value ts s));
  here = coef_below v (v + 1) ts terms (omega arith);
  below = λ w h. coef_below w (v + 1) ts terms (omega arith);
  later = λ w h. refl;
  rest = terms;
}

pub raised : (v low : ℕ) (t : ℕ × ℤ) (ts : List (ℕ × ℤ)) → v < t.0 → AreTerms low (t ∷ ts) → AreTerms (v + 1) (t ∷ ts)
raised v low t ts h terms = (omega arith, terms.1, terms.2, terms.3)

pub steps_of : (p q : ℤ) (v : ℕ) (x y c : ℤ) (a b xs ys : List (ℕ × ℤ)) → Heads v x a xs → Heads v y b ys → c ≡ mixed p x q y
    → ((low : ℕ) → AreTerms low a → AreTerms low b → low ≤ v) → length xs + length ys < length a + length b
    → Steps p a q b v c xs ys
steps_of p q v x y c a b xs ys h k e low less = record {
  value = λ s. (λ i. mixed p (h.value s i) q (k.value s i)) ∙ apart p x q y (s v) (value xs s) (value ys s)
      ∙ ap (λ z. (z *ℤ s v) +ℤ mixed p (value xs s) q (value ys s)) (sym e);
  here = e ∙ (λ i. mixed p (sym h.here i) q (sym k.here i));
  below = λ w l. (h.below w l, k.below w l);
  later = λ w l. (h.later w l, k.later w l);
  left = h.rest;
  right = k.rest;
  low = low;
  shorter = less;
}

pub clean : (r p x q y : ℤ) → FitsSigned w128 r → FitsSigned w128 p → FitsSigned w128 x → FitsSigned w128 q → FitsSigned w128 y
    → r ≡ mixed (to_z w128 (of_z w128 p)) (to_z w128 (of_z w128 x)) (to_z w128 (of_z w128 q)) (to_z w128 (of_z w128 y))
    → to_z w128 (of_z w128 r) ≡ mixed p x q y
clean r p x q y fr fp fx fq fy e =
    to_z-of_z w128 r fr ∙ e ∙ (λ i. mixed (to_z-of_z w128 p fp i) (to_z-of_z w128 x fx i) (to_z-of_z w128 q fq i) (to_z-of_z w128 y fy i))

pub left_step : (p q : ℤ) (x : ℕ × ℤ) (xs a b : List (ℕ × ℤ)) (c : ℤ) → a ≡ x ∷ xs → AreTerms 0 a → AreTerms (x.0 + 1) b
    → c ≡ mixed p x.1 q (pos 0) → Steps p a q b x.0 c xs b
left_step p q x xs a b c e terms above k =
    steps_of p q x.0 x.1 (pos 0) c a b xs b (subst (λ (l : List (ℕ × ℤ)). Heads x.0 x.1 l xs) (sym e) (there x xs (subst (AreTerms 0) e terms)))
    (absent x.0 b above) k (λ low f g. (subst (AreTerms low) e f).0) (omega (arith, ap length e))

pub right_step : (p q : ℤ) (y : ℕ × ℤ) (ys a b : List (ℕ × ℤ)) (c : ℤ) → b ≡ y ∷ ys → AreTerms 0 b → AreTerms (y.0 + 1) a
    → c ≡ mixed p (pos 0) q y.1 → Steps p a q b y.0 c a ys
right_step p q y ys a b c e terms above k =
    steps_of p q y.0 (pos 0) y.1 c a b a ys (absent y.0 a above) (subst (λ (l : List (ℕ × ℤ)). Heads y.0 y.1 l ys) (sym e) (there y ys (subst (AreTerms 0) e terms)))
    k (λ low f g. (subst (AreTerms low) e g).0) (omega (arith, ap length e))

pub both_step : (p q : ℤ) (x y : ℕ × ℤ) (xs ys a b : List (ℕ × ℤ)) (c : ℤ) → a ≡ x ∷ xs → b ≡ y ∷ ys → AreTerms 0 a → AreTerms 0 b → y.0 ≡ x.0
    → c ≡ mixed p x.1 q y.1 → Steps p a q b x.0 c xs ys
both_step p q x y xs ys a b c e f terms others same k =
    steps_of p q x.0 x.1 y.1 c a b xs ys (subst (λ (l : List (ℕ × ℤ)). Heads x.0 x.1 l xs) (sym e) (there x xs (subst (AreTerms 0) e terms)))
    (subst (λ (l : List (ℕ × ℤ)). Heads x.0 y.1 l ys) (sym f) (subst (λ (v : ℕ). Heads v y.1 (y ∷ ys) ys) same (there y ys (subst (AreTerms 0) f others))))
    k (λ low g h. (subst (AreTerms low) e g).0) (omega (arith, ap length e, ap length f))

pub above_head : (v : ℕ) (y : ℕ × ℤ) (ys b : List (ℕ × ℤ)) → b ≡ y ∷ ys → v < y.0 → AreTerms 0 b → AreTerms (v + 1) b
above_head v y ys b e h terms = subst (AreTerms (v + 1)) (sym e) (raised v 0 y ys h (subst (AreTerms 0) e terms))

pub above_none : (v : ℕ) (b : List (ℕ × ℤ)) → length b ≡ 0 → AreTerms (v + 1) b
above_none v [] e = tt
above_none v (t ∷ ts) e = absurd (omega (arith, e))
