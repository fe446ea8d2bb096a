-- The loop that mixes two lists of terms.
use Rattle.std.proofs.Common.{◌≡◌, ℕ, ◌+◌, ◌<◌, ◌≤◌, ℤ, pos, List, [], ◌∷◌, ◌++◌, ◌*ℤ◌, ◌+ℤ◌, arith, refl, ap, sym, ◌∙◌, subst, cond, eqb, true, false, inl, inr}
use Rattle.std.specs.Int.RustNames.{unsigned_abs}
use Rattle.std.proofs.lemmas.Int.{ints}
use Rattle.std.proofs.lemmas.Bool.Decides.{nat_tests}
use Rattle.std.proofs.lemmas.Bool.{cases_lt}
use Rattle.th_linear.specs.Forms.{AreTerms, value, coef, Small}
use Rattle.th_linear.specs.Mixed.{mixed, AreMixed, Steps}

-- each variable is below `low`
abbrev pub Below : ℕ → List (ℕ × ℤ) → Type 0
Below low [] = Unit {0}
Below low (t ∷ ts) = (t.0 < low) × Below low ts

-- p l + q r is out, and p a + q b to come
pub record Going (p : ℤ) (l : List (ℕ × ℤ)) (q : ℤ) (r out a b : List (ℕ × ℤ)) (low : ℕ) : Type 0 where
  pub terms : AreTerms 0 out
  pub under : Below low out
  pub left : AreTerms low a
  pub right : AreTerms low b
  pub value : (s : ℕ → ℤ) → value out s +ℤ mixed p (value a s) q (value b s) ≡ mixed p (value l s) q (value r s)
  pub done : (v : ℕ) → v < low → coef v out ≡ mixed p (coef v l) q (coef v r)
  pub left_rest : (v : ℕ) → low ≤ v → coef v a ≡ coef v l
  pub right_rest : (v : ℕ) → low ≤ v → coef v b ≡ coef v r

pub going_start : (p : ℤ) (l : List (ℕ × ℤ)) (q : ℤ) (r : List (ℕ × ℤ)) → AreTerms 0 l → AreTerms 0 r → Going p l q r [] l r 0
going_start p l q r h k = record {
  terms = tt;
  under = tt;
  left = h;
  right = k;
  value = λ s. omega (arith, ints);
  done = λ v z. absurd (omega arith);
  left_rest = λ v z. refl;
  right_rest = λ v z. refl;
}

below_more : (low high : ℕ) (ts : List (ℕ × ℤ)) → low ≤ high → Below low ts → Below high ts
below_more low high [] h b = tt
below_more low high (t ∷ ts) h b = (omega (arith, b.0), below_more low high ts h b.1)

below_push : (low : ℕ) (ts : List (ℕ × ℤ)) (v : ℕ) (c : ℤ) → Below low ts → v < low → Below low (ts ++ (v, c) ∷ [])
below_push low [] v c b h = (h, tt)
below_push low (t ∷ ts) v c b h = (b.0, below_push low ts v c b.1 h)

terms_push : (low : ℕ) (ts : List (ℕ × ℤ)) (v : ℕ) (c : ℤ) → AreTerms low ts → Below v ts → low ≤ v → 0 < unsigned_abs c → Small c → AreTerms low (ts ++ (v, c) ∷ [])
terms_push low [] v c terms b h n m = (h, n, m, tt)
terms_push low (t ∷ ts) v c terms b h n m = (terms.0, terms.1, terms.2, terms_push (t.0 + 1) ts v c terms.3 b.1 (omega (arith, b.0)) n m)

value_push : (ts : List (ℕ × ℤ)) (v : ℕ) (c : ℤ) (s : ℕ → ℤ) → value (ts ++ (v, c) ∷ []) s ≡ value ts s +ℤ (c *ℤ s v)
value_push [] v c s = omega (arith, ints)
value_push (t ∷ ts) v c s = let e = value_push ts v c s in omega (arith, ints, e)

test_apart : (v w : ℕ) → v < w → (eqb v w ≡ false) × (eqb w v ≡ false)
test_apart v w h = (grind (arith, nat_tests), grind (arith, nat_tests))

test_same : (v : ℕ) → eqb v v ≡ true
test_same v = grind (arith, nat_tests)

coef_above : (w : ℕ) (ts : List (ℕ × ℤ)) → Below w ts → coef w ts ≡ pos 0
coef_above w [] b = refl
coef_above w (t ∷ ts) b = rw (test_apart t.0 w b.0).1 (coef_above w ts b.1)

coef_push : (w : ℕ) (ts : List (ℕ × ℤ)) (v : ℕ) (c : ℤ) → w < v → coef w (ts ++ (v, c) ∷ []) ≡ coef w ts
coef_push w [] v c h = rw (test_apart w v h).0 refl
coef_push w (t ∷ ts) v c h = ap (cond (eqb w t.0) t.1) (coef_push w ts v c h)

coef_new : (ts : List (ℕ × ℤ)) (v : ℕ) (c : ℤ) → Below v ts → coef v (ts ++ (v, c) ∷ []) ≡ c
coef_new [] v c b = rw (test_same v) refl
coef_new (t ∷ ts) v c b = rw (test_apart t.0 v b.0).1 (coef_new ts v c b.1)

mixed_zero : (p x q y : ℤ) → x ≡ pos 0 → y ≡ pos 0 → mixed p x q y ≡ pos 0
mixed_zero p x q y e f = rw (e, f) (omega (arith, ints))

-- the coefficients below the variable of a step
passed : (p : ℤ) (l : List (ℕ × ℤ)) (q : ℤ) (r out a b : List (ℕ × ℤ)) (low v : ℕ) (c : ℤ) (xs ys : List (ℕ × ℤ))
    → Going p l q r out a b low → Steps p a q b v c xs ys → (w : ℕ) → w < v → coef w out ≡ mixed p (coef w l) q (coef w r)
passed p l q r out a b low v c xs ys g h w lt = elim (cases_lt w low) [
  | inl less ↦ g.done w less
  | inr more ↦
      let zero = h.below w lt in
      coef_above w out (below_more low w out more g.under) ∙ sym (mixed_zero p (coef w l) q (coef w r) (sym (g.left_rest w more) ∙ zero.0) (sym (g.right_rest w more) ∙ zero.1))
]

here_is : (p : ℤ) (l : List (ℕ × ℤ)) (q : ℤ) (r out a b : List (ℕ × ℤ)) (low v : ℕ) (c : ℤ) (xs ys : List (ℕ × ℤ))
    → Going p l q r out a b low → Steps p a q b v c xs ys → c ≡ mixed p (coef v l) q (coef v r)
here_is p l q r out a b low v c xs ys g h =
    let m = h.low low g.left g.right in
    h.here ∙ (λ i. mixed p (g.left_rest v m i) q (g.right_rest v m i))

pub going_push : (p : ℤ) (l : List (ℕ × ℤ)) (q : ℤ) (r out a b : List (ℕ × ℤ)) (low v : ℕ) (c : ℤ) (xs ys : List (ℕ × ℤ))
    → Going p l q r out a b low → Steps p a q b v c xs ys → 0 < unsigned_abs c → Small c → Going p l q r (out ++ (v, c) ∷ []) xs ys (v + 1)
going_push p l q r out a b low v c xs ys g h n m =
    let at = h.low low g.left g.right in
    let under : Below v out = below_more low v out at g.under in record {
      terms = terms_push 0 out v c g.terms under (omega arith) n m;
      under = below_push (v + 1) out v c (below_more v (v + 1) out (omega arith) under) (omega arith);
      left = h.left;
      right = h.right;
      value = λ s.
          let e = value_push out v c s in
          let f = h.value s in
          let k = g.value s in
          omega (arith, ints, e, f, k);
      done = λ w less. elim (cases_lt w v) [
        | inl lt ↦ coef_push w out v c lt ∙ passed p l q r out a b low v c xs ys g h w lt
        | inr ge ↦
            let same : w ≡ v = omega arith in
            rw same (coef_new out v c under ∙ here_is p l q r out a b low v c xs ys g h)
      ];
      left_rest = λ w more. (h.later w (omega arith)).0 ∙ g.left_rest w (omega (arith, at));
      right_rest = λ w more. (h.later w (omega arith)).1 ∙ g.right_rest w (omega (arith, at));
    }

pub going_skip : (p : ℤ) (l : List (ℕ × ℤ)) (q : ℤ) (r out a b : List (ℕ × ℤ)) (low v : ℕ) (c : ℤ) (xs ys : List (ℕ × ℤ))
    → Going p l q r out a b low → Steps p a q b v c xs ys → c ≡ pos 0 → Going p l q r out xs ys (v + 1)
going_skip p l q r out a b low v c xs ys g h z =
    let at = h.low low g.left g.right in
    let under : Below v out = below_more low v out at g.under in record {
      terms = g.terms;
      under = below_more v (v + 1) out (omega arith) under;
      left = h.left;
      right = h.right;
      value = λ s.
          let none : c *ℤ s v ≡ pos 0 = rw z (omega (arith, ints)) in
          let f = h.value s in
          let k = g.value s in
          omega (arith, ints, none, f, k);
      done = λ w less. elim (cases_lt w v) [
        | inl lt ↦ passed p l q r out a b low v c xs ys g h w lt
        | inr ge ↦
            let same : w ≡ v = omega arith in
            rw same (coef_above v out under ∙ sym z ∙ here_is p l q r out a b low v c xs ys g h)
      ];
      left_rest = λ w more. (h.later w (omega arith)).0 ∙ g.left_rest w (omega (arith, at));
      right_rest = λ w more. (h.later w (omega arith)).1 ∙ g.right_rest w (omega (arith, at));
    }

pub going_large : (p : ℤ) (l : List (ℕ × ℤ)) (q : ℤ) (r out a b : List (ℕ × ℤ)) (low v : ℕ) (c : ℤ) (xs ys : List (ℕ × ℤ))
    → Going p l q r out a b low → Steps p a q b v c xs ys → (Small c → ⊥) → (w : ℕ) × (Small (mixed p (coef w l) q (coef w r)) → ⊥)
going_large p l q r out a b low v c xs ys g h n = (v, (λ k. n (subst Small (sym (here_is p l q r out a b low v c xs ys g h)) k)))

pub going_end : (p : ℤ) (l : List (ℕ × ℤ)) (q : ℤ) (r out a b : List (ℕ × ℤ)) (low : ℕ) → Going p l q r out a b low → a ≡ [] → b ≡ [] → AreMixed p l q r out
going_end p l q r out a b low g e f = record {
  terms = g.terms;
  value = λ s.
      let x : value a s ≡ pos 0 = ap (λ ts. value ts s) e in
      let y : value b s ≡ pos 0 = ap (λ ts. value ts s) f in
      let z = mixed_zero p (value a s) q (value b s) x y in
      let k = g.value s in
      omega (arith, ints, z, k);
  coef = λ v. elim (cases_lt v low) [
    | inl lt ↦ g.done v lt
    | inr ge ↦
        coef_above v out (below_more low v out ge g.under) ∙ sym (mixed_zero p (coef v l) q (coef v r)
        (sym (g.left_rest v ge) ∙ ap (coef v) e) (sym (g.right_rest v ge) ∙ ap (coef v) f))
  ];
}

pub nonzero : (z : ℤ) → (z ≡ pos 0 → ⊥) → 0 < unsigned_abs z
nonzero z n = grind (arith, ints)

pub pushed_some : (ts : List (ℕ × ℤ)) (t : ℕ × ℤ) → ts ++ t ∷ [] ≡ [] → ⊥
pushed_some [] t e = let n : (t ∷ []) ≡ [] = e in cc
pushed_some (u ∷ us) t e = let n : (u ∷ (us ++ t ∷ [])) ≡ [] = e in cc
