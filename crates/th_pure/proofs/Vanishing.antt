-- The factors of two facts make the variable vanish.
use Rattle.std.proofs.Common.{◌≡◌, ℕ, zero, suc, ◌*◌, ◌/◌, ◌%◌, ◌<◌, ℤ, pos, neg_ℤ, ◌<ℤ◌, arith, refl, ap, sym, ◌∙◌, inl, inr, Bool, true, false, ◌&&◌}
use Rattle.std.specs.Int.{◌∣◌}
use Rattle.std.specs.Int.RustNames.{unsigned_abs}
use Rattle.std.proofs.lemmas.Int.{ints}
use Rattle.std.proofs.lemmas.Bool.{cases_Bool, and_parts, eqb-true, eq-eqb}
use native.Mathlib.Nat.{dvd_of_mod-eq-zero, mod-eq-zero_of_dvd, one-dvd, mul-div_cancel'}
use Rattle.th_linear.specs.Forms.{coef}
use Rattle.th_linear.specs.Divided.{greatest, divides, gcd_of}
use Rattle.th_linear.specs.Mixed.{mixed}
use Rattle.th_linear.specs.Laws.{OneSum}
use Rattle.th_linear.specs.declared.fact.Rel.TheVariants.{Le}
use Rattle.th_pure.specs.Laws.{VariableVanishes}

-- what is found passes the test, where 1 does
greatest_passes : (test : ℕ → Bool) (n : ℕ) → 0 < n → test 1 ≡ true → test (greatest test n) ≡ true
unfolding greatest
greatest_passes test zero some one = absurd (omega arith)
greatest_passes test (suc n) some one = elim (cases_Bool (test (suc n))) [
  | inl is ↦ rw is is
  | inr isnt ↦ rw isnt (less n isnt (λ h. greatest_passes test n h one))
]
  where
    less : (m : ℕ) → test (suc m) ≡ false → (0 < m → test (greatest test m) ≡ true) → test (greatest test m) ≡ true
    less zero fails below = let k : true ≡ false = sym one ∙ fails in cc
    less (suc m) fails below = below (omega arith)

one_divides : (n : ℕ) → divides 1 n ≡ true
one_divides n = eq-eqb (n % 1) 0 (mod-eq-zero_of_dvd 1 (one-dvd n))

divides_both : (c d : ℕ) → 0 < c → (gcd_of c d ∣ c) × (gcd_of c d ∣ d)
unfolding gcd_of
divides_both c d some =
    let test : ℕ → Bool = λ g. divides g c && divides g d in
    let one : test 1 ≡ true = rw (one_divides c, one_divides d) refl in
    let parts = and_parts (divides (greatest test c) c) (divides (greatest test c) d) (greatest_passes test c some one) in
    (dvd_of_mod-eq-zero (greatest test c) (eqb-true (c % greatest test c) 0 parts.0), dvd_of_mod-eq-zero (greatest test c) (eqb-true (d % greatest test c) 0 parts.1))

exchange : (g p q : ℕ) → p * (g * q) ≡ q * (g * p)
exchange g p q = grind arith

factors_cancel : (g c d p q : ℕ) → g * p ≡ d → g * q ≡ c → p * c ≡ q * d
factors_cancel g c d p q e f = ap (λ n. p * n) (sym f) ∙ exchange g p q ∙ ap (λ n. q * n) e

zero_sum : (p c q d : ℕ) → p * c ≡ q * d → mixed (pos p) (pos c) (pos q) (neg_ℤ (pos d)) ≡ pos 0
zero_sum p c q zero e = omega (arith, ints, e)
zero_sum p c q (suc d) e = omega (arith, ints, e)

upper_is : (z : ℤ) → pos 0 <ℤ z → z ≡ pos (unsigned_abs z)
upper_is z h = omega (arith, ints)

lower_is : (z : ℤ) → z <ℤ pos 0 → z ≡ neg_ℤ (pos (unsigned_abs z))
lower_is z h = omega (arith, ints)

pub vanishes : OneSum → VariableVanishes
vanishes law v a b r h k up low e =
    let c = unsigned_abs (coef v a.coefs) in
    let d = unsigned_abs (coef v b.coefs) in
    let g = gcd_of c d in
    let ca = upper_is (coef v a.coefs) up.1 in
    let cb = lower_is (coef v b.coefs) low.1 in
    let some : 0 < c = positive (coef v a.coefs) up.1 in
    let both = divides_both c d some in
    let sum = (law (pos (d / g)) a (pos (c / g)) b Le r h k).1 e in
    sum.1.coef v ∙ (λ i. mixed (pos (d / g)) (ca i) (pos (c / g)) (cb i))
    ∙ zero_sum (d / g) c (c / g) d (factors_cancel g c d (d / g) (c / g) (mul-div_cancel' g both.1) (mul-div_cancel' g both.0))
  where
    positive : (z : ℤ) → pos 0 <ℤ z → 0 < unsigned_abs z
    positive z p = omega (arith, ints)
