-- The greatest common divisor as the greatest number that divides.
use Rattle.std.proofs.Common.{◌≡◌, ℕ, zero, suc, ◌%◌, ◌<◌, ◌≤◌, ℤ, List, [], ◌∷◌, arith, refl, sym, inl, inr, Bool, true, false, ◌&&◌}
use Rattle.std.specs.Int.{IsGcd, ◌∣◌}
use Rattle.std.specs.Int.RustNames.{unsigned_abs}
use Rattle.std.proofs.lemmas.Bool.{cases_lt, cases_eq, false_from_ne_true}
use Rattle.std.proofs.lemmas.Nat.Gcd.{IsGcd-from_mod, IsGcd-from_zero}
use Rattle.th_linear.proofs.Divisors.{content_none, all_divide}
use Rattle.std.proofs.lemmas.Bool.Decides.{Decides-eqb, Decides-and, Decides-like}
use Rattle.std.specs.Bool.{Decides}
use native.Mathlib.Nat.{le_of_dvd, dvd_of_mod-eq-zero, mod-eq-zero_of_dvd, pos_of_dvd_of_pos}
use Rattle.th_linear.specs.Forms.{AreTerms}
use Rattle.th_linear.specs.Normal.{IsContent, DividesAll}
use Rattle.th_linear.specs.Divided.{greatest, divides, divides_each, gcd_of, content_of}

pub greatest_is : (test : ℕ → Bool) (g n : ℕ) → 0 < g → g ≤ n → test g ≡ true → ((d : ℕ) → g < d → test d ≡ false) → greatest test n ≡ g
unfolding greatest
greatest_is test g zero some le holds above = absurd (omega arith)
greatest_is test g (suc n) some le holds above = elim (cases_lt g (suc n)) [
  | inl less ↦ rw (above (suc n) less) (greatest_is test g n some (omega arith) holds above)
  | inr more ↦ let e : suc n ≡ g = omega arith in rw e (rw holds refl)
]

pub decides_divides : (d n : ℕ) → Decides (divides d n) (d ∣ n)
decides_divides d n = Decides-like (divides d n) (λ e. dvd_of_mod-eq-zero d e) (λ h. mod-eq-zero_of_dvd d h) (Decides-eqb (n % d) 0)

pub decides_each : (d : ℕ) (ts : List (ℕ × ℤ)) → Decides (divides_each d ts) (DividesAll d ts)
decides_each d [] = ((λ _. tt), (λ _. refl))
decides_each d (t ∷ ts) = Decides-and (divides d (unsigned_abs t.1)) (divides_each d ts) (decides_divides d (unsigned_abs t.1)) (decides_each d ts)

pub gcd_is : (a b g : ℕ) → 0 < a → IsGcd a b g → g ≡ gcd_of a b
unfolding gcd_of
gcd_is a b g some h =
    let test : ℕ → Bool = λ d. divides d a && divides d b in
    let decides = λ (d : ℕ). Decides-and (divides d a) (divides d b) (decides_divides d a) (decides_divides d b) in
    let above = λ (d : ℕ) (lt : g < d). false_from_ne_true (test d) (λ e. let k = (decides d).0 e in absurd (omega (arith, lt, le_of_dvd (pos_of_dvd_of_pos h.0 some) (h.2 d k.0 k.1)))) in
    sym (greatest_is test g a (pos_of_dvd_of_pos h.0 some) (le_of_dvd some h.0) ((decides g).1 (h.0, h.1)) above)

pub content_is : (g low : ℕ) (ts : List (ℕ × ℤ)) → (ts ≡ [] → ⊥) → AreTerms low ts → IsContent g ts → content_of ts ≡ g
unfolding content_of
content_is g low [] some terms c = absurd (some refl)
content_is g low (t ∷ ts) some terms c =
    let p : 0 < g = pos_of_dvd_of_pos c.0.0 terms.1 in
    greatest_is (λ d. divides_each d (t ∷ ts)) g (unsigned_abs t.1) p (le_of_dvd terms.1 c.0.0) ((decides_each g (t ∷ ts)).1 c.0)
    (λ d lt. false_from_ne_true (divides_each d (t ∷ ts)) (λ e. absurd (omega (arith, lt, le_of_dvd p (c.1 d ((decides_each d (t ∷ ts)).0 e))))))

-- ---- each list of terms has a greatest common divisor

gcd_exists : (fuel a b : ℕ) → b ≤ fuel → (g : ℕ) × IsGcd a b g
gcd_exists zero a b h = (a, IsGcd-from_zero a b (omega arith))
gcd_exists (suc fuel) a b h = elim (cases_eq b 0) [
  | inl e ↦ (a, IsGcd-from_zero a b e)
  | inr ne ↦
      let less : a % b < b = omega (arith, ne) in
      let r = gcd_exists fuel b (a % b) (omega (arith, less)) in
      (r.0, IsGcd-from_mod a b r.0 r.1)
]

pub content_exists : (ts : List (ℕ × ℤ)) → (g : ℕ) × IsContent g ts
content_exists [] = (0, content_none)
content_exists (t ∷ ts) =
    let c = content_exists ts in
    let r = gcd_exists c.0 (unsigned_abs t.1) c.0 (omega arith) in
    (r.0, ((r.1.0, all_divide r.0 c.0 ts r.1.1 c.1.0), (λ d h. r.1.2 d h.0 (c.1.1 d h.1))))
