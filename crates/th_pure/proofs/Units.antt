-- A variable that is found has coefficient 1 or -1.
use Rattle.std.proofs.Common.{◌≡◌, ℕ, ◌+◌, ◌≤◌, ℤ, List, [], ◌∷◌, arith, refl, eqb, inl, inr, false, Option, Some, None, IfSome}
use Rattle.std.specs.Int.RustNames.{unsigned_abs}
use Rattle.std.proofs.lemmas.Bool.{cases_eq, eq-eqb, ne_eqb}
use Rattle.th_linear.specs.Forms.{AreTerms, coef}
use Rattle.th_pure.specs.Substitution.{unit_variable}

kept : (o : Option ℕ) (t : ℕ × ℤ) (low : ℕ) (ts : List (ℕ × ℤ)) → low ≤ t.0 → IfSome o (λ v. (t.0 + 1 ≤ v) × (unsigned_abs (coef v ts) ≡ 1))
    → IfSome o (λ v. (low ≤ v) × (unsigned_abs (coef v (t ∷ ts)) ≡ 1))
kept None t low ts le h = tt
kept (Some v) t low ts le h =
    let other : eqb v t.0 ≡ false = ne_eqb v t.0 (λ e. absurd (omega (arith, e, h.0))) in
    (omega (arith, h.0), rw other h.1)

found : (low : ℕ) (ts : List (ℕ × ℤ)) → AreTerms low ts → IfSome (unit_variable ts) (λ v. (low ≤ v) × (unsigned_abs (coef v ts) ≡ 1))
found low [] h = tt
found low (t ∷ ts) h = elim (cases_eq (unsigned_abs t.1) 1) [
  | inl e ↦ rw (eq-eqb (unsigned_abs t.1) 1 e) (h.0, rw (eq-eqb t.0 t.0 refl) e)
  | inr ne ↦ rw (ne_eqb (unsigned_abs t.1) 1 ne) (kept (unit_variable ts) t low ts h.0 (found (t.0 + 1) ts h.3))
]

each_second : (o : Option ℕ) (P Q : ℕ → Type 0) → IfSome o (λ v. P v × Q v) → IfSome o Q
each_second None P Q h = tt
each_second (Some v) P Q h = h.1

pub unit_found : (ts : List (ℕ × ℤ)) → AreTerms 0 ts → IfSome (unit_variable ts) (λ v. unsigned_abs (coef v ts) ≡ 1)
unit_found ts h = each_second (unit_variable ts) (λ v. 0 ≤ v) (λ v. unsigned_abs (coef v ts) ≡ 1) (found 0 ts h)
