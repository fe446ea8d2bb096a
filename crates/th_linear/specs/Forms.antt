-- Linear facts and what satisfies them.
use Rattle.std.specs.Prelude.{◌≡◌, ◌≢◌, ℕ, ◌+◌, ◌<◌, ◌≤◌, ℤ, pos, ◌+ℤ◌, ◌*ℤ◌, ◌≤ℤ◌, List, [], ◌∷◌, cond, eqb}
use Rattle.std.specs.Int.RustNames.{unsigned_abs}
use Rattle.th_linear.specs.declared.fact.TheConstants.{MAGNITUDE_LIMIT}
use Rattle.th_linear.specs.declared.fact.Rel.{Rel}
use Rattle.th_linear.specs.declared.fact.Rel.TheVariants.{Eq, Le, Ne}

-- a sum of terms, each a variable and its coefficient, plus a constant, in relation to 0
pub record Form : Type 0 where
  pub coefs : List (ℕ × ℤ)
  pub constant : ℤ
  pub rel : Rel

-- the sum of the terms where s gives each variable its integer
abbrev pub value : List (ℕ × ℤ) → (ℕ → ℤ) → ℤ
value [] s = pos 0
value (t ∷ ts) s = (t.1 *ℤ s t.0) +ℤ value ts s

abbrev pub Stands : Rel → ℤ → Type 0
Stands Eq z = z ≡ pos 0
Stands Le z = z ≤ℤ pos 0
Stands Ne z = z ≢ pos 0

-- s satisfies the fact
abbrev pub Holds : Form → (ℕ → ℤ) → Type 0
Holds f s = Stands f.rel (value f.coefs s +ℤ f.constant)

-- below 2^62 in magnitude
abbrev pub Small : ℤ → Type 0
Small z = unsigned_abs z < MAGNITUDE_LIMIT

-- variables ascend from `low` on, no coefficient is 0, and all are small
abbrev pub AreTerms : ℕ → List (ℕ × ℤ) → Type 0
AreTerms low [] = Unit {0}
AreTerms low (t ∷ ts) = (low ≤ t.0) × (0 < unsigned_abs t.1) × Small t.1 × AreTerms (t.0 + 1) ts

pub record IsForm (coefs : List (ℕ × ℤ)) (constant : ℤ) : Type 0 where
  pub terms : AreTerms 0 coefs
  pub small : Small constant

-- the coefficient of a variable
abbrev pub coef : ℕ → List (ℕ × ℤ) → ℤ
coef v [] = pos 0
coef v (t ∷ ts) = cond (eqb v t.0) t.1 (coef v ts)
