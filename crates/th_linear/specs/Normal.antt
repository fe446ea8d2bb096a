-- Step 1 for one fact: division by the greatest common divisor.
use Rattle.std.specs.Prelude.{◌≡◌, ◌≢◌, ℕ, ℤ, pos, ◌+ℤ◌, ◌*ℤ◌, ◌≤ℤ◌, ◌<ℤ◌, List, [], ◌∷◌, map, ◌⊎◌}
use Rattle.std.specs.Int.{◌∣◌}
use Rattle.std.specs.Int.RustNames.{unsigned_abs}
use Rattle.th_linear.specs.Forms.{Form, IsForm, Stands, Holds}
use Rattle.th_linear.specs.declared.fact.Rel.{Rel}
use Rattle.th_linear.specs.declared.fact.Rel.TheVariants.{Eq, Le, Ne}
use Rattle.th_linear.specs.declared.division.NormalForm.{NormalForm}
use Rattle.th_linear.specs.declared.division.NormalForm.TheVariants.{True, False, Fact}

-- d divides each coefficient
abbrev pub DividesAll : ℕ → List (ℕ × ℤ) → Type 0
DividesAll d [] = Unit {0}
DividesAll d (t ∷ ts) = (d ∣ unsigned_abs t.1) × DividesAll d ts

-- g is the greatest common divisor of the coefficients
abbrev pub IsContent : ℕ → List (ℕ × ℤ) → Type 0
IsContent g ts = DividesAll g ts × ((d : ℕ) → DividesAll d ts → d ∣ g)

abbrev pub scaled : ℤ → List (ℕ × ℤ) → List (ℕ × ℤ)
scaled p ts = map (λ t. (t.0, p *ℤ t.1)) ts

-- k divided by g is r: exactly, or rounded up for `Le`
abbrev pub Divides : Rel → ℕ → ℤ → ℤ → Type 0
Divides Eq g k r = k ≡ pos g *ℤ r
Divides Ne g k r = k ≡ pos g *ℤ r
Divides Le g k r = (k ≤ℤ (pos g *ℤ r)) × ((pos g *ℤ r) <ℤ (k +ℤ pos g))

-- k has a quotient by g
abbrev pub HasQuotient : Rel → ℕ → ℤ → Type 0
HasQuotient Eq g k = g ∣ unsigned_abs k
HasQuotient Ne g k = g ∣ unsigned_abs k
HasQuotient Le g k = Unit {0}

-- the constant has no quotient
abbrev pub Fails : Rel → Form → Type 0
Fails rel f = (f.rel ≡ rel) × (f.coefs ≢ []) × ((g : ℕ) × (IsContent g f.coefs × ((g ∣ unsigned_abs f.constant) → ⊥)))

pub record IsDivided (f r : Form) (g : ℕ) : Type 0 where
  pub content : IsContent g f.coefs
  pub coefs : f.coefs ≡ scaled (pos g) r.coefs
  pub constant : Divides f.rel g f.constant r.constant
  pub rel : r.rel ≡ f.rel

-- what step 1 makes of a fact
abbrev pub IsNormal : Form → NormalForm → Type 0
IsNormal f True = ((f.coefs ≡ []) × Stands f.rel f.constant) ⊎ Fails Ne f
IsNormal f False = ((f.coefs ≡ []) × (Stands f.rel f.constant → ⊥)) ⊎ Fails Eq f
IsNormal f (Fact r) = (f.coefs ≢ []) × ((g : ℕ) × IsDivided f r g)

abbrev pub HoldsNormal : NormalForm → (ℕ → ℤ) → Type 0
HoldsNormal True s = Unit {0}
HoldsNormal False s = ⊥
HoldsNormal (Fact r) s = Holds r s

-- what is left of f is a fact with f's relation
abbrev pub LeavesForm : Form → NormalForm → Type 0
LeavesForm f True = Unit {0}
LeavesForm f False = Unit {0}
LeavesForm f (Fact r) = IsForm r.coefs r.constant × (r.rel ≡ f.rel)
