-- What facts say of places, each of them a register, a static field, the elements of the arrays of a site
-- or a field of its objects.
use Rattle.std.specs.Prelude.{ℕ, ◌≡◌, ◌<◌, ⊤, Bool, true}
use Rattle.th_ir.specs.FactSets.{FactSets, IsWithin}
use Rattle.th_points_to.specs.declared.place.Layout.{Layout}
use Rattle.th_points_to.specs.declared.place.Place.{Place}
use Rattle.th_points_to.specs.declared.place.Place.TheVariants.{Register, Static, Elements, Cell}

-- which sites the place may hold
abbrev pub at : FactSets → Place → ℕ → Bool
at t (Register r) = t.reg r.0
at t (Static f) = t.static f.0
at t (Elements s) = t.elem s.0
at t (Cell s f) = t.cell s.0 f.0

-- there is such a place
abbrev pub IsThere : Layout → Place → Type 0
IsThere l (Register r) = r.0 < l.registers
IsThere l (Static f) = f.0 < l.fields
IsThere l (Elements s) = s.0 < l.sites
IsThere l (Cell s f) = ⊤

-- what is in the first place and passes a test is in the second
abbrev pub IncludesThrough : Layout → FactSets → (ℕ → Bool) → Place → Place → Type 0
IncludesThrough l t passes p q = IsThere l p → IsThere l q → (x : ℕ) → at t p x ≡ true → passes x ≡ true → at t q x ≡ true

-- what is in the first place is in the second
abbrev pub Includes : Layout → FactSets → Place → Place → Type 0
Includes l t p q = IsThere l p → IsThere l q → IsWithin (at t p) (at t q)

-- the site is in the place
abbrev pub Gives : Layout → FactSets → Place → ℕ → Type 0
Gives l t p s = s < l.sites → IsThere l p → at t p s ≡ true

-- places hold nothing but sites that there are
abbrev pub AreInRange : Layout → FactSets → Type 0
AreInRange l t = (p : Place) (x : ℕ) → at t p x ≡ true → x < l.sites
