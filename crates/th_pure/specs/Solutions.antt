-- Solutions of linear facts: each variable has an integer in its range such that each fact stands in its relation to 0.
use Rattle.std.specs.Prelude.{ℕ, ℤ, ◌≤ℤ◌, List, [], ◌∷◌}
use Rattle.th_linear.specs.Forms.{Form, Holds}
use Rattle.th_pure.specs.declared.range.Range.{Range}

-- s satisfies each fact
abbrev pub AllHold : List Form → (ℕ → ℤ) → Type 0
AllHold [] s = Unit {0}
AllHold (f ∷ fs) s = Holds f s × AllHold fs s

-- s gives each variable an integer in its range
abbrev pub AllInRange : List Range → (ℕ → ℤ) → Type 0
AllInRange [] s = Unit {0}
AllInRange (r ∷ rs) s = (r.low ≤ℤ s r.variable) × (s r.variable ≤ℤ r.high) × AllInRange rs s

-- s is a solution
abbrev pub Solves : List Form → List Range → (ℕ → ℤ) → Type 0
Solves facts ranges s = AllHold facts s × AllInRange ranges s

-- no integers in their ranges satisfy the facts
abbrev pub HaveNoSolution : List Form → List Range → Type 0
HaveNoSolution facts ranges = (s : ℕ → ℤ) → Solves facts ranges s → ⊥
