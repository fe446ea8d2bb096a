-- Facts as inequalities, and the ranges of the variables that stand in them.
use Rattle.std.specs.Prelude.{ℕ, ◌==◌, nat_lt, cond, ℤ, negsuc, neg_ℤ, List, [], ◌∷◌, ◌++◌}
use Rattle.th_linear.specs.Forms.{Form}
use Rattle.th_linear.specs.Normal.{scaled}
use Rattle.th_linear.specs.declared.fact.Rel.{Rel}
use Rattle.th_linear.specs.declared.fact.Rel.TheVariants.{Eq, Le, Ne}
use Rattle.th_pure.specs.declared.range.Range.{Range}
use Rattle.th_pure.specs.Substitution.{range_facts}

-- the sum is at most 0
abbrev pub at_most : Form → Form
at_most f = record { coefs = f.coefs; constant = f.constant; rel = Le }

-- the sum is at least 0
abbrev pub at_least : Form → Form
at_least f = record { coefs = scaled (negsuc 0) f.coefs; constant = neg_ℤ f.constant; rel = Le }

-- an equation is two inequalities, an inequation none
abbrev pub inequalities_of : Rel → Form → List Form
inequalities_of Eq f = at_most f ∷ at_least f ∷ []
inequalities_of Le f = f ∷ []
inequalities_of Ne f = []

-- the inequalities of all facts
abbrev pub inequalities : List Form → List Form
inequalities [] = []
inequalities (f ∷ fs) = inequalities_of f.rel f ++ inequalities fs

-- a variable put into ascending ones, once
abbrev pub with_variable : ℕ → List ℕ → List ℕ
with_variable v [] = v ∷ []
with_variable v (w ∷ ws) = cond (nat_lt v w) (v ∷ w ∷ ws) (cond (v == w) (w ∷ ws) (w ∷ with_variable v ws))

-- the variables of terms put into ascending ones
abbrev pub with_terms : List ℕ → List (ℕ × ℤ) → List ℕ
with_terms vs [] = vs
with_terms vs (t ∷ ts) = with_terms (with_variable t.0 vs) ts

-- the variables of facts put into ascending ones
abbrev pub with_facts : List ℕ → List Form → List ℕ
with_facts vs [] = vs
with_facts vs (f ∷ fs) = with_facts (with_terms vs f.coefs) fs

-- the variables that stand in the facts, in ascending order
abbrev pub variables : List Form → List ℕ
variables fs = with_facts [] fs

-- the ranges of the variables as inequalities
abbrev pub all_range_facts : List Range → List ℕ → List Form
all_range_facts ranges [] = []
all_range_facts ranges (v ∷ vs) = range_facts ranges v ++ all_range_facts ranges vs

-- the inequalities of the facts, and the ranges of the variables that stand in them
abbrev pub bounded : List Range → List Form → List Form
bounded ranges fs = inequalities fs ++ all_range_facts ranges (variables (inequalities fs))
