-- The refuter: division, substitution, bounds, elimination.
use Rattle.std.specs.Prelude.{Bool, true, false, List}
use Rattle.th_linear.specs.Forms.{Form}
use Rattle.th_pure.specs.declared.range.Range.{Range}
use Rattle.th_pure.specs.declared.facts.Outcome.{Outcome}
use Rattle.th_pure.specs.declared.facts.Outcome.TheVariants.{Refuted, Undecided, Remaining}
use Rattle.th_pure.specs.Outcomes.{and_then}
use Rattle.th_pure.specs.Division.{divided_all}
use Rattle.th_pure.specs.Substitution.{solved}
use Rattle.th_pure.specs.Bounds.{bounded, variables, inequalities}
use Rattle.th_pure.specs.Elimination.{eliminated_all}

-- the facts as inequalities, and their variables eliminated
abbrev pub decided : List Range → List Form → Outcome
decided ranges fs = eliminated_all (variables (inequalities fs)) (bounded ranges fs)

-- the facts divided, then solved for variables, then decided by elimination
abbrev pub refutation : List Form → List Range → Outcome
refutation facts ranges =
    and_then (divided_all facts) (λ fs.
    and_then (solved ranges fs) (λ gs. decided ranges gs))

-- the outcome is a refutation
abbrev pub is_refuted : Outcome → Bool
is_refuted Refuted = true
is_refuted Undecided = false
is_refuted (Remaining fs) = false

-- whether the refuter answers yes
unfoldable pub refuted : List Form → List Range → Bool
refuted facts ranges = is_refuted (refutation facts ranges)
