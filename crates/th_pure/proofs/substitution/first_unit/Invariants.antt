use Rattle.std.proofs.Common.{◌≡◌, drop}
use Rattle.th_pure.specs.Substitution.{unit_variable}
use Rattle.th_pure.proofs.substitution.first_unit.Given as goal

-- the terms so far have other coefficients
abbrev pub invariant-loop-term : goal.invariant-loop-term
invariant-loop-term l = unit_variable l.terms ≡ unit_variable (drop l.term-index l.terms)
