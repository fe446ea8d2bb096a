use Rattle.th_pure.proofs.Units.{unit_found}
use Rattle.th_pure.proofs.substitution.variable_of.Goals as goal

pub returns-in-Eq-clause-unit : goal.returns-in-Eq-clause-unit
returns-in-Eq-clause-unit c =
    rw (c.first_unit.ensures, c.as_slice.ensures.value, ← c.fact.view_is) (unit_found c.fact.inside.coefs.items c.fact.invariant.terms)
