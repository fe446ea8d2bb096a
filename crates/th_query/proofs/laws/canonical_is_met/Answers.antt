use Rattle.th_ir.specs.FactSets.{sets_of}
use Rattle.th_query.proofs.Composed.{canonical_met, canonical_satisfied}
use Rattle.th_query.proofs.Possible.{satisfied_possible}
use Rattle.th_query.proofs.laws.canonical_is_met.Goals as goal

pub returns-clause-met : goal.returns-clause-met
returns-clause-met c plan s q r good f k m = canonical_met c.renaming_composes.ensures.composed c.steps_keep.ensures.division plan.hierarchy plan.program (sets_of plan.facts) s q r good f k m

pub returns-clause-possible : goal.returns-clause-possible
returns-clause-possible c plan s q r f k (v, m) =
    satisfied_possible c.refuted_have_no_solution.ensures s.heap r v
    (canonical_satisfied c.renaming_composes.ensures.composed c.steps_keep.ensures.division plan.hierarchy plan.program (sets_of plan.facts) s q r v f k m)
