use Rattle.th_ir.specs.FactSets.{sets_of}
use Rattle.th_ir.specs.Machine.{initial_state}
use Rattle.th_query.proofs.Composed.{canonical_satisfied}
use Rattle.th_query.proofs.Starting.{initial_admitted}
use Rattle.th_query.proofs.laws.initial_is_admitted.Goals as goal

pub returns : goal.returns
returns c plan q w f k (v, m) =
    let start = initial_state plan.hierarchy plan.program in
    initial_admitted c.refuted_have_no_solution.ensures plan.hierarchy w.numbers.files plan.program q v w.numbers.built_in m
    (canonical_satisfied c.renaming_composes.ensures.composed c.steps_keep.ensures.division plan.hierarchy plan.program (sets_of plan.facts) start q q v f k m)
