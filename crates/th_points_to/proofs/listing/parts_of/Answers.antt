use Rattle.std.proofs.Common.{ℕ, List, length, ap, subst, arith, ◌∙◌}
use Rattle.std.proofs.lemmas.Result.{IfOk-weaker}
use Rattle.th_points_to.specs.Listing.{AreParts}
use Rattle.th_points_to.proofs.listing.parts_of.Goals as goal

pub take_parts-requires-clause-first : goal.take_parts-requires-clause-first
take_parts-requires-clause-first c = c.requires.laid.first

pub take_parts-requires-clause-within : goal.take_parts-requires-clause-within
take_parts-requires-clause-within c =
    omega (arith, c.requires.laid.count, c.requires.least.count, ap length c.as_mut_slice.ensures.value, ap length c.into_sets-sets.ensures)

pub take_parts-requires-clause-few : goal.take_parts-requires-clause-few
take_parts-requires-clause-few c = c.requires.few

pub returns : goal.returns
returns c =
    let l = c.args.layout in
    let keys = c.args.found.cells.keys in
    IfOk-weaker c.take_parts.result (λ parts. AreParts l keys c.as_mut_slice.result.now parts) (λ parts. AreParts l keys c.args.found.solver.sets parts)
    (λ parts are. subst (λ (ss : List (List ℕ)). AreParts l keys ss parts) (c.as_mut_slice.ensures.value ∙ c.into_sets-sets.ensures) are) c.take_parts.ensures
