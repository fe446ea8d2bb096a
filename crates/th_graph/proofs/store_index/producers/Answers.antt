use Rattle.std.proofs.Common.{◌≡◌, List, Some, slice_get, ap, subst, ◌∙◌}
use Rattle.std.proofs.lemmas.Option.{get_or_from_slice_get}
use Rattle.th_ir.specs.declared.graph.Edge.{Edge}
use Rattle.th_ir.specs.FactSets.{sets_of}
use Rattle.th_ir.specs.Graph.{AreProducers}
use Rattle.th_graph.proofs.store_index.producers.Goals as goal

pub returns : goal.returns
returns c = λ e stands numbered.
    let plan = c.args.plan.now in
    let edges : List Edge = c.as_slice.result.now in
    let at : slice_get edges c.args.edge.0 ≡ Some e = ap (λ (l : List Edge). slice_get l c.args.edge.0) c.as_slice.ensures ∙ stands in
    subst (λ d. AreProducers plan.hierarchy plan.program (sets_of plan.facts) d c.in_ok-list.list) (get_or_from_slice_get edges c.args.edge.0 e _ at) (c.in_ok-list.ensures numbered)
