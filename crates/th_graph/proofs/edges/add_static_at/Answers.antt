use Rattle.std.proofs.Common.{List, sym, ap, ◌∙◌, ◌++◌}
use Rattle.std.proofs.lemmas.List.{append-nil}
use Rattle.th_ir.specs.declared.graph.Edge.{Edge}
use Rattle.th_graph.proofs.GraphEdges.{nothing_past}
use Rattle.th_graph.proofs.edges.add_static_at.Goals as goal

pub returns-in-None : goal.returns-in-None
returns-in-None c =
    let edges : List Edge = c.args.edges.now.items in
    sym (append-nil edges) ∙ ap (λ (l : List Edge). edges ++ l) (sym (nothing_past c.args.statics.now c.args.field c.in-None.ensures.lookup.3))
