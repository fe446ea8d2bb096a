use Rattle.std.proofs.Common.{sym, subst}
use Rattle.th_ir.specs.Graph.{AreAlarms}
use Rattle.th_graph.proofs.Alarming.{no_limit}
use Rattle.th_graph.proofs.alarm_search.alarms.Goals as goal

pub returns : goal.returns
returns c = λ numbered.
    let h = c.args.hierarchy.now in
    let p = c.args.program.now in
    let edges = c.args.graph.now.edges in
    subst (AreAlarms h p edges) (sym c.from_vec.ensures) (no_limit h p edges c.in_ok-alarms.alarms.items (c.in_ok-alarms.ensures numbered))
