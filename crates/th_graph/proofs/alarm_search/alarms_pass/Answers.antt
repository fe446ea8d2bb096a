use Rattle.std.proofs.Common.{List, length, ap, ◌∙◌}
use Rattle.std.specs.Prelude.{nat_lt}
use Rattle.th_ir.specs.declared.graph.Alarm.{Alarm}
use Rattle.th_graph.proofs.Alarming.{passed}
use Rattle.th_graph.proofs.alarm_search.alarms_pass.Goals as goal

pub returns : goal.returns
returns c = λ alarms numbered are.
    let h = c.args.hierarchy.now in
    let p = c.args.program.now in
    let edges = c.args.graph.now.edges in
    let some = c.in_ok-alarms.alarms.items in
    ap (λ (l : List Alarm). nat_lt c.args.most (length l)) c.as_slice.ensures.value ∙ passed h p edges c.args.most some alarms (c.in_ok-alarms.ensures numbered) are (λ whole. c.graphs_are_one.ensures.alarms h p edges some alarms whole are)
