use Rattle.std.proofs.Common.{◌≡◌, ◌++◌, take}
use Rattle.th_graph.specs.Tables.{static_edges}
use Rattle.th_graph.proofs.edges.add_statics.Given as goal

abbrev pub invariant-loop-field : goal.invariant-loop-field
invariant-loop-field l = l.edges.items ≡ l.fn.edges.items ++ static_edges l.statics (take l.field-index l.fields)
