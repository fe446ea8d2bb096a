use Rattle.std.proofs.Common.{◌≡◌, take, length}
use Rattle.th_graph.specs.Tables.{static_edges, left_after}
use Rattle.th_graph.proofs.edges.after_statics.Given as goal

abbrev pub invariant-loop-field : goal.invariant-loop-field
invariant-loop-field l = l.left ≡ left_after l.fn.left (length (static_edges l.statics (take l.field-index l.fields)))
