use Rattle.std.proofs.Common.{◌≡◌, ◌++◌, take}
use Rattle.th_graph.specs.Tables.{declared_statics}
use Rattle.th_graph.proofs.statics.add_declared.Given as goal

abbrev pub invariant-loop-field : goal.invariant-loop-field
invariant-loop-field l = l.found.items ≡ l.fn.found.items ++ declared_statics (take l.field-index l.fields)
