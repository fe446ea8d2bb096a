use Rattle.std.proofs.Common.{◌≡◌, take}
use Rattle.th_graph.specs.Tables.{file_statics_from}
use Rattle.th_graph.proofs.statics.file_statics.Given as goal

abbrev pub invariant-loop-number : goal.invariant-loop-number
invariant-loop-number l = l.found.items ≡ file_statics_from 0 (take l.number l.classes)
