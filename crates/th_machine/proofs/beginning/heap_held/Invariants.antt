use Rattle.std.proofs.Common.{◌≡◌, take}
use Rattle.std.specs.Prelude.{sum_by}
use Rattle.th_syntax.specs.Held.{object_size}
use Rattle.th_machine.proofs.beginning.heap_held.Given as goal

abbrev pub invariant-loop-object : goal.invariant-loop-object
invariant-loop-object l = l.held ≡ sum_by object_size (take l.object-index l.heap)
