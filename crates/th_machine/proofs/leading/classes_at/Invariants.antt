use Rattle.std.proofs.Common.{take, []}
use Rattle.std.specs.Prelude.{filter_map}
use Rattle.th_machine.specs.Leading.{Joins, class_in}
use Rattle.th_machine.proofs.leading.classes_at.Given as goal

-- the classes at the addresses so far are added
abbrev pub invariant-loop-at : goal.invariant-loop-at
invariant-loop-at l = Joins [] l.classes.keys (filter_map (class_in l.heap) (take l.at l.found.keys))
