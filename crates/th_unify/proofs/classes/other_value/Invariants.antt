use Rattle.std.proofs.Common.{take}
use Rattle.th_linear.specs.Gathered.{name_of}
use Rattle.th_unify.specs.Classes.{AgreeCell}
use Rattle.th_unify.proofs.classes.other_value.Given as goal

abbrev pub invariant-loop-other : goal.invariant-loop-other
invariant-loop-other l = AgreeCell l.fn.cell (take l.other-index l.cells) (name_of l.names)
