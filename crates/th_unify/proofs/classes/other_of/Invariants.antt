use Rattle.std.proofs.Common.{take}
use Rattle.th_linear.specs.Gathered.{name_of}
use Rattle.th_unify.specs.Classes.{AgreeWith}
use Rattle.th_unify.proofs.classes.other_of.Given as goal

abbrev pub invariant-loop-pair : goal.invariant-loop-pair
invariant-loop-pair g l = AgreeWith l.key l.number (take l.pair-index l.pairs) (name_of l.names)
