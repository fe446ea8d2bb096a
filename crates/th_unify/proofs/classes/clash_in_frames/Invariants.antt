use Rattle.std.proofs.Common.{take}
use Rattle.th_linear.specs.Gathered.{name_of}
use Rattle.th_unify.specs.Classes.{AgreeFrames}
use Rattle.th_unify.proofs.classes.clash_in_frames.Given as goal

abbrev pub invariant-loop-frame : goal.invariant-loop-frame
invariant-loop-frame l = AgreeFrames (take l.frame-index l.frames) (name_of l.names)
