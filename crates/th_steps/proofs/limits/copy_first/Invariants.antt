use Rattle.std.proofs.Common.{◌≡◌, ◌++◌, drop}
use Rattle.th_query.specs.declared.query.TheConstants.{MOST_REGISTERS}
use Rattle.th_query.specs.Settled.{cut_frames}
use Rattle.th_steps.proofs.limits.copy_first.Given as goal

-- what is left comes after
abbrev pub invariant-loop-frame : goal.invariant-loop-frame
invariant-loop-frame l = l.kept.items ++ cut_frames l.room (drop l.frame-index l.frames) ≡ cut_frames MOST_REGISTERS l.frames
