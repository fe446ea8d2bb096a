use Rattle.std.proofs.Common.{◌≡◌, drop}
use Rattle.th_query.specs.declared.query.TheConstants.{MOST_REGISTERS}
use Rattle.th_query.specs.Settled.{cut_frames}
use Rattle.th_steps.proofs.limits.are_few.Given as goal

-- where nothing goes of the rest, nothing goes
abbrev pub invariant-loop-frame : goal.invariant-loop-frame
invariant-loop-frame l = cut_frames l.room (drop l.frame-index l.frames) ≡ drop l.frame-index l.frames → cut_frames MOST_REGISTERS l.frames ≡ l.frames
