use Rattle.std.proofs.Common.{take}
use Rattle.th_narrow.specs.Rounds.{Enforces, FrameBounds, register_set}
use Rattle.th_narrow.proofs.narrowing.keep_frames.Given as goal

-- the frames so far
abbrev pub invariant-loop-frame : goal.invariant-loop-frame
invariant-loop-frame l = Enforces (FrameBounds (register_set l.sets) (take l.frame-index l.frames)) l.fn.syms l.syms
