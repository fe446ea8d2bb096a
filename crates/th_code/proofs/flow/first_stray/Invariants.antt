use Rattle.std.proofs.Common.{◌≡◌, drop}
use Rattle.th_code.specs.Starts.{is_marked, first_stray_of}
use Rattle.th_code.proofs.flow.first_stray.Given as goal

abbrev pub invariant-loop-i : goal.invariant-loop-i
invariant-loop-i l = first_stray_of (is_marked l.starts) (drop l.i l.instrs) ≡ first_stray_of (is_marked l.starts) l.instrs
