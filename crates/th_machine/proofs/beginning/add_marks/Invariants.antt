use Rattle.std.proofs.Common.{◌≡◌, ◌++◌, replicate}
use Rattle.th_machine.proofs.beginning.add_marks.Given as goal

abbrev pub invariant-loop-place : goal.invariant-loop-place
invariant-loop-place l = l.into.items ≡ l.fn.into.items ++ replicate l._place l.mark
