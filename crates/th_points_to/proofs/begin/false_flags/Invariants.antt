use Rattle.std.proofs.Common.{◌≡◌, false, replicate}
use Rattle.th_points_to.proofs.begin.false_flags.Given as goal

abbrev pub invariant-loop : goal.invariant-loop
invariant-loop l = l.flags.items ≡ replicate l.counter false
