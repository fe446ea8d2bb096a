use Rattle.std.proofs.Common.{◌≡◌}
use Rattle.th_bench.proofs.inclusions.grid.Given as goal

abbrev pub invariant-loop-id : goal.invariant-loop-id
invariant-loop-id l = l.solver.constraints.sets ≡ 300
