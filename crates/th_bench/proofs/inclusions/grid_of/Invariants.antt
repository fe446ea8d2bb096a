use Rattle.std.proofs.Common.{◌≡◌, length}
use Rattle.th_bench.proofs.inclusions.grid_of.Given as goal

abbrev pub invariant-loop-from : goal.invariant-loop-from
invariant-loop-from l = record { sets_are : l.solver.constraints.sets ≡ l.sets; filters_are : length l.solver.constraints.filters ≡ 1 }
