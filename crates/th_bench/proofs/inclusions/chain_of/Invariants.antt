use Rattle.std.proofs.Common.{◌≡◌, length}
use Rattle.th_bench.proofs.inclusions.chain_of.Given as goal

abbrev pub invariant-loop-to : goal.invariant-loop-to
invariant-loop-to l = record { sets_are : l.solver.constraints.sets ≡ l.sets; filters_are : length l.solver.constraints.filters ≡ 1 }
