use Rattle.std.proofs.Common.{◌≡◌, length}
use Rattle.th_unit_tests.proofs.inclusions.chain.Given as goal

abbrev pub invariant-loop-letter-2 : goal.invariant-loop-letter-2
invariant-loop-letter-2 l = record { sets : l.solver.constraints.sets ≡ 2; filters : length l.solver.constraints.filters ≡ 1 }
