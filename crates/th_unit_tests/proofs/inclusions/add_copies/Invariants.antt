use Rattle.std.proofs.Common.{◌≡◌, length}
use Rattle.th_incl.specs.Least.{IsInRange}
use Rattle.th_unit_tests.proofs.inclusions.add_copies.Given as goal

abbrev pub invariant-loop-triple : goal.invariant-loop-triple
invariant-loop-triple l = record {
  range : IsInRange l.c;
  sets : l.solver.constraints.sets ≡ l.c.sets;
  filters : length l.solver.constraints.filters ≡ length l.c.filters;
}
