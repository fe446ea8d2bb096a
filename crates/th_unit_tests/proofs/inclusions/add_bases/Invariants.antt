use Rattle.std.proofs.Common.{◌≡◌, length}
use Rattle.th_incl.specs.Least.{IsInRange}
use Rattle.th_unit_tests.proofs.inclusions.add_bases.Given as goal

abbrev pub invariant-loop-pair : goal.invariant-loop-pair
invariant-loop-pair l = record {
  range : IsInRange l.c;
  sets : l.solver.constraints.sets ≡ l.c.sets;
  filters : length l.solver.constraints.filters ≡ length l.c.filters;
}
