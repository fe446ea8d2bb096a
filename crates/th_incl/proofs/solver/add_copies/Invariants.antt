use Rattle.std.proofs.Common.{◌≡◌, take}
use Rattle.th_incl.specs.View.{with_copies}
use Rattle.th_incl.proofs.solver.add_copies.Given as goal

abbrev pub invariant-loop-inclusion : goal.invariant-loop-inclusion
invariant-loop-inclusion l = record {
  items : l.inclusion-items ≡ l.constraints.copies;
  solver : l.solver ≡ with_copies l.fn.solver (take l.inclusion-index l.inclusion-items);
}
