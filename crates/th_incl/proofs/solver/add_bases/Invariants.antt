use Rattle.std.proofs.Common.{◌≡◌, take}
use Rattle.th_incl.specs.View.{with_bases}
use Rattle.th_incl.proofs.solver.add_bases.Given as goal

abbrev pub invariant-loop-set : goal.invariant-loop-set
invariant-loop-set l = record {
  items : l.set-items ≡ l.constraints.base;
  solver : l.solver ≡ with_bases l.fn.solver (take l.set-index l.set-items);
}
