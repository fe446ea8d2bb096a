use Rattle.std.proofs.Common.{◌≡◌, take}
use Rattle.th_mod.proofs.adding.add_bases.Given as goal

abbrev pub invariant-loop-at : goal.invariant-loop-at
invariant-loop-at l = l.solver.constraints ≡ record l.fn.solver.constraints { base = take l.at l.base }
