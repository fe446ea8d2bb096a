use Rattle.std.proofs.Common.{take}
use Rattle.std.specs.List.{AllByRecursion}
use Rattle.th_ir.specs.declared.program.RegProgram.{RegProgram}
use Rattle.th_points_to.specs.Found.{Adds, IsLaid}
use Rattle.th_points_to.specs.Initialisers.{ReachesOwn}
use Rattle.th_points_to.proofs.initialisers.reach_each.Given as goal

abbrev pub invariant-loop-class : goal.invariant-loop-class
invariant-loop-class l = record {
  laid : IsLaid l.layout l.found;
  adds : (p : RegProgram) → Adds l.layout p l.fn.found l.found (λ t. AllByRecursion (ReachesOwn l.hierarchy t) (take l.class-index l.classes));
}
