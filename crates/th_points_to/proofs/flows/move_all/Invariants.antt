use Rattle.std.proofs.Common.{take}
use Rattle.std.specs.List.{AllByRecursion}
use Rattle.th_ir.specs.declared.program.RegProgram.{RegProgram}
use Rattle.th_points_to.specs.declared.place.Place.TheVariants.{Register}
use Rattle.th_points_to.specs.Found.{Adds, IsLaid}
use Rattle.th_points_to.specs.Places.{Includes}
use Rattle.th_points_to.proofs.flows.move_all.Given as goal

abbrev pub invariant-loop-to : goal.invariant-loop-to
invariant-loop-to l = record {
  laid : IsLaid l.layout l.found;
  adds : (p : RegProgram) → Adds l.layout p l.fn.found l.found (λ t. AllByRecursion (λ m. Includes l.layout t (Register m.1) (Register m.0)) (take l.to-index l.pairs));
}
