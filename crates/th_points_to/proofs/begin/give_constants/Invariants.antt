use Rattle.std.proofs.Common.{take}
use Rattle.std.specs.List.{AllByRecursion}
use Rattle.th_ir.specs.declared.program.RegProgram.{RegProgram}
use Rattle.th_points_to.specs.declared.place.Place.TheVariants.{Static}
use Rattle.th_points_to.specs.Found.{Adds, IsLaid}
use Rattle.th_points_to.specs.Places.{Gives}
use Rattle.th_points_to.proofs.begin.give_constants.Given as goal

abbrev pub invariant-loop-field : goal.invariant-loop-field
invariant-loop-field l = record {
  laid : IsLaid l.layout l.found;
  adds : (p : RegProgram) → Adds l.layout p l.fn.found l.found (λ t. AllByRecursion (λ i. Gives l.layout t (Static i.0) i.1.0) (take l.field-index l.constants));
}
