use Rattle.std.proofs.Common.{take}
use Rattle.std.specs.List.{AllByRecursion}
use Rattle.th_ir.specs.declared.program.RegProgram.{RegProgram}
use Rattle.th_points_to.specs.declared.place.Place.TheVariants.{Register}
use Rattle.th_points_to.specs.Found.{Adds, IsLaid}
use Rattle.th_points_to.specs.Places.{Includes}
use Rattle.th_points_to.proofs.flows.take_all.Given as goal

abbrev pub invariant-loop-source : goal.invariant-loop-source
invariant-loop-source l = record {
  laid : IsLaid l.layout l.found;
  adds : (p : RegProgram) → Adds l.layout p l.fn.found l.found (λ t. AllByRecursion (λ r. Includes l.layout t (Register record { 0 = r }) (Register l.to)) (take l.source-index l.sources));
}
