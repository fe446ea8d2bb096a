use Rattle.std.proofs.Common.{take}
use Rattle.std.specs.List.{AllByRecursion}
use Rattle.th_ir.specs.declared.program.RegProgram.{RegProgram}
use Rattle.th_points_to.specs.declared.place.Place.TheVariants.{Register}
use Rattle.th_points_to.specs.Found.{Adds, IsLaid}
use Rattle.th_points_to.specs.Places.{Gives}
use Rattle.th_points_to.proofs.flows.give_all.Given as goal

abbrev pub invariant-loop-site : goal.invariant-loop-site
invariant-loop-site l = record {
  laid : IsLaid l.layout l.found;
  adds : (p : RegProgram) → Adds l.layout p l.fn.found l.found (λ t. AllByRecursion (λ s. Gives l.layout t (Register l.to) s) (take l.site-index l.sites));
}
