use Rattle.std.proofs.Common.{take}
use Rattle.std.specs.List.{AllByRecursion}
use Rattle.th_ir.specs.WellFormed.{AreNumbered}
use Rattle.th_points_to.specs.Found.{Adds, CallsGo, Keeps}
use Rattle.th_points_to.specs.Opening.{MeetsAt}
use Rattle.th_points_to.proofs.opening.meet.Given as goal

abbrev pub invariant-loop-number : goal.invariant-loop-number
invariant-loop-number l = record {
  keeps : Keeps l.layout l.fn.found l.found;
  adds : AreNumbered l.hierarchy → CallsGo l.layout l.program l.fn.found
      → Adds l.layout l.program l.fn.found l.found (λ t. AllByRecursion (MeetsAt l.hierarchy l.layout l.program l.entered l.sites t) (take l.number-index l.numbers));
}
