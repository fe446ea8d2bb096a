use Rattle.std.proofs.Common.{take}
use Rattle.std.specs.List.{AllByRecursion}
use Rattle.th_ir.specs.WellFormed.{AreNumbered}
use Rattle.th_points_to.specs.Found.{Adds, CallsGo, Keeps}
use Rattle.th_points_to.specs.Initialisers.{InitsGo}
use Rattle.th_points_to.specs.Opening.{OpensAt}
use Rattle.th_points_to.proofs.opening.open_nodes.Given as goal

abbrev pub invariant-loop-number : goal.invariant-loop-number
invariant-loop-number l = record {
  keeps : Keeps l.layout l.fn.found l.found;
  inits : AreNumbered l.hierarchy → CallsGo l.layout l.program l.fn.found → InitsGo l.hierarchy l.layout l.fn.found l.fn.met.keys
      → InitsGo l.hierarchy l.layout l.found l.met.keys;
  adds : AreNumbered l.hierarchy → CallsGo l.layout l.program l.fn.found → InitsGo l.hierarchy l.layout l.fn.found l.fn.met.keys
      → Adds l.layout l.program l.fn.found l.found (λ t. AllByRecursion (OpensAt l.hierarchy l.layout l.program l.handled t) (take l.number-index l.numbers));
}
