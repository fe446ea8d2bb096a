use Rattle.std.proofs.Common.{take}
use Rattle.th_ir.specs.WellFormed.{AreNumbered}
use Rattle.th_points_to.specs.Found.{Adds, CallsGo, Keeps}
use Rattle.th_points_to.specs.Opening.{AsksOnAll}
use Rattle.th_points_to.proofs.opening.ask_sites.Given as goal

abbrev pub invariant-loop-site : goal.invariant-loop-site
invariant-loop-site l = record {
  keeps : Keeps l.layout l.fn.found l.found;
  adds : AreNumbered l.hierarchy → CallsGo l.layout l.program l.fn.found
      → Adds l.layout l.program l.fn.found l.found (λ t. AsksOnAll l.hierarchy l.layout l.program t l.number l.node.stmt (take l.site-index l.sites));
}
