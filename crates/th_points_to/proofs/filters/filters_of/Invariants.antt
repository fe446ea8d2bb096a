use Rattle.th_points_to.specs.Storing.{IsMade}
use Rattle.th_points_to.proofs.StoringLemmas.{AreNumbers}
use Rattle.th_points_to.proofs.filters.filters_of.Given as goal

abbrev pub invariant-loop-site : goal.invariant-loop-site
invariant-loop-site l = record { made : IsMade l.hierarchy l.program.sites l.filters; numbers : AreNumbers l.filters l.program.sites l.site-index l.numbers.items }
