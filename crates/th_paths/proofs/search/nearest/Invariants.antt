use Rattle.std.proofs.Common.{take}
use Rattle.th_paths.specs.Search.{IsNearest}
use Rattle.th_paths.proofs.search.nearest.Given as goal

-- the nearest of the sites so far
abbrev pub invariant-loop-site : goal.invariant-loop-site
invariant-loop-site l = IsNearest l.links.edges l.search.places.items (take l.site-index l.site-items) l.nearest
