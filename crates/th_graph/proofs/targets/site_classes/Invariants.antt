use Rattle.std.proofs.Common.{◌≡◌, map, take}
use Rattle.th_graph.specs.Searching.{class_of_site}
use Rattle.th_graph.proofs.targets.site_classes.Given as goal

abbrev pub invariant-loop-site : goal.invariant-loop-site
invariant-loop-site l = l.classes.items ≡ map (class_of_site l.hierarchy) (take l.site-index l.sites)
