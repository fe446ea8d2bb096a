use Rattle.std.proofs.Common.{take}
use Rattle.th_points_to.specs.Tables.{AreClasses}
use Rattle.th_points_to.proofs.targets.classes_of.Given as goal

abbrev pub invariant-loop-site : goal.invariant-loop-site
invariant-loop-site l = AreClasses l.hierarchy (take l.site-index l.sites) l.classes.items
