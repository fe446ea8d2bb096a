use Rattle.std.proofs.Common.{◌≡◌, map, take}
use Rattle.th_narrow.specs.Made.{made_of}
use Rattle.th_narrow.proofs.table.SiteTable.of.Given as goal

-- the sites so far
abbrev pub invariant-loop-site : goal.invariant-loop-site
invariant-loop-site l = l.made.items ≡ map (made_of l.plan.hierarchy) (take l.site-index l.site-items)
