use Rattle.std.proofs.Common.{◌≡◌, take}
use Rattle.std.specs.List.{filter}
use Rattle.th_base.specs.IdSet.{has}
use Rattle.th_query.proofs.sites.Sites.those_in.Given as goal

-- those of the sites so far
abbrev pub invariant-loop-site : goal.invariant-loop-site
invariant-loop-site l = l.kept.items ≡ filter (has l.self) (take l.site-index l.site-items)
