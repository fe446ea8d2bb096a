use Rattle.std.proofs.Common.{◌≡◌, true}
use Rattle.std.specs.List.{list_all}
use Rattle.th_base.specs.IdSet.{has}
use Rattle.th_query.specs.FromSets.{upto}
use Rattle.th_query.proofs.sites.all_below_in.Given as goal

-- the sites so far pass
abbrev pub invariant-loop-site : goal.invariant-loop-site
invariant-loop-site l = list_all (has l.set) (upto l.site) ≡ true
