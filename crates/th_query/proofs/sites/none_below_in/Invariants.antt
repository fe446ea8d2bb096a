use Rattle.std.proofs.Common.{◌≡◌, true, not}
use Rattle.std.specs.List.{list_all}
use Rattle.th_base.specs.IdSet.{has}
use Rattle.th_query.specs.FromSets.{upto}
use Rattle.th_query.proofs.sites.none_below_in.Given as goal

-- the sites so far pass
abbrev pub invariant-loop-site : goal.invariant-loop-site
invariant-loop-site l = list_all (λ a. not (has l.set a)) (upto l.site) ≡ true
