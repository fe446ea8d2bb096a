use Rattle.std.proofs.Common.{◌≡◌}
use Rattle.th_query.specs.FromSets.{upto}
use Rattle.th_query.proofs.sites.Sites.into_set.Given as goal

abbrev pub invariant-loop-site : goal.invariant-loop-site
invariant-loop-site l = l.ids.items ≡ upto l.site
