use Rattle.std.proofs.Common.{◌≡◌, ◌∙◌, sym, false, not, ap}
use Rattle.th_base.specs.IdSet.{has}
use Rattle.th_query.proofs.Below.{fails_below}
use Rattle.th_query.proofs.sites.none_below_in.Goals as goal

pub returns-then-contains : goal.returns-then-contains
returns-then-contains c = sym (fails_below (λ a. not (has c.args.set.now a)) c.loop-site.site c.args.below c.loop-site-test.true (ap not (sym c.contains.ensures ∙ c.if-contains.true)))
