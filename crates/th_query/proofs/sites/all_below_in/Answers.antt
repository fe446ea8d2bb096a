use Rattle.std.proofs.Common.{◌≡◌, ◌∙◌, sym, false}
use Rattle.th_base.specs.IdSet.{has}
use Rattle.th_query.proofs.Below.{fails_below}
use Rattle.th_query.proofs.sites.all_below_in.Goals as goal

pub returns-then-not-contains : goal.returns-then-not-contains
returns-then-not-contains c = sym (fails_below (has c.args.set.now) c.loop-site.site c.args.below c.loop-site-test.true (sym c.contains.ensures ∙ c.if-not-contains.true))
