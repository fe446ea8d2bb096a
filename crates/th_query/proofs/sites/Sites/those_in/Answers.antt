use Rattle.std.proofs.Common.{◌∙◌, sym, ap, subst}
use Rattle.std.specs.List.{filter}
use Rattle.std.proofs.lemmas.List.{take_all}
use Rattle.th_base.specs.IdSet.{has, IsAscending}
use Rattle.th_base.proofs.Ascending.{IsAscending-filter}
use Rattle.th_query.proofs.sites.Sites.those_in.Goals as goal

pub from_ascending-requires : goal.from_ascending-requires
from_ascending-requires c =
    let all = c.loop-site.invariant ∙ ap (filter (has c.args.self.now)) (take_all c.loop-site.site-index c.ids-site-items.result.now c.loop-site-test.false) in
    subst IsAscending (sym all) (IsAscending-filter (has c.args.self.now) c.ids-site-items.result.now (subst IsAscending (sym c.ids-site-items.ensures.value) c.ids-site-items.ensures.ascending))
