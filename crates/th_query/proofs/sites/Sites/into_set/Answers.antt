use Rattle.std.proofs.Common.{◌≡◌, ◌∙◌, ◌++◌, sym, ap, subst, arith}
use Rattle.th_base.specs.IdSet.{IsAscending}
use Rattle.th_query.specs.FromSets.{upto}
use Rattle.th_query.proofs.Alone.{ascends}
use Rattle.th_query.proofs.sites.Sites.into_set.Goals as goal

pub from_ascending-requires : goal.from_ascending-requires
from_ascending-requires c =
    let last = c.loop-site.auto.site-end in
    let past = c.loop-site-test.false in
    let at : c.loop-site.site ≡ c.self.inside.below = omega (arith, last, past) in
    let is : c.extend_from_slice.new.self.items ≡ upto c.self.inside.below ++ c.self.inside.more = c.in_ok-extend_from_slice.ensures.items ∙ (λ i. (c.loop-site.invariant ∙ ap upto at) i ++ c.ids.ensures.value i) in
    subst IsAscending (sym is) (ascends c.self.inside.below c.self.inside.more c.self.invariant c.ids.ensures.ascending)
