use Rattle.std.proofs.Common.{◌∙◌, ◌≤◌, ◌++◌, sym, ap, subst, arith}
use Rattle.std.specs.List.{filter, AllByRecursion}
use Rattle.th_base.specs.IdSet.{has}
use Rattle.th_query.specs.FromSets.{upto}
use Rattle.th_query.proofs.Alone.{bounded_filter, common_above}
use Rattle.th_query.proofs.sites.Sites.common.Goals as goal

pub invariant_of-result : goal.invariant_of-result
invariant_of-result c =
    subst (λ xs. AllByRecursion (λ x. c.self.inside.below ≤ x) xs) (sym c.in_ok-more.ensures) (bounded_filter (has c.args.other.now) c.self.inside.below c.self.inside.more c.self.invariant)

pub invariant_of-result-else-self-other : goal.invariant_of-result-else-self-other
invariant_of-result-else-self-other c =
    subst (λ xs. AllByRecursion (λ x. c.other.inside.below ≤ x) xs) (sym c.in_ok-more-2.ensures) (bounded_filter (has c.args.self.now) c.other.inside.below c.other.inside.more c.other.invariant)

pub returns-in_ok-more : goal.returns-in_ok-more
returns-in_ok-more c =
    let both = common_above c.self.inside.below c.other.inside.below c.self.inside.more c.other.inside.more c.if-self-other.true c.self.invariant c.ids-members.ensures.ascending c.other.invariant c.ids-others.ensures.ascending in
    ap (λ xs. upto c.self.inside.below ++ xs) (c.in_ok-more.ensures ∙ ap (λ ys. filter (has ys) c.self.inside.more) (sym c.other.view_is))
    ∙ both.0 ∙ (λ i. filter (has (c.other.view_is i)) (c.self.view_is i))

pub returns-in_ok-more-2 : goal.returns-in_ok-more-2
returns-in_ok-more-2 c =
    let below = c.if-self-other.false in
    let both = common_above c.other.inside.below c.self.inside.below c.other.inside.more c.self.inside.more (omega (arith, below)) c.other.invariant c.ids-others.ensures.ascending c.self.invariant c.ids-members.ensures.ascending in
    ap (λ xs. upto c.other.inside.below ++ xs) (c.in_ok-more-2.ensures ∙ ap (λ ys. filter (has ys) c.other.inside.more) (sym c.self.view_is))
    ∙ both.1 ∙ (λ i. filter (has (c.other.view_is i)) (c.self.view_is i))
