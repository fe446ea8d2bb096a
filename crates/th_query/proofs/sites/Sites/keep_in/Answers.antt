use Rattle.std.proofs.Common.{◌≡◌, ◌∙◌, ◌++◌, sym, ap, subst, rules}
use Rattle.std.specs.List.{filter}
use Rattle.std.proofs.lemmas.Fn.{filter_same}
use Rattle.th_base.specs.IdSet.{has, IsAscending}
use Rattle.th_query.specs.FromSets.{upto}
use Rattle.th_query.proofs.Alone.{ascends, common_turned}
use Rattle.th_query.proofs.sites.Sites.keep_in.Goals as goal

pub returns-then-self-eq0-clause-ok : goal.returns-then-self-eq0-clause-ok
returns-then-self-eq0-clause-ok c =
    let filtered : c.keep.new.self ≡ filter (has c.args.set.now) c.self.inside.more = filter_same _ _ _ (λ x b f k. search rules) _ _ c.keep.ensures in
    (λ i. upto (c.if-self-eq0.true i) ++ filtered i) ∙ ap (filter (has c.args.set.now)) (ap (λ n. upto n ++ c.self.inside.more) (sym c.if-self-eq0.true) ∙ c.self.view_is)

pub returns-in_ok-kept-clause-ok : goal.returns-in_ok-kept-clause-ok
returns-in_ok-kept-clause-ok c =
    let members : IsAscending c.args.self.now = subst IsAscending c.self.view_is (ascends c.self.inside.below c.self.inside.more c.self.invariant c.ids-members.ensures.ascending) in
    c.drop.view_is ∙ c.of.ensures ∙ c.in_ok-kept.ensures ∙ common_turned c.args.self.now c.args.set.now members c.ids-others.ensures.ascending
