use Rattle.std.proofs.Common.{◌≡◌, ◌∙◌, sym, ap, subst, eqb, [], ◌∷◌}
use Rattle.std.specs.List.{filter}
use Rattle.th_base.specs.IdSet.{has, inserted, IsAscending}
use Rattle.th_query.proofs.Alone.{ascends, none_alone, one_alone}
use Rattle.th_query.proofs.sites.Sites.only.Goals as goal

pub returns-then-not-contains : goal.returns-then-not-contains
returns-then-not-contains c = c.of.ensures ∙ c.new.ensures ∙ sym (none_alone c.args.self.now c.args.site (sym c.contains.ensures ∙ c.if-not-contains.true))

pub returns : goal.returns
returns c =
    let view : IsAscending c.args.self.now = subst IsAscending c.self.view_is (ascends c.self.inside.below c.self.inside.more c.self.invariant c.ids-members.ensures.ascending) in
    c.of-2.ensures ∙ c.in_ok-insert.ensures.ok ∙ ap (inserted c.args.site) c.new-one.ensures ∙ sym (one_alone c.args.self.now c.args.site view (sym c.contains.ensures ∙ c.if-not-contains.false))
