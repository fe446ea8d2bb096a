use Rattle.std.proofs.lemmas.List.Filters.{dedup_is}
use Rattle.th_incl.proofs.Members.{IsAscending-dedup, same-dedup}
use Rattle.std.proofs.Common.{ap, ◌∙◌}
use Rattle.th_base.specs.IdSet.{has}
use Rattle.th_incl.proofs.news.News.sort.Goals as goal

pub invariant_of-self-2 : goal.invariant_of-self-2
invariant_of-self-2 c = λ e. rw (dedup_is _ _ _ c.dedup.ensures.filtered) (IsAscending-dedup _ c.in_ok-sort.ensures.sorted)

pub returns-clause-members : goal.returns-clause-members
returns-clause-members c = λ x.
    ap (λ l. has l x) (dedup_is _ _ _ c.dedup.ensures.filtered)
    ∙ same-dedup _ _ c.in_ok-sort.ensures.permutation x
    ∙ ap (λ l. has l x) c.self.view_is

pub returns-clause-ascending : goal.returns-clause-ascending
returns-clause-ascending c = rw (dedup_is _ _ _ c.dedup.ensures.filtered) (IsAscending-dedup _ c.in_ok-sort.ensures.sorted)
