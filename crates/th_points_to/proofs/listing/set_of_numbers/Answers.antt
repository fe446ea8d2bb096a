use Rattle.std.proofs.Common.{◌++◌, ap, ◌∙◌, subst, sym}
use Rattle.std.proofs.lemmas.List.Filters.{dedup_is}
use Rattle.th_base.specs.IdSet.{has, IsAscending}
use Rattle.th_incl.proofs.Members.{IsAscending-dedup, same-dedup}
use Rattle.th_points_to.proofs.listing.set_of_numbers.Goals as goal

pub from_ascending-requires : goal.from_ascending-requires
from_ascending-requires c = rw (dedup_is _ _ _ c.dedup.ensures.filtered) (IsAscending-dedup _ c.in_ok-sort.ensures.sorted)

pub returns-clause-same : goal.returns-clause-same
returns-clause-same c = λ x.
    ap (λ l. has l x) (c.from_ascending.ensures ∙ dedup_is _ _ _ c.dedup.ensures.filtered)
    ∙ same-dedup _ _ c.in_ok-sort.ensures.permutation x
    ∙ ap (λ l. has l x) (c.in_ok-extend_from_slice.ensures.items ∙ ap (λ l. l ++ c.as_slice.result.now) c.new-ids.ensures.items ∙ c.as_slice.ensures.keys)

pub returns-clause-ascends : goal.returns-clause-ascends
returns-clause-ascends c =
    subst IsAscending (sym (c.from_ascending.ensures ∙ dedup_is _ _ _ c.dedup.ensures.filtered)) (IsAscending-dedup _ c.in_ok-sort.ensures.sorted)
