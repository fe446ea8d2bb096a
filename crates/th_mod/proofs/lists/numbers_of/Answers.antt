use Rattle.std.proofs.Common.{ap, ◌∙◌}
use Rattle.std.proofs.lemmas.List.Filters.{dedup_is}
use Rattle.th_base.specs.IdSet.{has}
use Rattle.th_incl.proofs.Members.{IsAscending-dedup, same-dedup}
use Rattle.th_mod.proofs.lists.numbers_of.Goals as goal

pub from_ascending-requires : goal.from_ascending-requires
from_ascending-requires c = rw (dedup_is _ _ _ c.dedup.ensures.filtered) (IsAscending-dedup _ c.in_ok-sort.ensures.sorted)

pub returns : goal.returns
returns c = λ x.
    ap (λ l. has l x) (c.from_ascending.ensures ∙ dedup_is _ _ _ c.dedup.ensures.filtered)
    ∙ same-dedup _ _ c.in_ok-sort.ensures.permutation x
    ∙ ap (λ l. has l x) c.in_ok-ids.ensures
