use Rattle.th_base.specs.IdSet.{has}
use Rattle.th_base.proofs.Ascending.{IsAscending-filter}
use Rattle.th_base.proofs.id_set.IdSet.intersection.Goals as goal

pub invariant_of-result : goal.invariant_of-result
invariant_of-result c = rw c.in_ok-items.ensures (rw (c.ids.ensures.value, c.ids-2.ensures.value) (IsAscending-filter (has c.args.other.now) c.args.self.now c.ids.ensures.ascending))
