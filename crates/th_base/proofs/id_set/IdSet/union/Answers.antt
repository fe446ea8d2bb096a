use Rattle.th_base.proofs.Ascending.{IsAscending-union_of}
use Rattle.th_base.proofs.id_set.IdSet.union.Goals as goal

pub invariant_of-result : goal.invariant_of-result
invariant_of-result c = rw c.in_ok-items.ensures (rw (c.ids.ensures.value, c.ids-2.ensures.value) (IsAscending-union_of c.args.self.now c.args.other.now c.ids.ensures.ascending))
