use Rattle.th_base.proofs.Ascending.{IsAscending-where_true}
use Rattle.th_base.proofs.id_set.IdSet.keep.Goals as goal

pub invariant_of-self : goal.invariant_of-self
invariant_of-self g c =
    let f = c.retain.ensures.filtered in
    rw f.4 (IsAscending-where_true f.0 _ c.self.invariant)
