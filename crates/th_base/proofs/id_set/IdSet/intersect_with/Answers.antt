use Rattle.th_base.proofs.Ascending.{IsAscending-filter}
use Rattle.th_base.proofs.id_set.IdSet.intersect_with.Goals as goal

pub invariant_of-self : goal.invariant_of-self
invariant_of-self c = rw c.sift_vec.ensures.kept (IsAscending-filter _ _ c.self.invariant)
