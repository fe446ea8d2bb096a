use Rattle.th_base.specs.IdSet.{has}
use Rattle.th_base.proofs.Ascending.{has-filter, IsAscending-filter}
use Rattle.th_base.proofs.laws.members_of_intersection.Goals as goal

pub returns : goal.returns
returns c = record { members = λ xs ys x. has-filter (has ys) xs x; ascending = λ xs ys a. IsAscending-filter (has ys) xs a }
