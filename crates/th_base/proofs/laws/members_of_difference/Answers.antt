use Rattle.std.proofs.Common.{not}
use Rattle.th_base.specs.IdSet.{has}
use Rattle.th_base.proofs.Ascending.{has-filter, IsAscending-filter}
use Rattle.th_base.proofs.laws.members_of_difference.Goals as goal

pub returns : goal.returns
returns c = record { members = λ xs ys x. has-filter (λ z. not (has ys z)) xs x; ascending = λ xs ys a. IsAscending-filter (λ z. not (has ys z)) xs a }
