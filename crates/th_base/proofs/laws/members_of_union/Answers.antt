use Rattle.th_base.proofs.Ascending.{has-union_of, IsAscending-union_of}
use Rattle.th_base.proofs.laws.members_of_union.Goals as goal

pub returns : goal.returns
returns c = record { members = has-union_of; ascending = IsAscending-union_of }
