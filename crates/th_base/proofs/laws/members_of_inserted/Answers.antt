use Rattle.th_base.proofs.Ascending.{has-inserted, IsAscending-inserted}
use Rattle.th_base.proofs.laws.members_of_inserted.Goals as goal

pub returns : goal.returns
returns c = record { members = has-inserted; ascending = IsAscending-inserted }
