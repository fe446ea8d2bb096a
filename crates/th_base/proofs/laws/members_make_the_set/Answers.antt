use Rattle.th_base.proofs.Ascending.{same_members}
use Rattle.th_base.proofs.laws.members_make_the_set.Goals as goal

pub returns : goal.returns
returns c = same_members
