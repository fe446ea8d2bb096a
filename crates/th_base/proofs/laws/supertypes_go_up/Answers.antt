use Rattle.th_base.proofs.Enough.{supertypes_of_is}
use Rattle.th_base.proofs.laws.supertypes_go_up.Goals as goal

pub returns : goal.returns
returns c = supertypes_of_is
