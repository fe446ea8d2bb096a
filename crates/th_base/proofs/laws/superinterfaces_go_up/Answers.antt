use Rattle.th_base.proofs.Enough.{superinterfaces_of_is}
use Rattle.th_base.proofs.laws.superinterfaces_go_up.Goals as goal

pub returns : goal.returns
returns c = superinterfaces_of_is
