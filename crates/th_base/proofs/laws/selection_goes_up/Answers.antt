use Rattle.th_base.proofs.Orders.{selection}
use Rattle.th_base.proofs.laws.selection_goes_up.Goals as goal

pub returns : goal.returns
returns c = selection
