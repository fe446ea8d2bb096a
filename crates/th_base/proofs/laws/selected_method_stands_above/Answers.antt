use Rattle.th_base.proofs.Orders.{selected_stands_above}
use Rattle.th_base.proofs.laws.selected_method_stands_above.Goals as goal

pub returns : goal.returns
returns c = selected_stands_above
