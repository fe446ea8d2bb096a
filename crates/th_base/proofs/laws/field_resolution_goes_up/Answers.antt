use Rattle.th_base.proofs.Orders.{field_resolution}
use Rattle.th_base.proofs.laws.field_resolution_goes_up.Goals as goal

pub returns : goal.returns
returns c = field_resolution
