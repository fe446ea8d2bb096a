use Rattle.th_base.proofs.Orders.{subclass_refl, subclass_trans}
use Rattle.th_base.proofs.laws.subclass_is_an_order.Goals as goal

pub returns : goal.returns
returns c = record { reflexive = subclass_refl; transitive = subclass_trans }
