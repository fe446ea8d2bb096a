use Rattle.th_ir.proofs.WorkedRefusals.{nothing_picked}
use Rattle.th_ir.proofs.laws.worked.no_other_class_is_picked.Goals as goal

pub returns : goal.returns
returns c = nothing_picked
