use Rattle.th_ir.proofs.WorkedInitialisingFacts.{least}
use Rattle.th_ir.proofs.laws.worked.superclass_initialiser_is_reached.Goals as goal

pub returns : goal.returns
returns c = least
