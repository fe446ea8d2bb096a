use Rattle.th_ir.proofs.WorkedReceiversFacts.{least}
use Rattle.th_ir.proofs.laws.worked.receivers_are_told_apart.Goals as goal

pub returns : goal.returns
returns c = least
