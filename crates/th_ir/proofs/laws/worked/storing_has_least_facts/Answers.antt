use Rattle.th_ir.proofs.WorkedStoringFacts.{least}
use Rattle.th_ir.proofs.laws.worked.storing_has_least_facts.Goals as goal

pub returns : goal.returns
returns c = least
