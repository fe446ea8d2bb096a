use Rattle.th_ir.proofs.WorkedNamingFacts.{least}
use Rattle.th_ir.proofs.laws.worked.naming_has_least_facts.Goals as goal

pub returns : goal.returns
returns c = least
