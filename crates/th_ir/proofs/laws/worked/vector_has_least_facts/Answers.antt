use Rattle.th_ir.proofs.WorkedVectorFacts.{least}
use Rattle.th_ir.proofs.laws.worked.vector_has_least_facts.Goals as goal

pub returns : goal.returns
returns c = least
