use Rattle.th_ir.proofs.WorkedProducers.{naming_produced}
use Rattle.th_ir.proofs.laws.worked.constant_is_the_first_producer.Goals as goal

pub returns : goal.returns
returns c = naming_produced
