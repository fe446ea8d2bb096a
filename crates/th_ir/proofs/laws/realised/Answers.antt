use Rattle.th_ir.proofs.Realised.{realised_had}
use Rattle.th_ir.proofs.Runs.{reachable_good}
use Rattle.th_ir.proofs.laws.realised.Goals as goal

pub returns : goal.returns
returns c = λ h p t s e wf rules run is. realised_had h p t s e wf (reachable_good h p t wf rules s run) is
