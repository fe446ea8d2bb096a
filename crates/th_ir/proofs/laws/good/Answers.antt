use Rattle.th_ir.proofs.Runs.{reachable_good}
use Rattle.th_ir.proofs.laws.good.Goals as goal

pub returns : goal.returns
returns c = λ h p t s wf rules run. reachable_good h p t wf rules s run
