use Rattle.th_ir.proofs.Covering.{good_covered}
use Rattle.th_ir.proofs.Runs.{reachable_good}
use Rattle.th_ir.proofs.laws.covered.Goals as goal

pub returns : goal.returns
returns c = λ h p t s wf rules run. good_covered h p t s wf (reachable_good h p t wf rules s run)
