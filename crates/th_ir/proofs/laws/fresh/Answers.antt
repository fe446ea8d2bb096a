use Rattle.th_ir.proofs.New.{fresh_made}
use Rattle.th_ir.proofs.Runs.{reachable_good}
use Rattle.th_ir.proofs.laws.fresh.Goals as goal

pub returns : goal.returns
returns c = λ h p t s u dst wf rules run is. fresh_made h p t s u dst wf rules (reachable_good h p t wf rules s run) is
