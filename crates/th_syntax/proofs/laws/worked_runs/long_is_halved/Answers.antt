use Rattle.th_syntax.proofs.WorkedRuns.{halving_is_created}
use Rattle.th_syntax.proofs.laws.worked_runs.long_is_halved.Goals as goal

pub returns : goal.returns
returns c = halving_is_created
