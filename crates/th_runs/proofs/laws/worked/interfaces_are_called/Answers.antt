use Rattle.th_runs.proofs.WorkedWays.{interfaces_called}
use Rattle.th_runs.proofs.laws.worked.interfaces_are_called.Goals as goal

pub returns : goal.returns
returns c = interfaces_called
