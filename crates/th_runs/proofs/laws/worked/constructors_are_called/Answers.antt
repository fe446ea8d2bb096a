use Rattle.th_runs.proofs.WorkedWays.{constructor_called}
use Rattle.th_runs.proofs.laws.worked.constructors_are_called.Goals as goal

pub returns : goal.returns
returns c = constructor_called
