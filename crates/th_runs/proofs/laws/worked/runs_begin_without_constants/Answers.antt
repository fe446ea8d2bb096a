use Rattle.th_runs.proofs.WorkedWays.{unset_at_first}
use Rattle.th_runs.proofs.laws.worked.runs_begin_without_constants.Goals as goal

pub returns : goal.returns
returns c = unset_at_first
