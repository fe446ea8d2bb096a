use Rattle.th_syntax.proofs.WorkedRuns.{reachable}
use Rattle.th_syntax.proofs.laws.worked_runs.worked_states_are_reachable.Goals as goal

pub returns : goal.returns
returns c = reachable
