use Rattle.th_syntax.proofs.WorkedRuns.{vector_is_created}
use Rattle.th_syntax.proofs.laws.worked_runs.shared_array_stays_empty.Goals as goal

pub returns : goal.returns
returns c = vector_is_created
