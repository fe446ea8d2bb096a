use Rattle.th_runs.proofs.WorkedRows.{superclass_first}
use Rattle.th_runs.proofs.laws.worked.superclass_is_initialised_first.Goals as goal

pub returns : goal.returns
returns c = superclass_first
