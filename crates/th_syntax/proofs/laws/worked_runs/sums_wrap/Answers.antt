use Rattle.th_syntax.proofs.WorkedRuns.{overflowing_is_created}
use Rattle.th_syntax.proofs.laws.worked_runs.sums_wrap.Goals as goal

pub returns : goal.returns
returns c = overflowing_is_created
