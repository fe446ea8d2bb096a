use Rattle.th_syntax.proofs.WorkedRuns.{texts_are_ascending}
use Rattle.th_syntax.proofs.laws.worked_runs.texts_ascend.Goals as goal

pub returns : goal.returns
returns c = texts_are_ascending
