use Rattle.th_syntax.proofs.WorkedRuns.{resuming_is_resumed}
use Rattle.th_syntax.proofs.laws.worked_runs.handlers_share_fields.Goals as goal

pub returns : goal.returns
returns c = resuming_is_resumed
