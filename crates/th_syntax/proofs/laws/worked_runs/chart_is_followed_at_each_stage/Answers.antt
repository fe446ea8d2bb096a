use Rattle.th_syntax.proofs.WorkedRuns.{chart_is}
use Rattle.th_syntax.proofs.laws.worked_runs.chart_is_followed_at_each_stage.Goals as goal

pub returns : goal.returns
returns c = chart_is
