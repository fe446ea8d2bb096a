use Rattle.th_syntax.proofs.Worked.{created_at_stage, not_resumed}
use Rattle.th_syntax.proofs.laws.chart_is_followed.Goals as goal

pub returns : goal.returns
returns c = record { created = created_at_stage; not_resumed = not_resumed }
