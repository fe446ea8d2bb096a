use Rattle.th_syntax.proofs.WorkedRuns.{superclass_skips, handler_ends, call_ends, superclass_call_ends}
use Rattle.th_syntax.proofs.laws.worked_runs.superclass_selects.Goals as goal

pub returns : goal.returns
returns c = record { skips = superclass_skips; handler_ends = handler_ends; call_ends = call_ends; superclass_call_ends = superclass_call_ends }
