use Rattle.th_runs.proofs.Ending.{not_ended, marks_alone}
use Rattle.th_runs.proofs.laws.runs_end_once.Goals as goal

pub returns : goal.returns
returns c = record { last = not_ended; alone = marks_alone }
