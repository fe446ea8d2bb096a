use Rattle.th_syntax.proofs.WorkedRuns.{box_is_held, box_is_joined}
use Rattle.th_syntax.proofs.laws.worked_runs.parts_are_joined.Goals as goal

pub returns : goal.returns
returns c = record { created = box_is_held; joined = box_is_joined }
