use Rattle.th_syntax.proofs.WorkedRuns.{initialising_is_created, initialising_is_joined}
use Rattle.th_syntax.proofs.laws.worked_runs.initialiser_makes_an_activity.Goals as goal

pub returns : goal.returns
returns c = record { created = initialising_is_created; joined = initialising_is_joined }
