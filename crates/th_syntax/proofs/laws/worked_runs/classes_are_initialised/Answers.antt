use Rattle.th_syntax.proofs.WorkedRuns.{constants_are_launched, constants_are_started, constants_are_created}
use Rattle.th_syntax.proofs.laws.worked_runs.classes_are_initialised.Goals as goal

pub returns : goal.returns
returns c = record { launched = constants_are_launched; started = constants_are_started; created = constants_are_created }
