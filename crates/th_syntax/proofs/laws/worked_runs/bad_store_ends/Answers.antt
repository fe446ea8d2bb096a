use Rattle.th_syntax.proofs.WorkedRuns.{tested_is_created, untested_ends}
use Rattle.th_syntax.proofs.laws.worked_runs.bad_store_ends.Goals as goal

pub returns : goal.returns
returns c = record { tested = tested_is_created; untested = untested_ends }
