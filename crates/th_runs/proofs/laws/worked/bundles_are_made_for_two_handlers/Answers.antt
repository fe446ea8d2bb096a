use Rattle.th_runs.proofs.WorkedWays.{no_bundle}
use Rattle.th_runs.proofs.laws.worked.bundles_are_made_for_two_handlers.Goals as goal

pub returns : goal.returns
returns c = no_bundle
