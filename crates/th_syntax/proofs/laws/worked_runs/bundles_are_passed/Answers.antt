use Rattle.th_syntax.proofs.WorkedRuns.{bundle_is_fresh, bundle_is_null}
use Rattle.th_syntax.proofs.laws.worked_runs.bundles_are_passed.Goals as goal

pub returns : goal.returns
returns c = record { fresh = bundle_is_fresh; null = bundle_is_null }
