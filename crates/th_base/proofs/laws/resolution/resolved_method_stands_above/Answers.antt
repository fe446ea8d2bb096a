use Rattle.th_base.proofs.Resolved.{method_above}
use Rattle.th_base.proofs.laws.resolution.resolved_method_stands_above.Goals as goal

pub returns : goal.returns
returns c = method_above
