use Rattle.th_base.proofs.Resolved.{field_above}
use Rattle.th_base.proofs.laws.resolution.resolved_field_stands_above.Goals as goal

pub returns : goal.returns
returns c = field_above
