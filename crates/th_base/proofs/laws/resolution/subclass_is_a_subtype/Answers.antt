use Rattle.th_base.proofs.Resolved.{subclass_above}
use Rattle.th_base.proofs.laws.resolution.subclass_is_a_subtype.Goals as goal

pub returns : goal.returns
returns c = subclass_above
