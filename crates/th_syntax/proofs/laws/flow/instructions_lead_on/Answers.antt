use Rattle.std.proofs.Common.{refl}
use Rattle.th_syntax.proofs.laws.flow.instructions_lead_on.Goals as goal

pub returns : goal.returns
returns c = record { onward = refl; elsewhere = refl; visit = refl; code = refl }
