use Rattle.th_lower.proofs.WorkedForms.{settled, conflicts}
use Rattle.th_lower.proofs.laws.worked.kinds_are_settled.Goals as goal

pub returns : goal.returns
returns c = record { settled = settled; conflicts = conflicts }
