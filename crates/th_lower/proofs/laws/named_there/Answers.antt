use Rattle.th_lower.proofs.There as there
use Rattle.th_lower.proofs.laws.named_there.Goals as goal

-- src/laws.rt
pub returns : goal.returns
returns c = there.named_there
