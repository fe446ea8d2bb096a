use Rattle.th_lower.proofs.Names as names
use Rattle.th_lower.proofs.laws.named_once.Goals as goal

-- src/laws.rt
pub returns : goal.returns
returns c = names.named_once
