use Rattle.th_lower.proofs.There as there
use Rattle.th_lower.proofs.laws.named_used.Goals as goal

-- src/laws.rt
pub returns : goal.returns
returns c = record { listed = there.named_listed; kind = there.named_kind }
