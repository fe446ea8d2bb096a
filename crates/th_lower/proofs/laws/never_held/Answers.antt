use Rattle.th_lower.proofs.Holding as holding
use Rattle.th_lower.proofs.laws.never_held.Goals as goal

-- src/laws.rt
pub returns : goal.returns
returns c = holding.never_held
