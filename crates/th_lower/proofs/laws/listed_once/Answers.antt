use Rattle.th_lower.proofs.ListedOnce.{listed_once}
use Rattle.th_lower.proofs.laws.listed_once.Goals as goal

-- src/laws.rt
pub returns : goal.returns
returns c = listed_once
