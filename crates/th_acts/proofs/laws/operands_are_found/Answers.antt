use Rattle.th_acts.proofs.Finding.{found}
use Rattle.th_acts.proofs.laws.operands_are_found.Goals as goal

pub returns : goal.returns
returns c = found
