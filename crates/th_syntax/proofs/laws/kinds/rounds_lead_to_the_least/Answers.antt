use Rattle.th_syntax.proofs.LeastKinds.{rounds_least}
use Rattle.th_syntax.proofs.laws.kinds.rounds_lead_to_the_least.Goals as goal

pub returns : goal.returns
returns c = rounds_least
