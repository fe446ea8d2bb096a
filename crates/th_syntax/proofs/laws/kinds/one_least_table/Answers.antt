use Rattle.th_syntax.proofs.LeastKinds.{one_least}
use Rattle.th_syntax.proofs.laws.kinds.one_least_table.Goals as goal

pub returns : goal.returns
returns c = one_least
