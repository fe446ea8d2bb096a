use Rattle.th_syntax.proofs.WorkedKinds.{not_fitting}
use Rattle.th_syntax.proofs.laws.kinds.instructions_do_not_fit.Goals as goal

pub returns : goal.returns
returns c = not_fitting
