use Rattle.th_syntax.proofs.Changing.{changed}
use Rattle.th_syntax.proofs.laws.steps_change.Goals as goal

pub returns : goal.returns
returns c = changed
