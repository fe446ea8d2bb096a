use Rattle.th_syntax.proofs.Allowing.{allowed}
use Rattle.th_syntax.proofs.laws.instructions_are_allowed.Goals as goal

pub returns : goal.returns
returns c = allowed
