use Rattle.th_syntax.proofs.Worked.{not_launched}
use Rattle.th_syntax.proofs.laws.built_in_is_not_launched.Goals as goal

pub returns : goal.returns
returns c = not_launched
