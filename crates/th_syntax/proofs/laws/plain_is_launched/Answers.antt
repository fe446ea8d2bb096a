use Rattle.th_syntax.proofs.Worked.{plain_launched}
use Rattle.th_syntax.proofs.laws.plain_is_launched.Goals as goal

pub returns : goal.returns
returns c = plain_launched
