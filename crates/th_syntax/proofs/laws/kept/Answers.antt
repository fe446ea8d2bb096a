use Rattle.th_syntax.proofs.Kept.{kept}
use Rattle.th_syntax.proofs.laws.kept.Goals as goal

pub returns : goal.returns
returns c = kept
