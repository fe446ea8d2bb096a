use Rattle.th_syntax.proofs.Keeping.{strings_kept}
use Rattle.th_syntax.proofs.laws.strings_stay.Goals as goal

pub returns : goal.returns
returns c = strings_kept
