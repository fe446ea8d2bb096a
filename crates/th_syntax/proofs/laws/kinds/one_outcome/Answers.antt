use Rattle.th_syntax.proofs.LeastKinds.{kinds_or_conflict, one_conflict, one_listing}
use Rattle.th_syntax.proofs.laws.kinds.one_outcome.Goals as goal

pub returns : goal.returns
returns c = record { apart = kinds_or_conflict; conflict = one_conflict; listing = one_listing }
