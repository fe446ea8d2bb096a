use Rattle.th_syntax.proofs.Worked.{created, stored}
use Rattle.th_syntax.proofs.laws.storing_is_joined.Goals as goal

pub returns : goal.returns
returns c = record { reached = created; joined = stored }
