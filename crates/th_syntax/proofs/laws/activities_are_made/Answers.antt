use Rattle.th_syntax.proofs.Origins.{made}
use Rattle.th_syntax.proofs.laws.activities_are_made.Goals as goal

pub returns : goal.returns
returns c = made
