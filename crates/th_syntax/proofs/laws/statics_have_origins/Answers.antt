use Rattle.th_syntax.proofs.Origins.{explained}
use Rattle.th_syntax.proofs.laws.statics_have_origins.Goals as goal

pub returns : goal.returns
returns c lifecycle files s field v run held = explained lifecycle files s run field v held
