use Rattle.std.proofs.Common.{refl}
use Rattle.th_linear.specs.Gathered.{gathered_form}
use Rattle.th_query.proofs.laws.worked.symbols_are_numbered.Goals as goal

pub returns : goal.returns
unfolding gathered_form
returns c = refl
