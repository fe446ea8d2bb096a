use Rattle.std.proofs.Common.{refl}
use Rattle.th_syntax.proofs.laws.built_in_classes_come_first.Goals as goal

pub returns : goal.returns
returns c files = refl
