use Rattle.th_syntax.proofs.WholeReading.{either}
use Rattle.th_syntax.proofs.laws.class_files.flawed_or_whole.Goals as goal

pub returns : goal.returns
returns c = either
