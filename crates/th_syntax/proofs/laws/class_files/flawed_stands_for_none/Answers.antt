use Rattle.th_syntax.proofs.WholeReading.{flawed_none}
use Rattle.th_syntax.proofs.laws.class_files.flawed_stands_for_none.Goals as goal

pub returns : goal.returns
returns c = flawed_none
