use Rattle.th_syntax.proofs.WholeReading.{one_value}
use Rattle.th_syntax.proofs.laws.class_files.one_value.Goals as goal

pub returns : goal.returns
returns c = one_value
