use Rattle.th_syntax.proofs.WholeReading.{one_flaw}
use Rattle.th_syntax.proofs.laws.class_files.one_flaw.Goals as goal

pub returns : goal.returns
returns c = one_flaw
