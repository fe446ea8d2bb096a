use Rattle.th_syntax.proofs.WholeReading.{all_bytes}
use Rattle.th_syntax.proofs.laws.class_files.entries_are_bytes.Goals as goal

pub returns : goal.returns
returns c = all_bytes
