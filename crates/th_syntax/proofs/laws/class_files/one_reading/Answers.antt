use Rattle.th_syntax.proofs.WholeReading.{reading_value, reading_flaw}
use Rattle.th_syntax.proofs.laws.class_files.one_reading.Goals as goal

pub returns : goal.returns
returns c = record { value = reading_value; flaw = reading_flaw }
