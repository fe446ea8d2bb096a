use Rattle.std.proofs.Common.{refl}
use Rattle.th_syntax.specs.WorkedFiles.{interfaces_bytes, interfaces_value}
use Rattle.th_syntax.proofs.WholeReading.{reading_value}
use Rattle.th_syntax.proofs.WorkedFiles.{interfaces_read, interface_edits_refused}
use Rattle.th_syntax.proofs.laws.worked_files.interfaces_are_read.Goals as goal

pub returns : goal.returns
returns c = record { value = (reading_value interfaces_bytes interfaces_value refl).0 interfaces_read; refused = interface_edits_refused }
