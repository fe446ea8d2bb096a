use Rattle.std.proofs.Common.{refl}
use Rattle.th_syntax.specs.WorkedFiles.{constants_bytes, constant_fields, constants_value}
use Rattle.th_syntax.proofs.WholeReading.{reading_value}
use Rattle.th_syntax.proofs.WorkedFiles.{constants_read, fields_refused}
use Rattle.th_syntax.proofs.laws.worked_files.constants_are_read.Goals as goal

pub returns : goal.returns
returns c = record { value = (reading_value (constants_bytes constant_fields) constants_value refl).0 constants_read; refused = fields_refused }
