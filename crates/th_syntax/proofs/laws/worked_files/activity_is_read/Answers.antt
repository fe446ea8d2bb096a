use Rattle.std.proofs.Common.{List, [], ◌∷◌, ◌++◌, refl}
use Rattle.th_syntax.specs.declared.cause.TheConstants as cause
use Rattle.th_syntax.specs.Flaws.{flaw_at}
use Rattle.th_syntax.specs.WorkedFiles.{activity_bytes, activity_value}
use Rattle.th_syntax.proofs.WholeReading.{reading_value, reading_flaw}
use Rattle.th_syntax.proofs.WorkedFiles.{activity_read, activity_trailing}
use Rattle.th_syntax.proofs.laws.worked_files.activity_is_read.Goals as goal

pub returns : goal.returns
returns c = record { value = (reading_value activity_bytes activity_value refl).0 activity_read; trailing = (reading_flaw (activity_bytes ++ 0 ∷ []) (flaw_at cause.TRAILING 122)).0 activity_trailing }
