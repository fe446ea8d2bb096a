use Rattle.th_syntax.proofs.WorkedFiles.{lengths_checked}
use Rattle.th_syntax.proofs.laws.worked_files.lengths_are_checked.Goals as goal

pub returns : goal.returns
returns c = lengths_checked
