use Rattle.th_syntax.proofs.WorkedFiles.{codes_taken}
use Rattle.th_syntax.proofs.laws.worked_files.codes_are_taken.Goals as goal

pub returns : goal.returns
returns c = codes_taken
