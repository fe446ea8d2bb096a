use Rattle.th_syntax.proofs.WorkedFiles.{codes_refused}
use Rattle.th_syntax.proofs.laws.worked_files.codes_are_refused.Goals as goal

pub returns : goal.returns
returns c = codes_refused
