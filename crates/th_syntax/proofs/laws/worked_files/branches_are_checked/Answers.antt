use Rattle.th_syntax.proofs.WorkedFiles.{branches_refused}
use Rattle.th_syntax.proofs.laws.worked_files.branches_are_checked.Goals as goal

pub returns : goal.returns
returns c = branches_refused
