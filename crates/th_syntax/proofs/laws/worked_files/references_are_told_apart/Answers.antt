use Rattle.th_syntax.proofs.WorkedFiles.{references}
use Rattle.th_syntax.proofs.laws.worked_files.references_are_told_apart.Goals as goal

pub returns : goal.returns
returns c = references
