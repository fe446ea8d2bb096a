use Rattle.th_syntax.proofs.WorkedFiles.{fronts_refused}
use Rattle.th_syntax.proofs.laws.worked_files.fronts_are_refused.Goals as goal

pub returns : goal.returns
returns c = fronts_refused
