use Rattle.th_syntax.proofs.WorkedFiles.{edits_refused, edits_taken}
use Rattle.th_syntax.proofs.laws.worked_files.edits_are_read.Goals as goal

pub returns : goal.returns
returns c = record { refused = edits_refused; taken = edits_taken }
