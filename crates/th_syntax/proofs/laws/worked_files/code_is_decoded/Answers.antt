use Rattle.th_syntax.proofs.WorkedFiles.{instrs_are, instrs_flawless, instrs_locals}
use Rattle.th_syntax.proofs.laws.worked_files.code_is_decoded.Goals as goal

pub returns : goal.returns
returns c = record { instrs = instrs_are; flawless = instrs_flawless; locals = instrs_locals }
