use Rattle.th_syntax.proofs.Reading.{stands_read, read_stands, flawed_read, read_flawed}
use Rattle.th_syntax.proofs.laws.class_files.code_reading.Goals as goal

pub returns-clause-content : goal.returns-clause-content
returns-clause-content c = λ form at bytes value behind others. (read_stands form at bytes (value, behind, others), stands_read form at bytes value behind others)

pub returns-clause-instruction : goal.returns-clause-instruction
returns-clause-instruction c = λ form at bytes value behind others. (read_stands form at bytes (value, behind, others), stands_read form at bytes value behind others)

pub returns-clause-content_flaw : goal.returns-clause-content_flaw
returns-clause-content_flaw c = λ form at bytes flaw. (read_flawed form at bytes flaw, flawed_read form at bytes flaw)

pub returns-clause-instruction_flaw : goal.returns-clause-instruction_flaw
returns-clause-instruction_flaw c = λ form at bytes flaw. (read_flawed form at bytes flaw, flawed_read form at bytes flaw)
