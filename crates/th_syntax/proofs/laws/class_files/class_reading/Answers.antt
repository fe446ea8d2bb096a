use Rattle.th_syntax.proofs.Reading.{stands_read, read_stands, flawed_read, read_flawed}
use Rattle.th_syntax.proofs.laws.class_files.class_reading.Goals as goal

pub returns-clause-value : goal.returns-clause-value
returns-clause-value c = λ form at bytes value behind others. (read_stands form at bytes (value, behind, others), stands_read form at bytes value behind others)

pub returns-clause-flaw : goal.returns-clause-flaw
returns-clause-flaw c = λ form at bytes flaw. (read_flawed form at bytes flaw, flawed_read form at bytes flaw)
