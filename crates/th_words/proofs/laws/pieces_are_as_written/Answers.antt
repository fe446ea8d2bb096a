use Rattle.th_words.proofs.Spelling.{pieces_written, pieces_read}
use Rattle.th_words.proofs.laws.pieces_are_as_written.Goals as goal

pub returns-clause-written : goal.returns-clause-written
returns-clause-written c = pieces_written

pub returns-clause-read : goal.returns-clause-read
returns-clause-read c = pieces_read
