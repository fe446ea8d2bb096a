use Rattle.th_syntax.proofs.Spelling.{flawless_spelled, spelled_decoded}
use Rattle.th_syntax.proofs.laws.class_files.code_is_spelled.Goals as goal

pub returns : goal.returns
returns c = record { spelled = flawless_spelled; one = spelled_decoded }
