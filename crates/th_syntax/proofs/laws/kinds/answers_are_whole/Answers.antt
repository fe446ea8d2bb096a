use Rattle.th_syntax.proofs.WorkedKinds.{constructor_answer, half_answer}
use Rattle.th_syntax.proofs.laws.kinds.answers_are_whole.Goals as goal

pub returns : goal.returns
returns c = record { kinds = constructor_answer; conflict = half_answer }
