use Rattle.th_runs.proofs.Running.{kinds_kept}
use Rattle.th_runs.proofs.laws.runs_keep_to_kinds.Goals as goal

pub returns : goal.returns
returns c = λ lifecycle files s sound. kinds_kept lifecycle files sound (λ i. c.what_is_named_stands.ensures files i sound.linked) s
