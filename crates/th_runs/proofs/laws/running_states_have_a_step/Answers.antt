use Rattle.th_runs.proofs.Running.{steps_on}
use Rattle.th_runs.proofs.laws.running_states_have_a_step.Goals as goal

pub returns : goal.returns
returns c = λ lifecycle files s sound. steps_on lifecycle files sound (λ i. c.what_is_named_stands.ensures files i sound.linked) s
