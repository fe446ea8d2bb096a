use Rattle.th_machine.proofs.Following.{follows}
use Rattle.th_machine.proofs.laws.steps_are_found.Goals as goal

pub returns : goal.returns
returns c = λ lifecycle files s verified reachable running framed.
    let next = c.verified_states_have_a_step.ensures lifecycle files s verified reachable running framed in
    follows files s next.0 c.operands_are_found.ensures (c.verified_programs_are_sound.ensures.sound files verified)
    (c.verified_runs_keep.ensures lifecycle files s verified reachable) running next.1
