use Rattle.th_runs.proofs.laws.verified_states_have_a_step.Goals as goal

pub returns : goal.returns
returns c = λ lifecycle files s verified run.
    c.running_states_have_a_step.ensures lifecycle files s (c.verified_programs_are_sound.ensures.sound files verified) run
