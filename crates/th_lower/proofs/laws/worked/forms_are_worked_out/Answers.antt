use Rattle.th_lower.proofs.WorkedForms.{storing_form, charted_form, vector_form, initialising_form, every_is_formed}
use Rattle.th_lower.proofs.laws.worked.forms_are_worked_out.Goals as goal

pub returns : goal.returns
returns c = record { storing = storing_form; charted = charted_form; vector = vector_form; initialising = initialising_form; every = every_is_formed }
