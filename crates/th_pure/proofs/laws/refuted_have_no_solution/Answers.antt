use Rattle.th_pure.proofs.Sound.{Laws, no_solution}
use Rattle.th_pure.proofs.laws.refuted_have_no_solution.Goals as goal

pub returns : goal.returns
returns c = λ facts ranges h e.
    let l : Laws = record { division = c.steps_keep.ensures.division; scaling = c.steps_keep.ensures.scaling; sum = c.steps_keep.ensures.sum; substitution = c.steps_keep.ensures.substitution } in
    no_solution l facts ranges h e
