use Rattle.std.proofs.Common.{rules}
use Rattle.th_input.proofs.Fronts.{front-piece}
use Rattle.th_input.proofs.fetching.read_more.Goals as goal

pub returns-in-Ok-extend_from_slice-clause-front :
    goal.returns-in-Ok-extend_from_slice-clause-front
returns-in-Ok-extend_from_slice-clause-front g c front = rw c.in-Ok-extend_from_slice.ensures.items (front-piece _ _ _ _ c.len-2.result _ (search rules) front c.in-Ok.ensures.reads)
