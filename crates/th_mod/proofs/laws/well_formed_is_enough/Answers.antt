use Rattle.std.proofs.lemmas.Option.{slice_get_within}
use Rattle.th_mod.proofs.laws.well_formed_is_enough.Goals as goal

pub returns : goal.returns
returns c = λ h p wf n node at. (let entry = wf.nodes.entries n node at in slice_get_within p.methods node.method.0 entry.method entry.stands)
