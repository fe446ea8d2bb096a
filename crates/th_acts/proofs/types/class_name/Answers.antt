use Rattle.std.proofs.Common.{ap, ◌∙◌}
use Rattle.std.specs.Prelude.{option_map, slice_get}
use Rattle.th_acts.proofs.Naming.{named_alike}
use Rattle.th_acts.proofs.types.class_name.Goals as goal

pub returns : goal.returns
returns c =
    c.name_in.ensures
    ∙ ap (λ ks. option_map (λ k. k.name) (slice_get ks c.args.class.0)) (c.classes.ensures.value ∙ c.hierarchy.ensures)
    ∙ named_alike c.args.program.now c.args.class.0
