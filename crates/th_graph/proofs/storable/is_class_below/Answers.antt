use Rattle.std.proofs.Common.{sym, ap, ◌∙◌}
use Rattle.std.specs.Option.{option_map}
use Rattle.th_base.specs.declared.number.ClassId.{ClassId}
use Rattle.th_base.proofs.Looked.{class_named_inside}
use Rattle.th_graph.proofs.storable.is_class_below.Goals as goal

pub is_class_subtype-requires : goal.is_class_subtype-requires
is_class_subtype-requires c =
    class_named_inside c.args.hierarchy.now c.args.a.now c.in-Some-Some.i.0 (sym c.find_class.ensures ∙ ap (option_map (λ (k : ClassId). k.0)) c.in-Some-Some.is-0)
