use Rattle.std.proofs.Common.{◌<◌, length, ap, ◌∙◌, arith}
use Rattle.th_base.specs.Hierarchy.{first_field, resolved_field}
use Rattle.th_base.proofs.Looked.{supertypes_serve, field_served}
use Rattle.th_base.proofs.hierarchy.Hierarchy.resolve_field.Goals as goal

pub returns : goal.returns
returns c =
    let name = c.args.name.now in
    let descriptor = c.args.descriptor.now in
    let classes = c.self.inside.classes in
    let order = c.as_slice-order.result.now in
    let inside : c.args.class.0 < length classes = omega (arith, ap length c.self.view_is, c.requires) in
    let serves = supertypes_serve classes c.self.inside.above.items c.args.class.0 c.index.result.now order c.self.invariant.above inside c.index.ensures c.as_slice-order.ensures in
    c.field_along.ensures ∙ ap (λ cs. first_field cs name descriptor order) c.as_slice.ensures
    ∙ field_served classes c.args.class.0 order name descriptor serves ∙ ap (λ cs. resolved_field cs c.args.class.0 name descriptor) c.self.view_is
