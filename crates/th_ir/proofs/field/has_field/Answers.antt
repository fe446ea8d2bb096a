use Rattle.std.proofs.Common.{rules, ◌≡◌, Some}
use Rattle.th_base.specs.Subtype.{class_named}
use Rattle.th_base.proofs.Looked.{class_named_inside}
use Rattle.th_ir.proofs.field.has_field.Goals as goal

pub class_has-requires : goal.class_has-requires
class_has-requires c =
    let name = c.in-Some.found.now.class in
    let found : class_named c.args.hierarchy.now name ≡ Some c.in-Some-find_class.class.0 = search rules in
    class_named_inside c.args.hierarchy.now name c.in-Some-find_class.class.0 found
