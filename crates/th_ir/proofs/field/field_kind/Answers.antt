use Rattle.std.proofs.Common.{rules, ◌≡◌, ◌==◌, false, Some, None, ◌∙◌}
use Rattle.th_base.specs.Hierarchy.{numbered_field}
use Rattle.th_ir.specs.Fields.{stage_field, length_field, kind_of}
use Rattle.th_ir.proofs.NumberedFields.{kind_by}
use Rattle.th_ir.proofs.field.field_kind.Goals as goal

pub returns-in-Some : goal.returns-in-Some
returns-in-Some c = λ n.
    let h = c.args.hierarchy.now in
    let f = c.args.field.0 in
    let stage : (f == stage_field) ≡ false = search rules in
    let other : (f == length_field) ≡ false = search rules in
    let found : numbered_field h f ≡ Some (c.in-Some.found.0.0, c.in-Some.found.1.now) = search rules in
    let is : c.kind_of.result ≡ kind_of c.in-Some.found.1.now.descriptor = search rules in
    is ∙ kind_by h f (Some (c.in-Some.found.0.0, c.in-Some.found.1.now)) n found stage other

pub returns-in-None : goal.returns-in-None
returns-in-None c = λ n.
    let h = c.args.hierarchy.now in
    let f = c.args.field.0 in
    let stage : (f == stage_field) ≡ false = search rules in
    let other : (f == length_field) ≡ false = search rules in
    let found : numbered_field h f ≡ None = search rules in
    kind_by h f None n found stage other
