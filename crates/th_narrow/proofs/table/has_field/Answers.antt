use Rattle.std.proofs.Common.{rules, ◌≡◌, ◌==◌, not, true, false, sym, ap, ◌∙◌}
use Rattle.std.specs.Prelude.{◌&&◌}
use Rattle.th_ir.specs.Fields.{class_has, length_field}
use Rattle.th_narrow.proofs.Making.{field_by, has_field_by, object_inside}
use Rattle.th_narrow.proofs.table.has_field.Goals as goal

pub class_has-requires : goal.class_has-requires
class_has-requires c = object_inside c.args.plan.now c.args.table.now c.args.site c.in-Object.class.0 c.requires.table (sym c.made_at.ensures ∙ c.in-Object.is)

pub returns-then-ne : goal.returns-then-ne
returns-then-ne c numbers =
    let h = c.args.plan.now.hierarchy in
    let f = c.args.field.0 in
    let other : (f == length_field) ≡ false = search rules in
    c.class_has.ensures numbers
    ∙ sym (
    has_field_by c.args.plan.now c.args.table.now c.args.site f c.made_at.result c.requires.table c.made_at.ensures
    ∙ ap (field_by h f (f == length_field)) c.in-Object.is ∙ ap (λ b. not b && class_has h c.in-Object.class.0 f) other
    )

pub returns-else-ne : goal.returns-else-ne
returns-else-ne c numbers =
    let h = c.args.plan.now.hierarchy in
    let f = c.args.field.0 in
    let same : (f == length_field) ≡ true = search rules in
    let none : c.ne.result ≡ false = search rules in
    none
    ∙ sym (
    has_field_by c.args.plan.now c.args.table.now c.args.site f c.made_at.result c.requires.table c.made_at.ensures
    ∙ ap (field_by h f (f == length_field)) c.in-Object.is ∙ ap (λ b. not b && class_has h c.in-Object.class.0 f) same
    )

pub returns-in-References : goal.returns-in-References
returns-in-References c numbers =
    let f = c.args.field.0 in
    let is : c.eq.result ≡ (f == length_field) = search rules in
    is
    ∙ sym (
    has_field_by c.args.plan.now c.args.table.now c.args.site f c.made_at.result c.requires.table c.made_at.ensures
    ∙ ap (field_by c.args.plan.now.hierarchy f (f == length_field)) c.in-References.is
    )

pub returns-in-Numbers : goal.returns-in-Numbers
returns-in-Numbers c numbers =
    let f = c.args.field.0 in
    let is : c.eq-in-Numbers.result ≡ (f == length_field) = search rules in
    is
    ∙ sym (
    has_field_by c.args.plan.now c.args.table.now c.args.site f c.made_at.result c.requires.table c.made_at.ensures
    ∙ ap (field_by c.args.plan.now.hierarchy f (f == length_field)) c.in-Numbers.is
    )

pub returns-in-Nothing : goal.returns-in-Nothing
returns-in-Nothing c numbers =
    let f = c.args.field.0 in
    sym (
    has_field_by c.args.plan.now c.args.table.now c.args.site f c.made_at.result c.requires.table c.made_at.ensures
    ∙ ap (field_by c.args.plan.now.hierarchy f (f == length_field)) c.in-Nothing.is
    )
