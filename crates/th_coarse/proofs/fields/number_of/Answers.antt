use Rattle.std.proofs.Common.{◌≡◌, ℕ, Option, Some, sym, ap, ◌∙◌}
use Rattle.std.specs.Option.{option_and_then, option_map}
use Rattle.th_base.specs.declared.class.FieldInfo.{FieldInfo}
use Rattle.th_base.specs.declared.number.ClassId.{ClassId}
use Rattle.th_base.specs.Hierarchy.{resolved_field}
use Rattle.th_syntax.specs.Program.{hierarchy_of, number_named}
use Rattle.th_coarse.proofs.fields.number_of.Goals as goal

pub returns-in-Some : goal.returns-in-Some
returns-in-Some c =
    let files = c.args.program.now in
    let r = c.args.field.now in
    let number : (ℕ × FieldInfo) → ℕ = λ f. f.1.id.0 in
    let named : number_named files r.owner ≡ Some c.in-Some.class.0 =
    ap (number_named files) (sym c.as_bytes.ensures) ∙ sym c.class_named.ensures.value ∙ ap (option_map (λ (k : ClassId). k.0)) c.in-Some.is in
    c.number_in.ensures ∙ ap (λ ks. option_map number (resolved_field ks c.in-Some.class.0 r.name r.descriptor)) c.hierarchy.ensures
    ∙ sym (ap (λ (o : Option ℕ). option_map number (option_and_then (λ k. resolved_field (hierarchy_of files) k r.name r.descriptor) o)) named)
