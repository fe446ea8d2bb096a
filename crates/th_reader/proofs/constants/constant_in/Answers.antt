use Rattle.std.proofs.Common.{◌∙◌, ℕ, List, Result, Ok, sym, ap, refl}
use Rattle.std.specs.Prelude.{codes}
use Rattle.std.specs.Str.{bytes_eq}
use Rattle.th_pool.specs.declared.shape.DescriptorFault.{DescriptorFault}
use Rattle.th_pool.specs.declared.shape.FieldShape.{FieldShape}
use Rattle.th_pool.specs.declared.shape.Slot.{Slot}
use Rattle.th_syntax.specs.Descriptors.{field_type_of}
use Rattle.th_reader.proofs.ByType.{string_constant, other_constant}
use Rattle.th_reader.proofs.constants.constant_in.Goals as goal

pub returns-then-is_string : goal.returns-then-is_string
returns-then-is_string c =
    let test = ap (λ (b : List ℕ). bytes_eq b (codes "Ljava/lang/String;")) (sym c.as_bytes.ensures) ∙ sym c.is_string.ensures ∙ c.if-is_string.true in
    rw (string_constant c.field_descriptors.ensures c.args.pool.now c.args.descriptor.now c.args.index test) c.string_at.ensures

pub returns-else-is_string : goal.returns-else-is_string
returns-else-is_string c =
    let test = ap (λ (b : List ℕ). bytes_eq b (codes "Ljava/lang/String;")) (sym c.as_bytes.ensures) ∙ sym c.is_string.ensures ∙ c.if-is_string.false in
    let shape = ap (λ (s : Slot). let f : FieldShape = record { slot = s } in let r : Result FieldShape DescriptorFault = Ok f in r) (sym c.in-Ref.is) ∙ c.in-Ok.ensures in
    sym (other_constant c.field_descriptors.ensures c.args.pool.now c.args.descriptor.now c.args.index (field_type_of c.args.descriptor.now) refl shape test)
