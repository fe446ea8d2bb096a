-- The number of a field that is found.
use Rattle.std.proofs.Common.{◌≡◌, ℕ, Option, None, Some, refl, ap, ◌∙◌}
use Rattle.std.specs.Option.{option_map}
use Rattle.th_base.specs.declared.class.FieldInfo.{FieldInfo}
use Rattle.th_base.specs.declared.number.FieldId.{FieldId}
use Rattle.th_base.specs.Hierarchy.{field_number}

numbers_same : (found : Option (ℕ × FieldInfo)) → option_map (λ (i : FieldId). i.0) (field_number found) ≡ option_map (λ (f : ℕ × FieldInfo). f.1.id.0) found
numbers_same None = refl
numbers_same (Some f) = refl

pub number_found : (found : Option (ℕ × FieldInfo)) (id : Option FieldId) → id ≡ field_number found → option_map (λ (i : FieldId). i.0) id ≡ option_map (λ (f : ℕ × FieldInfo). f.1.id.0) found
number_found found id e = ap (option_map (λ (i : FieldId). i.0)) e ∙ numbers_same found
