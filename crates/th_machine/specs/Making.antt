-- How new objects are made: the fields of one class after the other.
use Rattle.std.specs.Prelude.{ℕ, List, [], not, map, filter, flat_map, slice_get}
use Rattle.std.specs.Option.{option_map_or}
use Rattle.th_base.specs.declared.number.FieldId.{FieldId}
use Rattle.th_base.specs.declared.class.ClassInfo.{ClassInfo}
use Rattle.th_base.specs.declared.class.FieldInfo.{FieldInfo}
use Rattle.th_syntax.specs.declared.machine.Value.{Value}
use Rattle.th_syntax.specs.Initial.{default_value}

-- the instance fields among these, each with the value that it begins with
abbrev pub first_values : List FieldInfo → List (FieldId × Value)
first_values fields = map (λ f. (f.id, default_value f.descriptor)) (filter (λ f. not f.is_static) fields)

-- the fields that a class declares
abbrev pub declared_fields : List ClassInfo → ℕ → List FieldInfo
declared_fields classes c = option_map_or (λ i. i.fields) (slice_get classes c) []

-- the instance fields that these classes declare, in order, with the values that they begin with
abbrev pub fields_along : List ClassInfo → List ℕ → List (FieldId × Value)
fields_along classes cs = first_values (flat_map (declared_fields classes) cs)
