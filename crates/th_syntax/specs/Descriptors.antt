-- Descriptors of fields and methods (Java specification 4.3).
use Rattle.std.specs.Prelude.{◌≡◌, ℕ, zero, suc, ◌==◌, ◌&&◌, ◌||◌, nat_le, List, [], ◌∷◌, ◌++◌, length, codes, sum_by, Bool, true, false, Option, Some, None, IsTrue, if◌then◌else◌}
use Rattle.std.specs.List.{flat_map, list_all, list_any}
use Rattle.std.specs.Option.{option_map, option_and_then}
use Rattle.std.specs.Str.{byte}
use Rattle.th_syntax.specs.declared.limit.TheConstants.{MOST_DIMENSIONS, MOST_PARAMETER_SLOTS}
use Rattle.th_syntax.specs.WellFormed.{is_class_name}

-- ---- the types, and how they are spelled

-- a type of a field, a parameter or a result (Java specification 4.3.2)
pub data FieldType : Type 0 where
  byte_type : FieldType
  char_type : FieldType
  double_type : FieldType
  float_type : FieldType
  int_type : FieldType
  long_type : FieldType
  short_type : FieldType
  boolean_type : FieldType
  class_type : List ℕ → FieldType
  array_type : FieldType → FieldType

-- how a type is spelled (Java specification, table 4.3-A)
abbrev pub type_bytes : FieldType → List ℕ
type_bytes byte_type = codes "B"
type_bytes char_type = codes "C"
type_bytes double_type = codes "D"
type_bytes float_type = codes "F"
type_bytes int_type = codes "I"
type_bytes long_type = codes "J"
type_bytes short_type = codes "S"
type_bytes boolean_type = codes "Z"
type_bytes (class_type name) = codes "L" ++ (name ++ codes ";")
type_bytes (array_type element) = codes "[" ++ type_bytes element

-- how many dimensions an array type has
abbrev pub dimensions : FieldType → ℕ
dimensions (array_type element) = suc (dimensions element)
dimensions other = 0

-- the class that a type, or the elements of an array type, names is named well
abbrev pub is_named_well : FieldType → Bool
is_named_well (array_type element) = is_named_well element
is_named_well (class_type name) = is_class_name name
is_named_well other = true

-- a type has at most so many dimensions (Java specification 4.3.2)
abbrev pub is_type : FieldType → Bool
is_type type = is_named_well type && nat_le (dimensions type) MOST_DIMENSIONS

-- the bytes are the descriptor of this type
abbrev pub IsFieldDescriptor : List ℕ → FieldType → Type 0
IsFieldDescriptor bytes type = (bytes ≡ type_bytes type) × IsTrue (is_type type)

-- the type is float or double, or an array of these
abbrev pub is_floating : FieldType → Bool
is_floating float_type = true
is_floating double_type = true
is_floating (array_type element) = is_floating element
is_floating other = false

-- the parameters and the result of a method, which may be void (Java specification 4.3.3)
pub record MethodType : Type 0 where
  pub params : List FieldType
  pub result_type : Option FieldType

abbrev pub result_bytes : Option FieldType → List ℕ
result_bytes None = codes "V"
result_bytes (Some type) = type_bytes type

abbrev pub method_bytes : MethodType → List ℕ
method_bytes m = codes "(" ++ (flat_map type_bytes m.params ++ (codes ")" ++ result_bytes m.result_type))

-- how many slots a parameter takes: a long or a double two, any other one
abbrev pub size_of : FieldType → ℕ
size_of long_type = 2
size_of double_type = 2
size_of other = 1

abbrev pub is_result : Option FieldType → Bool
is_result None = true
is_result (Some type) = is_type type

-- a method has at most so many slots of parameters (Java specification 4.3.3)
abbrev pub is_method_type : MethodType → Bool
is_method_type m = list_all is_type m.params && is_result m.result_type && nat_le (sum_by size_of m.params) MOST_PARAMETER_SLOTS

abbrev pub IsMethodDescriptor : List ℕ → MethodType → Type 0
IsMethodDescriptor bytes m = (bytes ≡ method_bytes m) × IsTrue (is_method_type m)

abbrev pub is_floating_result : Option FieldType → Bool
is_floating_result None = false
is_floating_result (Some type) = is_floating type

abbrev pub is_floating_method : MethodType → Bool
is_floating_method m = list_any is_floating m.params || is_floating_result m.result_type

-- ---- the one type that bytes spell, if any: the laws say that these are the descriptors above

-- a type of one letter
unfoldable pub base_type : ℕ → Option FieldType
base_type b =
    if b == byte "B" then Some byte_type
    else if b == byte "C" then Some char_type
    else if b == byte "D" then Some double_type
    else if b == byte "F" then Some float_type
    else if b == byte "I" then Some int_type
    else if b == byte "J" then Some long_type
    else if b == byte "S" then Some short_type
    else if b == byte "Z" then Some boolean_type
    else None

-- the bytes before the first ; and those behind it
unfoldable pub name_before : List ℕ → Option (List ℕ × List ℕ)
name_before [] = None
name_before (b ∷ bytes) = if b == byte ";" then Some ([], bytes) else option_map (λ x. (b ∷ x.0, x.1)) (name_before bytes)

-- the type that stands at the front, unless it is an array, and the bytes behind it
unfoldable pub element_at : List ℕ → Option (FieldType × List ℕ)
element_at [] = None
element_at (b ∷ bytes) =
    if b == byte "L" then option_map (λ x. (class_type x.0, x.1)) (name_before bytes)
    else option_map (λ type. (type, bytes)) (base_type b)

-- the type that stands at the front, and the bytes behind it
unfoldable pub type_at : List ℕ → Option (FieldType × List ℕ)
type_at [] = None
type_at (b ∷ bytes) = if b == byte "[" then option_map (λ x. (array_type x.0, x.1)) (type_at bytes) else element_at (b ∷ bytes)

-- a value behind which nothing stands
abbrev pub alone : {A : Type 0} → Option (A × List ℕ) → Option A
alone None = None
alone (Some x) = if length x.1 == 0 then Some x.0 else None

abbrev pub only_if : {A : Type 0} → (A → Bool) → Option A → Option A
only_if test None = None
only_if test (Some x) = if test x then Some x else None

-- the type of a field's descriptor
unfoldable pub field_type_of : List ℕ → Option FieldType
field_type_of bytes = only_if is_type (alone (type_at bytes))

-- the types up to a closing parenthesis, at most as many as `room`, and the bytes behind it
unfoldable pub types_at : ℕ → List ℕ → Option (List FieldType × List ℕ)
types_at zero bytes = None
types_at (suc room) [] = None
types_at (suc room) (b ∷ bytes) =
    if b == byte ")" then Some ([], bytes)
    else option_and_then (λ first. option_map (λ more. (first.0 ∷ more.0, more.1)) (types_at room first.1)) (type_at (b ∷ bytes))

unfoldable pub result_at : List ℕ → Option (Option FieldType)
result_at [] = None
result_at (b ∷ bytes) =
    if b == byte "V" && length bytes == 0 then Some None else option_map (λ type. Some type) (alone (type_at (b ∷ bytes)))

unfoldable pub method_at : List ℕ → Option MethodType
method_at [] = None
method_at (b ∷ bytes) =
    if b == byte "(" then option_and_then (λ params. option_map (λ result_type. record { params = params.0; result_type = result_type })
    (result_at params.1)) (types_at (length bytes) bytes)
    else None

-- the parameters and the result of a method's descriptor
unfoldable pub method_type_of : List ℕ → Option MethodType
method_type_of bytes = only_if is_method_type (method_at bytes)
