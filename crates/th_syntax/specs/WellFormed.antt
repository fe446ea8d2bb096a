-- Names of classes, fields and methods (Java specification 4.2). Names are bytes, and are not decoded.
use Rattle.std.specs.Prelude.{ℕ, ◌==◌, ◌&&◌, ◌||◌, not, nat_lt, List, length, codes, Bool}
use Rattle.std.specs.List.{list_all, slice_split}
use Rattle.std.specs.Str.{byte, bytes_eq}

-- a byte that may stand in a name: none of . ; [ / (Java specification 4.2.2)
abbrev pub is_name_byte : ℕ → Bool
is_name_byte b = not (b == byte "." || b == byte ";" || b == byte "[" || b == byte "/")

-- an unqualified name, as that of a field: at least one byte (Java specification 4.2.2)
abbrev pub is_field_name : List ℕ → Bool
is_field_name bytes = nat_lt 0 (length bytes) && list_all is_name_byte bytes

-- the name of a class or interface in internal form: unqualified names joined by / (Java specification 4.2.1)
abbrev pub is_class_name : List ℕ → Bool
is_class_name bytes = list_all is_field_name (slice_split (λ b. b == byte "/") bytes)

-- the names of instance initialisation and of initialisation of a class (Java specification 2.9)
abbrev pub is_initialiser : List ℕ → Bool
is_initialiser bytes = bytes_eq bytes (codes "<init>")

abbrev pub is_class_initialiser : List ℕ → Bool
is_class_initialiser bytes = bytes_eq bytes (codes "<clinit>")

-- a byte of a method's name is neither < nor >
abbrev pub is_method_byte : ℕ → Bool
is_method_byte b = not (b == byte "<" || b == byte ">")

-- the name of a method (Java specification 4.2.2)
abbrev pub is_method_name : List ℕ → Bool
is_method_name bytes = is_initialiser bytes || is_class_initialiser bytes || (is_field_name bytes && list_all is_method_byte bytes)
