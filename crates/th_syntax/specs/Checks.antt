-- The checks of a class file whose items are whole, in three passes: indices, names and content.
-- Each gives the flaws that it finds, at their offsets in the file.
use Rattle.std.specs.Prelude.{ℕ, ◌==◌, ◌&&◌, not, nat_lt, List, [], ◌∷◌, ◌++◌, map, length, codes, Bool, true, false, Option, Some, None, is_some, Result, Ok, Err, if◌then◌else◌}
use Rattle.std.specs.List.{flat_map, filter}
use Rattle.std.specs.Option.{option_map, option_map_or, option_and_then}
use Rattle.std.specs.Str.{bytes_eq}
use Rattle.th_syntax.specs.declared.cause.TheConstants as cause
use Rattle.th_syntax.specs.declared.flags.TheConstants.{ACC_STATIC, ACC_NATIVE, ACC_INTERFACE}
use Rattle.th_syntax.specs.declared.tag.TheConstants as tag
use Rattle.th_syntax.specs.declared.class_file.Constant.{Constant}
use Rattle.th_syntax.specs.declared.class_file.Constant.TheVariants as constant
use Rattle.th_syntax.specs.declared.refusal.Flaw.{Flaw}
use Rattle.th_syntax.specs.Flags.{has_flag}
use Rattle.th_syntax.specs.Flaws.{flaw_at, unless}
use Rattle.th_syntax.specs.Forms.{Placed, Found, read, number_of}
use Rattle.th_syntax.specs.ClassBytes.{Pool, Attribute, RawMember, RawClass, RawCode, code}
use Rattle.th_syntax.specs.WellFormed.{is_class_name, is_field_name, is_method_name, is_class_initialiser}
use Rattle.th_syntax.specs.Descriptors.{FieldType, byte_type, char_type, int_type, long_type, short_type, boolean_type, class_type, field_type_of, method_type_of}
use Rattle.th_syntax.specs.PoolChecks.{has_tag, utf8_of, class_of, string_of, integer_of, long_of, entry_flaws}
use Rattle.th_syntax.specs.CodeBytes.{type_numbers, method_type_numbers}
use Rattle.th_syntax.specs.Decoding.{code_flaws}

-- ---- the second pass: indices

-- an index leads to an entry of this tag
abbrev pub index_flaws : Pool → ℕ → Placed ℕ → List Flaw
index_flaws pool expected index = unless (has_tag pool index.value expected) (flaw_at cause.POOL index.at)

-- a superclass may be left out, by index 0 (Java specification 4.1)
abbrev pub super_index_flaws : RawClass → List Flaw
super_index_flaws c = if c.super_class.value == 0 then [] else index_flaws c.pool tag.CLASS c.super_class

abbrev pub attribute_index_flaws : Pool → Attribute → List Flaw
attribute_index_flaws pool a = index_flaws pool tag.UTF8 a.name

abbrev pub member_index_flaws : Pool → RawMember → List Flaw
member_index_flaws pool m =
    index_flaws pool tag.UTF8 m.name ++ (index_flaws pool tag.UTF8 m.descriptor ++ flat_map (attribute_index_flaws pool) m.attributes)

-- the entries of the pool, this_class, super_class, the interfaces, the names and descriptors of
-- members, and the names of attributes
unfoldable pub second_pass : RawClass → List Flaw
second_pass c =
    entry_flaws c.pool
    ++ (index_flaws c.pool tag.CLASS c.this_class
    ++ (super_index_flaws c
    ++ (flat_map (index_flaws c.pool tag.CLASS) c.interfaces
    ++ (flat_map (member_index_flaws c.pool) c.fields
    ++ (flat_map (member_index_flaws c.pool) c.methods
    ++ flat_map (attribute_index_flaws c.pool) c.attributes)))))

-- ---- the third pass: names and descriptors, at the index that leads to them

-- the flaw of an ill-formed name; what an index doesn't lead to was refused before
abbrev pub name_flaws : Option (List ℕ) → (List ℕ → Bool) → ℕ → List Flaw
name_flaws None test offset = []
name_flaws (Some name) test offset = unless (test name) (flaw_at cause.NAME offset)

abbrev pub class_name_flaws : Pool → Placed ℕ → List Flaw
class_name_flaws pool index = name_flaws (class_of pool index.value) is_class_name index.at

-- the flaw of an ill-formed descriptor, or of one with float or double
abbrev pub descriptor_flaws : Option (List ℕ) → (List ℕ → List ℕ) → ℕ → List Flaw
descriptor_flaws None numbers offset = []
descriptor_flaws (Some descriptor) numbers offset = map (λ number. flaw_at number offset) (numbers descriptor)

abbrev pub field_name_flaws : Pool → RawMember → List Flaw
field_name_flaws pool f =
    name_flaws (utf8_of pool f.name.value) is_field_name f.name.at
    ++ descriptor_flaws (utf8_of pool f.descriptor.value) (λ d. type_numbers (field_type_of d)) f.descriptor.at

abbrev pub method_name_flaws : Pool → RawMember → List Flaw
method_name_flaws pool m =
    name_flaws (utf8_of pool m.name.value) is_method_name m.name.at
    ++ descriptor_flaws (utf8_of pool m.descriptor.value) (λ d. method_type_numbers (method_type_of d)) m.descriptor.at

-- this_class, super_class, the interfaces, and the names and descriptors of members
unfoldable pub third_pass : RawClass → List Flaw
third_pass c =
    class_name_flaws c.pool c.this_class
    ++ (class_name_flaws c.pool c.super_class
    ++ (flat_map (class_name_flaws c.pool) c.interfaces
    ++ (flat_map (field_name_flaws c.pool) c.fields
    ++ flat_map (method_name_flaws c.pool) c.methods)))

-- ---- the fourth pass: what members hold

-- whether an index leads to this text
abbrev pub is_text : Pool → ℕ → List ℕ → Bool
is_text pool index text = option_map_or (λ found. bytes_eq found text) (utf8_of pool index) false

-- the attributes of this name, in order
abbrev pub attributes_named : Pool → List ℕ → List Attribute → List Attribute
attributes_named pool name attributes = filter (λ a. is_text pool a.name.value name) attributes

abbrev pub constant_values : Pool → RawMember → List Attribute
constant_values pool f = attributes_named pool (codes "ConstantValue") f.attributes

abbrev pub codes_of : Pool → RawMember → List Attribute
codes_of pool m = attributes_named pool (codes "Code") m.attributes

-- the constant that a field of this type takes from an index (Java specification, table 4.7.2-A)
abbrev pub constant_in : Pool → Option FieldType → ℕ → Option Constant
constant_in pool (Some byte_type) index = option_map constant.Int (integer_of pool index)
constant_in pool (Some char_type) index = option_map constant.Int (integer_of pool index)
constant_in pool (Some int_type) index = option_map constant.Int (integer_of pool index)
constant_in pool (Some short_type) index = option_map constant.Int (integer_of pool index)
constant_in pool (Some boolean_type) index = option_map constant.Int (integer_of pool index)
constant_in pool (Some long_type) index = option_map constant.Long (long_of pool index)
constant_in pool (Some (class_type name)) index =
    if bytes_eq name (codes "java/lang/String") then option_map constant.Str (string_of pool index) else None
constant_in pool other index = None

-- the type of a field
abbrev pub type_of_field : Pool → RawMember → Option FieldType
type_of_field pool f = option_and_then field_type_of (utf8_of pool f.descriptor.value)

-- the constant of a ConstantValue attribute of two bytes
abbrev pub constant_of : Pool → RawMember → Attribute → Option Constant
constant_of pool f a = if length a.content.value == 2 then constant_in pool (type_of_field pool f) (number_of a.content.value) else None

-- each attribute of a list behind the first is one too many
abbrev pub again_flaws : List Attribute → List Flaw
again_flaws attributes = map (λ (a : Attribute). flaw_at cause.ATTRIBUTE a.name.at) attributes

abbrev pub constant_flaws_of : Pool → RawMember → List Attribute → List Flaw
constant_flaws_of pool f [] = []
constant_flaws_of pool f (first ∷ others) =
    unless (is_some (constant_of pool f first)) (flaw_at cause.ATTRIBUTE first.name.at) ++ again_flaws others

-- A static field's ConstantValue attribute stands once, and holds a constant of the field's type; else
-- it is refused at its name. An instance field's is skipped (Java specification 4.7.2).
abbrev pub constant_flaws : Pool → RawMember → List Flaw
constant_flaws pool f = if has_flag f.access.value ACC_STATIC then constant_flaws_of pool f (constant_values pool f) else []

-- the content of a Code attribute, whose inner lengths add up
abbrev pub whole_of : {A : Type 0} → Result (Found A) Flaw → Option A
whole_of (Err flaw) = None
whole_of (Ok found) = if length found.2 == 0 then Some found.0 else None

unfoldable pub raw_code : Attribute → Option RawCode
raw_code a = whole_of (read code a.content.at a.content.value)

-- lengths that don't add up are refused at the attribute's name
abbrev pub raw_code_flaws : Pool → ℕ → Option RawCode → List Flaw
raw_code_flaws pool name_at None = flaw_at cause.ATTRIBUTE name_at ∷ []
raw_code_flaws pool name_at (Some raw) = code_flaws pool raw

-- a method has one Code attribute at most; a second one is refused at its name
abbrev pub method_code_flaws : Pool → List Attribute → List Flaw
method_code_flaws pool [] = []
method_code_flaws pool (first ∷ others) = raw_code_flaws pool first.name.at (raw_code first) ++ again_flaws others

-- a native method is refused at its flags
abbrev pub native_flaws : RawMember → List Flaw
native_flaws m = unless (not (has_flag m.access.value ACC_NATIVE)) (flaw_at cause.NATIVE m.access.at)

abbrev pub is_class_initialiser_at : Pool → ℕ → Bool
is_class_initialiser_at pool index = option_map_or is_class_initialiser (utf8_of pool index) false

abbrev pub has_code : Pool → RawMember → Bool
has_code pool m = nat_lt 0 (length (codes_of pool m))

-- an interface's method with code that isn't <clinit> is refused at its flags
abbrev pub interface_code_flaws : RawClass → RawMember → List Flaw
interface_code_flaws c m =
    unless (not (has_flag c.access.value ACC_INTERFACE && has_code c.pool m && not (is_class_initialiser_at c.pool m.name.value)))
    (flaw_at cause.INTERFACE_CODE m.access.at)

abbrev pub method_flaws : RawClass → RawMember → List Flaw
method_flaws c m = native_flaws m ++ (interface_code_flaws c m ++ method_code_flaws c.pool (codes_of c.pool m))

unfoldable pub fourth_pass : RawClass → List Flaw
fourth_pass c = flat_map (constant_flaws c.pool) c.fields ++ flat_map (method_flaws c) c.methods
