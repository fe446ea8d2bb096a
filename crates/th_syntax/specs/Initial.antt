-- The values of fields and constants, new objects, and the state in which every run begins.
use Rattle.std.specs.Prelude.{ℕ, false, not, List, [], ◌++◌, pos, map, filter, flat_map, reverse, Option, slice_get, if◌then◌else◌}
use Rattle.std.specs.Option.{option_map, option_map_or, unwrap_or}
use Rattle.th_base.specs.declared.built_in.TheConstants.{STRING_NUMBER}
use Rattle.th_base.specs.declared.class.ClassInfo.{ClassInfo}
use Rattle.th_base.specs.declared.class.FieldInfo.{FieldInfo}
use Rattle.th_base.specs.ValueKinds.{is_reference, is_long}
use Rattle.th_base.specs.Hierarchy.{lineage_of}
use Rattle.th_wrap.specs.TwosComplement.{wrapped_value}
use Rattle.th_syntax.specs.declared.class_file.ClassFile.{ClassFile}
use Rattle.th_syntax.specs.declared.class_file.Constant.{Constant}
use Rattle.th_syntax.specs.declared.class_file.Constant.TheVariants.{Int, Long, Str}
use Rattle.th_syntax.specs.Machine.{Value, IntValue, LongValue, NullValue, Address, Object, Instance, Untouched, Done, State, class_id}
use Rattle.th_syntax.specs.Strings.{string_constants, string_number_of}
use Rattle.th_syntax.specs.Program.{built_in_classes, fields_of, hierarchy_of}

-- ---- values

-- the value of a field of this descriptor before anything is stored into it (Java specification 2.3, 2.4)
abbrev pub default_value : List ℕ → Value
default_value descriptor =
    if is_reference descriptor then NullValue else if is_long descriptor then LongValue (pos 0) else IntValue (pos 0)

-- the instance fields of a class and of its superclasses, those of the root class first: so a field
-- has one place in the objects of all subclasses
abbrev pub instance_fields : List ClassInfo → ℕ → List FieldInfo
instance_fields classes c =
    filter (λ f. not f.is_static) (flat_map (λ k. option_map_or (λ i. i.fields) (slice_get classes k) []) (reverse (lineage_of classes c)))

-- a new object of a class (Java specification 6.5, new)
abbrev pub new_object : List ClassFile → ℕ → Object
new_object files c = Instance (class_id c) (map (λ f. (f.id, default_value f.descriptor)) (instance_fields (hierarchy_of files) c))

-- ---- constants

-- the object of a String constant
abbrev pub string_constant : List ClassFile → List ℕ → Option Value
string_constant files text = option_map Address (string_number_of files text)

-- the value of a ConstantValue attribute (Java specification 4.7.2)
abbrev pub constant_value : List ClassFile → Constant → Value
constant_value files (Int n) = IntValue (wrapped_value 32 n)
constant_value files (Long n) = LongValue (wrapped_value 64 n)
constant_value files (Str text) = unwrap_or (string_constant files text) NullValue

-- ---- the initial state

-- the String constants are there, static fields are 0 or null, the built-in classes are initialised
-- and no others, and nothing is called or launched (this project's own)
abbrev pub initial : List ClassFile → State
initial files = record {
  heap = map (λ text. new_object files STRING_NUMBER) (string_constants files);
  statics = map (λ f. default_value f.member.descriptor) (fields_of files);
  marks = map (λ c. Done) built_in_classes ++ map (λ c. Untouched) files;
  frames = [];
  launched = [];
  ended = false;
}
