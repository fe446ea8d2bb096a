-- Which bytes are a class file, and what they stand for (Java specification 4).
use Rattle.std.specs.Prelude.{◌≡◌, ℕ, ◌==◌, nat_lt, List, [], ◌∷◌, ◌++◌, map, Bool, Option, Some, None, IsTrue, if◌then◌else◌}
use Rattle.std.specs.List.{list_all}
use Rattle.std.specs.Option.{option_and_then, option_map}
use Rattle.th_syntax.specs.declared.class_file.ClassFile.{ClassFile}
use Rattle.th_syntax.specs.declared.class_file.Member.{Member}
use Rattle.th_syntax.specs.declared.class_file.Constant.{Constant}
use Rattle.th_syntax.specs.declared.class_file.Code.{Code}
use Rattle.th_syntax.specs.declared.flags.TheConstants.{ACC_STATIC}
use Rattle.th_syntax.specs.Flags.{has_flag}
use Rattle.th_syntax.specs.Forms.{Placed, Stands}
use Rattle.th_syntax.specs.ClassBytes.{Pool, Attribute, RawMember, RawClass, RawCode, class_file, magic}
use Rattle.th_syntax.specs.PoolChecks.{utf8_of, class_of}
use Rattle.th_syntax.specs.Decoding.{instrs_in}
use Rattle.th_syntax.specs.Checks.{constant_values, codes_of, constant_of, raw_code, second_pass, third_pass, fourth_pass}

-- ---- the value: what the indices lead to

-- all of them, where each is there
abbrev pub all_there : {A : Type 0} → List (Option A) → Option (List A)
all_there [] = Some []
all_there (None ∷ more) = None
all_there (Some x ∷ more) = option_map (λ xs. x ∷ xs) (all_there more)

abbrev pub code_value : Pool → RawCode → Code
code_value pool raw =
    record { max_stack = raw.max_stack; max_locals = raw.max_locals; instrs = instrs_in pool raw.bytes.value; handlers = raw.handlers }

-- a method's code: that of its Code attribute, where it has one
abbrev pub code_among : Pool → List Attribute → Option (Option Code)
code_among pool [] = Some None
code_among pool (first ∷ others) = option_map (λ raw. Some (code_value pool raw)) (raw_code first)

-- a static field's constant: that of its ConstantValue attribute, where it has one
abbrev pub constant_among : Pool → RawMember → List Attribute → Option (Option Constant)
constant_among pool f [] = Some None
constant_among pool f (first ∷ others) = option_map (λ constant. Some constant) (constant_of pool f first)

abbrev pub constant_of_field : Pool → RawMember → Option (Option Constant)
constant_of_field pool f = if has_flag f.access.value ACC_STATIC then constant_among pool f (constant_values pool f) else Some None

abbrev pub member_with : RawMember → Option Constant → Option Code → List ℕ → List ℕ → Member
member_with m constant code name descriptor =
    record { access = m.access.value; name = name; descriptor = descriptor; constant = constant; code = code }

-- a member under the name and the descriptor that its indices lead to
abbrev pub named : Pool → RawMember → Option Constant → Option Code → Option Member
named pool m constant code =
    option_and_then (λ name. option_map (λ descriptor. member_with m constant code name descriptor) (utf8_of pool m.descriptor.value))
    (utf8_of pool m.name.value)

abbrev pub field_value : Pool → RawMember → Option Member
field_value pool f = option_and_then (λ constant. named pool f constant None) (constant_of_field pool f)

abbrev pub method_value : Pool → RawMember → Option Member
method_value pool m = option_and_then (λ code. named pool m None code) (code_among pool (codes_of pool m))

-- the superclass's name, where there is an index
abbrev pub super_value : RawClass → Option (Option (List ℕ))
super_value c = if c.super_class.value == 0 then Some None else option_map (λ name. Some name) (class_of c.pool c.super_class.value)

abbrev pub interface_values : RawClass → Option (List (List ℕ))
interface_values c = all_there (map (λ i. class_of c.pool i.value) c.interfaces)

abbrev pub field_values : RawClass → Option (List Member)
field_values c = all_there (map (field_value c.pool) c.fields)

abbrev pub method_values : RawClass → Option (List Member)
method_values c = all_there (map (method_value c.pool) c.methods)

-- the class file that items stand for
unfoldable pub class_file_of : RawClass → Option ClassFile
class_file_of c =
    option_and_then (λ name. option_and_then (λ super_name. option_and_then (λ interfaces. option_and_then (λ fields. option_map (λ methods.
    record {
      major = c.major;
      access = c.access.value;
      name = name;
      super_name = super_name;
      interfaces = interfaces;
      fields = fields;
      methods = methods;
    })
    (method_values c)) (field_values c)) (interface_values c)) (super_value c)) (class_of c.pool c.this_class.value)

-- ---- the relation

-- the bytes are the magic number and the items of a class file, and nothing more
pub record IsWhole (bytes : List ℕ) (c : RawClass) : Type 0 where
  pub others : List ℕ
  pub behind : ℕ
  pub begins : bytes ≡ magic ++ others
  pub items : Stands class_file 4 others c behind []

-- each entry of the list is a byte
abbrev pub are_bytes : List ℕ → Bool
are_bytes bytes = list_all (λ b. nat_lt b 256) bytes

-- The bytes are the items of a class file, one behind the other, on which no check fails, and which
-- stand for this value.
pub record IsClassFile (bytes : List ℕ) (value : ClassFile) : Type 0 where
  pub class : RawClass
  pub bytes_are : IsTrue (are_bytes bytes)
  pub whole : IsWhole bytes class
  pub indices : second_pass class ≡ []
  pub names : third_pass class ≡ []
  pub content : fourth_pass class ≡ []
  pub stands_for : class_file_of class ≡ Some value
