-- Class files that are worked out in full: an Activity with a constructor, a class with a constant of each
-- type, and edits of them that are refused.
use Rattle.std.specs.Prelude.{ℕ, ◌+◌, List, [], ◌∷◌, ◌++◌, map, length, drop, codes, Option, Some, None, pos, negsuc}
use Rattle.std.specs.List.{concat}
use Rattle.th_syntax.specs.declared.cause.TheConstants as cause
use Rattle.th_syntax.specs.declared.class_file.ClassFile.{ClassFile}
use Rattle.th_syntax.specs.declared.class_file.Member.{Member}
use Rattle.th_syntax.specs.declared.class_file.Constant.{Constant}
use Rattle.th_syntax.specs.declared.class_file.Constant.TheVariants as constant
use Rattle.th_syntax.specs.declared.instr.Instr.TheVariants.{ALoad, InvokeSpecial, Return}
use Rattle.th_syntax.specs.declared.refusal.Flaw.{Flaw}
use Rattle.th_syntax.specs.Flaws.{flaw_at}

-- a Utf8 entry of fewer than 256 bytes
abbrev pub text_entry : List ℕ → List ℕ
text_entry text = 1 ∷ 0 ∷ length text ∷ text

-- ---- an Activity with a constructor

-- its constant pool, of nine entries, and its one method
abbrev pub activity_pool : List ℕ
activity_pool =
    0 ∷ 10 ∷ concat (
    (7 ∷ 0 ∷ 2 ∷ [])
    ∷ text_entry (codes "Act")
    ∷ (7 ∷ 0 ∷ 4 ∷ [])
    ∷ text_entry (codes "android/app/Activity")
    ∷ text_entry (codes "<init>")
    ∷ text_entry (codes "()V")
    ∷ text_entry (codes "Code")
    ∷ (10 ∷ 0 ∷ 3 ∷ 0 ∷ 9 ∷ [])
    ∷ (12 ∷ 0 ∷ 5 ∷ 0 ∷ 6 ∷ [])
    ∷ [])

-- aload_0, invokespecial, return
abbrev pub constructor_bytes : List ℕ
constructor_bytes =
    0 ∷ 1 ∷ 0 ∷ 5 ∷ 0 ∷ 6 ∷ 0 ∷ 1
    ∷ 0 ∷ 7 ∷ 0 ∷ 0 ∷ 0 ∷ 17 ∷ 0 ∷ 1 ∷ 0 ∷ 1 ∷ 0 ∷ 0 ∷ 0 ∷ 5 ∷ 42 ∷ 183 ∷ 0 ∷ 8 ∷ 177 ∷ 0 ∷ 0 ∷ 0 ∷ 0 ∷ []

-- a file of Java SE 8 with this pool, the class of the entry 1, the superclass of the entry 3, and its
-- interfaces and what follows
abbrev pub file_with : List ℕ → List ℕ → List ℕ
file_with pool members = 0xca ∷ 0xfe ∷ 0xba ∷ 0xbe ∷ 0 ∷ 0 ∷ 0 ∷ 52 ∷ pool ++ (0 ∷ 33 ∷ 0 ∷ 1 ∷ 0 ∷ 3 ∷ members)

abbrev pub activity_bytes : List ℕ
activity_bytes = file_with activity_pool (0 ∷ 0 ∷ 0 ∷ 0 ∷ 0 ∷ 1 ∷ constructor_bytes ++ (0 ∷ 0 ∷ []))

abbrev pub activity_value : ClassFile
activity_value = record {
  major = 52;
  access = 33;
  name = codes "Act";
  super_name = Some (codes "android/app/Activity");
  interfaces = [];
  fields = [];
  methods = record {
    access = 1;
    name = codes "<init>";
    descriptor = codes "()V";
    constant = None;
    code = Some record {
      max_stack = 1;
      max_locals = 1;
      instrs =
          (0, ALoad 0) ∷ (1, InvokeSpecial record { owner = codes "android/app/Activity"; name = codes "<init>"; descriptor = codes "()V" })
          ∷ (4, Return) ∷ [];
      handlers = 0;
    };
  } ∷ [];
}

-- The file with another byte at an offset, and its first flaw.
pub record Edit : Type 0 where
  pub at : ℕ
  pub byte : ℕ
  pub flaw : Flaw

abbrev pub edit : ℕ → ℕ → ℕ → ℕ → Edit
edit at byte number offset = record { at = at; byte = byte; flaw = flaw_at number offset }

abbrev pub edits : List Edit
edits =
    -- the magic number, and the version
    edit 3 0xbf cause.NOT_CLASS 0
    ∷ edit 7 44 cause.VERSION 6
    ∷ edit 7 53 cause.VERSION 6
    -- the pool: its count, a tag that there isn't, a Long at the last index, entries and indices that lead to a wrong tag
    ∷ edit 9 0 cause.POOL 8
    ∷ edit 9 1 cause.TRUNCATED 122
    ∷ edit 10 2 cause.POOL 10
    ∷ edit 72 5 cause.POOL 72
    ∷ edit 12 3 cause.POOL 10
    ∷ edit 12 99 cause.POOL 10
    ∷ edit 69 2 cause.POOL 67
    ∷ edit 71 2 cause.POOL 67
    ∷ edit 76 1 cause.POOL 72
    ∷ edit 80 2 cause.POOL 79
    ∷ edit 80 0 cause.POOL 79
    ∷ edit 82 2 cause.POOL 81
    ∷ edit 92 1 cause.POOL 91
    ∷ edit 94 1 cause.POOL 93
    ∷ edit 98 1 cause.POOL 97
    -- names and descriptors: of the class, of its superclass, of the method
    ∷ edit 16 0x3b cause.NAME 79
    ∷ edit 25 0x2f cause.NAME 81
    ∷ edit 53 0x69 cause.NAME 91
    ∷ edit 57 0x56 cause.NAME 93
    ∷ edit 59 0x46 cause.FLOAT_TYPE 93
    -- the flags of a native method, and of an interface
    ∷ edit 89 1 cause.NATIVE 89
    ∷ edit 77 2 cause.INTERFACE_CODE 89
    -- no attribute where there is one, and lengths that go past the end
    ∷ edit 96 0 cause.TRUNCATED 105
    ∷ edit 99 0x7f cause.TRUNCATED 103
    ∷ edit 102 0x12 cause.TRUNCATED 121
    -- the lengths inside the code, and a code of no bytes
    ∷ edit 110 4 cause.ATTRIBUTE 97
    ∷ edit 117 1 cause.ATTRIBUTE 97
    -- fadd, aload_1, the index of an entry of another tag, and a nop in place of the return
    ∷ edit 111 0x62 cause.OPCODE 111
    ∷ edit 111 0x2b cause.CODE_SHAPE 111
    ∷ edit 114 7 cause.CODE_SHAPE 112
    ∷ edit 115 0 cause.CODE_SHAPE 115
    ∷ []

-- The file with another byte at an offset that is taken too: of the first version, without a superclass,
-- and with itself as its superclass.
abbrev pub taken_edits : List (ℕ × ℕ × ClassFile)
taken_edits =
    (7, 45, record activity_value { major = 45 })
    ∷ (82, 0, record activity_value { super_name = None })
    ∷ (82, 1, record activity_value { super_name = Some (codes "Act") })
    ∷ []

-- how long a front of the file is, and where the item starts that goes past its end
abbrev pub fronts : List (ℕ × ℕ)
fronts = (4, 4) ∷ (7, 6) ∷ (9, 8) ∷ (22, 22) ∷ (44, 25) ∷ (69, 68) ∷ (78, 77) ∷ (98, 97) ∷ (102, 99) ∷ (119, 103) ∷ (121, 120) ∷ []

-- ---- interfaces, exception tables and attributes

-- `return` with an exception table of one entry and an attribute inside
abbrev pub handled_bytes : List ℕ
handled_bytes =
    0 ∷ 1 ∷ 0 ∷ 2 ∷ 0 ∷ 6 ∷ 0 ∷ 1
    ∷ 0 ∷ 7 ∷ 0 ∷ 0 ∷ 0 ∷ 28 ∷ 0 ∷ 3 ∷ 0 ∷ 4 ∷ 0 ∷ 0 ∷ 0 ∷ 1 ∷ 177
    ∷ 0 ∷ 1 ∷ 9 ∷ 9 ∷ 9 ∷ 9 ∷ 9 ∷ 9 ∷ 9 ∷ 9 ∷ 0 ∷ 1 ∷ 9 ∷ 9 ∷ 0 ∷ 0 ∷ 0 ∷ 1 ∷ 9 ∷ []

-- the pool above with the descriptor of an int
abbrev pub interfaces_pool : List ℕ
interfaces_pool = 0 ∷ 11 ∷ drop 2 activity_pool ++ text_entry (codes "I")

-- two interfaces, a field and a method, and attributes of the field and of the class that are skipped
abbrev pub interfaces_bytes : List ℕ
interfaces_bytes =
    file_with interfaces_pool
    (0 ∷ 2 ∷ 0 ∷ 3 ∷ 0 ∷ 1 ∷ 0 ∷ 1 ∷ 0 ∷ 2 ∷ 0 ∷ 2 ∷ 0 ∷ 10 ∷ 0 ∷ 1 ∷ 0 ∷ 2 ∷ 0 ∷ 0 ∷ 0 ∷ 1 ∷ 9
    ∷ 0 ∷ 1 ∷ handled_bytes ++ (0 ∷ 1 ∷ 0 ∷ 7 ∷ 0 ∷ 0 ∷ 0 ∷ 2 ∷ 9 ∷ 9 ∷ []))

abbrev pub interfaces_value : ClassFile
interfaces_value = record {
  major = 52;
  access = 33;
  name = codes "Act";
  super_name = Some (codes "android/app/Activity");
  interfaces = codes "android/app/Activity" ∷ codes "Act" ∷ [];
  fields = record { access = 2; name = codes "Act"; descriptor = codes "I"; constant = None; code = None } ∷ [];
  methods = record {
    access = 1;
    name = codes "Act";
    descriptor = codes "()V";
    constant = None;
    code = Some record { max_stack = 3; max_locals = 4; instrs = (0, Return) ∷ []; handlers = 1 };
  } ∷ [];
}

-- the same with the second interface of another entry, and with an ill-formed name
abbrev pub interface_edits : List Edit
interface_edits = edit 92 2 cause.POOL 91 ∷ edit 16 0x2e cause.NAME 83 ∷ []

-- ---- a class with a constant of each type

-- the class C, an Integer, a Long and a String, and the descriptors of fields
abbrev pub constants_pool : List ℕ
constants_pool =
    0 ∷ 20 ∷ concat (
    (7 ∷ 0 ∷ 2 ∷ [])
    ∷ text_entry (codes "C")
    ∷ (7 ∷ 0 ∷ 4 ∷ [])
    ∷ text_entry (codes "java/lang/Object")
    ∷ text_entry (codes "ConstantValue")
    ∷ (3 ∷ 255 ∷ 255 ∷ 255 ∷ 249 ∷ [])
    ∷ (5 ∷ 0 ∷ 0 ∷ 0 ∷ 1 ∷ 0 ∷ 0 ∷ 0 ∷ 2 ∷ [])
    ∷ (8 ∷ 0 ∷ 10 ∷ [])
    ∷ text_entry (codes "text")
    ∷ text_entry (codes "Z")
    ∷ text_entry (codes "B")
    ∷ text_entry (codes "C")
    ∷ text_entry (codes "S")
    ∷ text_entry (codes "I")
    ∷ text_entry (codes "J")
    ∷ text_entry (codes "Ljava/lang/String;")
    ∷ text_entry (codes "Ljava/lang/Object;")
    ∷ text_entry (codes "[I")
    ∷ [])

-- a ConstantValue attribute
abbrev pub value_bytes : ℕ → List ℕ
value_bytes index = 0 ∷ 5 ∷ 0 ∷ 0 ∷ 0 ∷ 2 ∷ 0 ∷ index ∷ []

-- a field, by its flags, by the index of its descriptor, and by its attributes
abbrev pub field_bytes : ℕ → ℕ → List (List ℕ) → List ℕ
field_bytes access descriptor attributes = 0 ∷ access ∷ 0 ∷ 2 ∷ 0 ∷ descriptor ∷ 0 ∷ length attributes ∷ concat attributes

abbrev pub constants_bytes : List (List ℕ) → List ℕ
constants_bytes fields = file_with constants_pool (0 ∷ 0 ∷ 0 ∷ length fields ∷ concat fields ++ (0 ∷ 0 ∷ 0 ∷ 0 ∷ []))

-- a static field of each type that takes a constant, a static one without, and one of an object with a
-- ConstantValue, which is skipped
abbrev pub constant_fields : List (List ℕ)
constant_fields =
    field_bytes 8 11 (value_bytes 6 ∷ [])
    ∷ field_bytes 8 12 (value_bytes 6 ∷ [])
    ∷ field_bytes 8 13 (value_bytes 6 ∷ [])
    ∷ field_bytes 8 14 (value_bytes 6 ∷ [])
    ∷ field_bytes 8 15 (value_bytes 6 ∷ [])
    ∷ field_bytes 8 16 (value_bytes 7 ∷ [])
    ∷ field_bytes 8 17 (value_bytes 9 ∷ [])
    ∷ field_bytes 8 18 []
    ∷ field_bytes 0 19 (value_bytes 6 ∷ [])
    ∷ []

abbrev pub field_of : ℕ → List ℕ → Option Constant → Member
field_of access descriptor value = record { access = access; name = codes "C"; descriptor = descriptor; constant = value; code = None }

abbrev pub constants_value : ClassFile
constants_value = record {
  major = 52;
  access = 33;
  name = codes "C";
  super_name = Some (codes "java/lang/Object");
  interfaces = [];
  fields =
      field_of 8 (codes "Z") (Some (constant.Int (negsuc 6)))
      ∷ field_of 8 (codes "B") (Some (constant.Int (negsuc 6)))
      ∷ field_of 8 (codes "C") (Some (constant.Int (negsuc 6)))
      ∷ field_of 8 (codes "S") (Some (constant.Int (negsuc 6)))
      ∷ field_of 8 (codes "I") (Some (constant.Int (negsuc 6)))
      ∷ field_of 8 (codes "J") (Some (constant.Long (pos 4294967298)))
      ∷ field_of 8 (codes "Ljava/lang/String;") (Some (constant.Str (codes "text")))
      ∷ field_of 8 (codes "Ljava/lang/Object;") None
      ∷ field_of 0 (codes "[I") None
      ∷ [];
  methods = [];
}

-- A single field that is refused: an int with a Long and with a String, a long with an Integer, a String
-- with a Long, an Object and an array with constants, a value of three bytes, and two values. The field
-- stands at the offset 160, its attribute at 168, and a second one at 176.
abbrev pub refused_fields : List (List ℕ × Flaw)
refused_fields =
    (field_bytes 8 15 (value_bytes 7 ∷ []), flaw_at cause.ATTRIBUTE 168)
    ∷ (field_bytes 8 11 (value_bytes 9 ∷ []), flaw_at cause.ATTRIBUTE 168)
    ∷ (field_bytes 8 16 (value_bytes 6 ∷ []), flaw_at cause.ATTRIBUTE 168)
    ∷ (field_bytes 8 17 (value_bytes 7 ∷ []), flaw_at cause.ATTRIBUTE 168)
    ∷ (field_bytes 8 18 (value_bytes 9 ∷ []), flaw_at cause.ATTRIBUTE 168)
    ∷ (field_bytes 8 19 (value_bytes 6 ∷ []), flaw_at cause.ATTRIBUTE 168)
    ∷ (field_bytes 8 15 ((0 ∷ 5 ∷ 0 ∷ 0 ∷ 0 ∷ 3 ∷ 0 ∷ 6 ∷ 0 ∷ []) ∷ []), flaw_at cause.ATTRIBUTE 168)
    ∷ (field_bytes 8 15 (value_bytes 6 ∷ value_bytes 6 ∷ []), flaw_at cause.ATTRIBUTE 176)
    -- a field named like a class, and one with the descriptor of none
    ∷ (0 ∷ 8 ∷ 0 ∷ 4 ∷ 0 ∷ 15 ∷ 0 ∷ 0 ∷ [], flaw_at cause.NAME 162)
    ∷ (field_bytes 8 5 [], flaw_at cause.NAME 164)
    ∷ []
