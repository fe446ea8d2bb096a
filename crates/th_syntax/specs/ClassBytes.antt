-- The items of a class file, in the order in which they stand in its bytes (Java specification 4.1 to 4.7).
use Rattle.std.specs.Prelude.{ℕ, zero, suc, ◌+◌, ◌*◌, ◌-◌, ◌^◌, ◌==◌, ◌&&◌, ◌||◌, not, nat_le, nat_lt, List, [], ◌∷◌, Bool, true, false, Option, Some, None, ℤ, if◌then◌else◌}
use Rattle.std.specs.Int.{w32, w64, cast_signed}
use Rattle.th_syntax.specs.declared.cause.TheConstants as cause
use Rattle.th_syntax.specs.declared.limit.TheConstants.{OLDEST_MAJOR, NEWEST_MAJOR}
use Rattle.th_syntax.specs.declared.tag.TheConstants as tag
use Rattle.th_syntax.specs.Forms.{Form, whole, item, wrong, ◌>>=◌, Placed, number_of}

-- ---- items

-- an unsigned number of so many bytes (Java specification 4)
unfoldable pub number : ℕ → Form (Placed ℕ)
number n = item n (λ at bytes. whole (record { at = at; value = number_of bytes }))

abbrev pub u1 : Form (Placed ℕ)
u1 = number 1

abbrev pub u2 : Form (Placed ℕ)
u2 = number 2

abbrev pub u4 : Form (Placed ℕ)
u4 = number 4

-- a run of so many bytes
unfoldable pub run : ℕ → Form (Placed (List ℕ))
run n = item n (λ at bytes. whole (record { at = at; value = bytes }))

-- nothing, where the test holds; else nothing may follow
unfoldable pub demand : Bool → ℕ → ℕ → Form (Unit {0})
demand true at number = whole tt
demand false at number = wrong at number

-- so many of one kind, in a row
unfoldable pub times : {A : Type 0} → ℕ → Form A → Form (List A)
times zero form = whole []
times (suc n) form = do
  first ← form
  others ← times n form
  whole (first ∷ others)

-- a count, and so many of one kind
unfoldable pub counted : {A : Type 0} → Form A → Form (List A)
counted form = do
  count ← u2
  times count.value form

-- ---- the constant pool (Java specification 4.4)

-- An entry. The numbers are indices of entries. Of a Float, a Double, a MethodHandle, a MethodType
-- and an InvokeDynamic entry nothing is looked at.
pub data Entry : Type 0 where
  utf8 : List ℕ → Entry
  integer : ℤ → Entry
  float : Entry
  long : ℤ → Entry
  double : Entry
  class : ℕ → Entry
  string : ℕ → Entry
  field : ℕ → ℕ → Entry
  method : ℕ → ℕ → Entry
  interface_method : ℕ → ℕ → Entry
  name_and_type : ℕ → ℕ → Entry
  method_handle : Entry
  method_type : Entry
  invoke_dynamic : Entry

-- the tag of an entry (Java specification, table 4.4-A)
abbrev pub tag_of : Entry → ℕ
tag_of (utf8 bytes) = tag.UTF8
tag_of (integer value) = tag.INTEGER
tag_of float = tag.FLOAT
tag_of (long value) = tag.LONG
tag_of double = tag.DOUBLE
tag_of (class name) = tag.CLASS
tag_of (string text) = tag.STRING
tag_of (field owner member) = tag.FIELD
tag_of (method owner member) = tag.METHOD
tag_of (interface_method owner member) = tag.INTERFACE_METHOD
tag_of (name_and_type name descriptor) = tag.NAME_AND_TYPE
tag_of method_handle = tag.METHOD_HANDLE
tag_of method_type = tag.METHOD_TYPE
tag_of invoke_dynamic = tag.INVOKE_DYNAMIC

-- whether there are entries of this tag
abbrev pub is_tag : ℕ → Bool
is_tag t =
    t == tag.UTF8 || (nat_le tag.INTEGER t && nat_le t tag.NAME_AND_TYPE)
    || t == tag.METHOD_HANDLE || t == tag.METHOD_TYPE || t == tag.INVOKE_DYNAMIC

-- whether an entry of this tag takes two indices, the second of which leads to nothing: a Long or a
-- Double (Java specification 4.4.5)
abbrev pub is_wide : ℕ → Bool
is_wide t = t == tag.LONG || t == tag.DOUBLE

-- two indices, and two numbers of four bytes
unfoldable pub two_indices : Form (ℕ × ℕ)
two_indices = do
  first ← u2
  second ← u2
  whole (first.value, second.value)

unfoldable pub two_words : Form (ℕ × ℕ)
two_words = do
  high ← u4
  low ← u4
  whole (high.value, low.value)

-- a text of as many bytes as its length says
unfoldable pub text : Form (List ℕ)
text = do
  length ← u2
  bytes ← run length.value
  whole bytes.value

-- the kind of a method handle and an index
unfoldable pub handle : Form (ℕ × ℕ)
handle = do
  kind ← u1
  reference ← u2
  whole (kind.value, reference.value)

-- what stands behind a tag, and the entry that it makes
unfoldable pub content : ℕ → Form Entry
content t =
    if t == tag.UTF8 then (do bytes ← text; whole (utf8 bytes))
    else if t == tag.INTEGER then (do value ← u4; whole (integer (cast_signed w32 value.value)))
    else if t == tag.FLOAT then (do value ← u4; whole float)
    else if t == tag.LONG then (do words ← two_words; whole (long (cast_signed w64 (words.0 * 2 ^ 32 + words.1))))
    else if t == tag.DOUBLE then (do words ← two_words; whole double)
    else if t == tag.CLASS then (do name ← u2; whole (class name.value))
    else if t == tag.STRING then (do bytes ← u2; whole (string bytes.value))
    else if t == tag.FIELD then (do pair ← two_indices; whole (field pair.0 pair.1))
    else if t == tag.METHOD then (do pair ← two_indices; whole (method pair.0 pair.1))
    else if t == tag.INTERFACE_METHOD then (do pair ← two_indices; whole (interface_method pair.0 pair.1))
    else if t == tag.NAME_AND_TYPE then (do pair ← two_indices; whole (name_and_type pair.0 pair.1))
    else if t == tag.METHOD_HANDLE then (do reference ← handle; whole method_handle)
    else if t == tag.METHOD_TYPE then (do descriptor ← u2; whole method_type)
    else (do pair ← two_indices; whole invoke_dynamic)

-- An entry, with the offset of its tag, where `left` more indices follow its own. A tag that there
-- isn't, and a Long or Double whose second index isn't below the count, are refused at the tag.
unfoldable pub entry : ℕ → Form (Placed Entry)
entry left = do
  first ← u1
  known ← demand (is_tag first.value && not (is_wide first.value && left == 0)) first.at cause.POOL
  value ← content first.value
  whole (record { at = first.at; value = value })

-- What the indices of the pool lead to, from index 0 on: index 0 and the second index of a Long or
-- Double lead to nothing (Java specification 4.1 and 4.4.5).
abbrev pub Pool : Type 0
Pool = List (Option (Placed Entry))

-- what the next index leads to, where `left` more follow it; `second` says that it is the second index
-- of the entry before
unfoldable pub slot : Bool → ℕ → Form (Option (Placed Entry))
slot true left = whole None
slot false left = do
  one ← entry left
  whole (Some one)

-- whether the index behind this one is the second of the same entry
abbrev pub takes_two : Option (Placed Entry) → Bool
takes_two None = false
takes_two (Some one) = is_wide (tag_of one.value)

-- the next so many indices
unfoldable pub slots : Bool → ℕ → Form Pool
slots second zero = whole []
slots second (suc left) = do
  first ← slot second left
  others ← slots (takes_two first) left
  whole (first ∷ others)

-- the pool, from its count on; a count of 0 is refused at the count
unfoldable pub pool : Form Pool
pool = do
  count ← u2
  counts ← demand (nat_lt 0 count.value) count.at cause.POOL
  others ← slots false (count.value - 1)
  whole (None ∷ others)

-- ---- attributes and members

-- an attribute: the index of its name, and as many bytes as it says (Java specification 4.7)
pub record Attribute : Type 0 where
  pub name : Placed ℕ
  pub content : Placed (List ℕ)

unfoldable pub attribute : Form Attribute
attribute = do
  name ← u2
  length ← u4
  content ← run length.value
  whole (record { name = name; content = content })

-- a field or a method (Java specification 4.5 and 4.6)
pub record RawMember : Type 0 where
  pub access : Placed ℕ
  pub name : Placed ℕ
  pub descriptor : Placed ℕ
  pub attributes : List Attribute

unfoldable pub member : Form RawMember
member = do
  access ← u2
  name ← u2
  descriptor ← u2
  attributes ← counted attribute
  whole (record { access = access; name = name; descriptor = descriptor; attributes = attributes })

-- ---- the file

-- a class file behind its magic number (Java specification 4.1)
pub record RawClass : Type 0 where
  pub major : ℕ
  pub pool : Pool
  pub access : Placed ℕ
  pub this_class : Placed ℕ
  pub super_class : Placed ℕ
  pub interfaces : List (Placed ℕ)
  pub fields : List RawMember
  pub methods : List RawMember
  pub attributes : List Attribute

-- a version is refused at its major number
unfoldable pub class_file : Form RawClass
class_file = do
  minor ← u2
  major ← u2
  known ← demand (nat_le OLDEST_MAJOR major.value && nat_le major.value NEWEST_MAJOR) major.at cause.VERSION
  entries ← pool
  access ← u2
  this_class ← u2
  super_class ← u2
  interfaces ← counted u2
  fields ← counted member
  methods ← counted member
  attributes ← counted attribute
  whole (record {
    major = major.value;
    pool = entries;
    access = access;
    this_class = this_class;
    super_class = super_class;
    interfaces = interfaces;
    fields = fields;
    methods = methods;
    attributes = attributes;
  })

-- the magic number that a class file begins with
abbrev pub magic : List ℕ
magic = 0xca ∷ 0xfe ∷ 0xba ∷ 0xbe ∷ []

-- ---- the code of a method (Java specification 4.7.3)

-- the content of a Code attribute
pub record RawCode : Type 0 where
  pub max_stack : ℕ
  pub max_locals : ℕ
  pub length : Placed ℕ
  pub bytes : Placed (List ℕ)
  -- how many entries the exception table has
  pub handlers : ℕ

unfoldable pub code : Form RawCode
code = do
  max_stack ← u2
  max_locals ← u2
  length ← u4
  bytes ← run length.value
  handlers ← u2
  table ← run (8 * handlers.value)
  attributes ← counted attribute
  whole (record { max_stack = max_stack.value; max_locals = max_locals.value; length = length; bytes = bytes; handlers = handlers.value })
