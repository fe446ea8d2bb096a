-- The entries of the constant pool that a class needs, each by what it stands for in place of indices
-- (Java specification 4.4), and the pool that has each of them once.
use Rattle.std.specs.Prelude.{ℕ, ◌+◌, ◌&&◌, int_le, Bool, false, List, [], ◌∷◌, ◌++◌, codes, fold, ℤ, pos, negsuc, if◌then◌else◌}
use Rattle.std.specs.List.{flat_map, list_any}
use Rattle.std.specs.Ordering.{int_eq}
use Rattle.std.specs.Str.{bytes_eq}
use Rattle.th_syntax.specs.declared.instr.MemberRef.{MemberRef}
use Rattle.th_syntax.specs.Refs.{is_same_ref}
use Rattle.th_syntax.specs.declared.instr.Instr.{Instr}
use Rattle.th_syntax.specs.declared.instr.Instr.TheVariants.{Int, Long, Str, GetStatic, PutStatic, GetField, PutField, InvokeVirtual, InvokeSpecial, InvokeInterface, InvokeStatic, New, ANewArray, CheckCast, InstanceOf}
use Rattle.th_gen.specs.declared.item.PoolItem.{PoolItem}
use Rattle.th_gen.specs.declared.item.PoolItem.TheVariants.{Utf8, Integer, LongInteger, ClassName, StringText, NameAndType, FieldRef, MethodRef, InterfaceMethodRef}
use Rattle.th_gen.specs.declared.draft.ClassWriter.{ClassWriter}
use Rattle.th_gen.specs.declared.draft.DraftField.{DraftField}
use Rattle.th_gen.specs.declared.draft.DraftMethod.{DraftMethod}

-- ---- the entries of each part

-- a class, by the text of its name
abbrev pub class_items : List ℕ → List PoolItem
class_items name = Utf8 name ∷ ClassName name ∷ []

-- a string, by its text
abbrev pub string_items : List ℕ → List PoolItem
string_items text = Utf8 text ∷ StringText text ∷ []

-- a name and a descriptor
abbrev pub named_items : List ℕ → List ℕ → List PoolItem
named_items name descriptor = Utf8 name ∷ Utf8 descriptor ∷ NameAndType name descriptor ∷ []

-- a member of a class
abbrev pub member_items : (MemberRef → PoolItem) → MemberRef → List PoolItem
member_items make m = class_items m.owner ++ (named_items m.name m.descriptor ++ make m ∷ [])

-- whether an int lies between two
abbrev pub is_within : ℤ → ℤ → ℤ → Bool
is_within low high value = int_le low value && int_le value high

-- whether sipush, or a shorter spelling, has room for an int
abbrev pub is_short : ℤ → Bool
is_short value = is_within (negsuc 32767) (pos 32767) value

-- whether lconst_0 or lconst_1 loads a long
abbrev pub is_small_long : ℤ → Bool
is_small_long value = is_within (pos 0) (pos 1) value

-- an instruction whose operand is a constant or a name
abbrev pub instr_items : Instr → List PoolItem
instr_items (Int value) = if is_short value then [] else Integer value ∷ []
instr_items (Long value) = if is_small_long value then [] else LongInteger value ∷ []
instr_items (Str text) = string_items text
instr_items (GetStatic f) = member_items FieldRef f
instr_items (PutStatic f) = member_items FieldRef f
instr_items (GetField f) = member_items FieldRef f
instr_items (PutField f) = member_items FieldRef f
instr_items (InvokeVirtual m) = member_items MethodRef m
instr_items (InvokeSpecial m) = member_items MethodRef m
instr_items (InvokeStatic m) = member_items MethodRef m
instr_items (InvokeInterface m) = member_items InterfaceMethodRef m
instr_items (New name) = class_items name
instr_items (ANewArray name) = class_items name
instr_items (CheckCast name) = class_items name
instr_items (InstanceOf name) = class_items name
instr_items other = []

-- the name and the descriptor of a member
abbrev pub header_items : List ℕ → List ℕ → List PoolItem
header_items name descriptor = Utf8 name ∷ Utf8 descriptor ∷ []

abbrev pub field_items : DraftField → List PoolItem
field_items f = header_items f.name f.descriptor

-- a method without instructions has no code
abbrev pub code_items : List Instr → List PoolItem
code_items [] = []
code_items (i ∷ instrs) = Utf8 (codes "Code") ∷ flat_map instr_items (i ∷ instrs)

abbrev pub method_items : DraftMethod → List PoolItem
method_items m = header_items m.name m.descriptor ++ code_items m.instrs

abbrev pub items_of : ClassWriter → List PoolItem
items_of w = class_items w.name ++ (class_items w.super_name ++ (flat_map field_items w.fields ++ flat_map method_items w.methods))

-- ---- the pool

-- two entries stand for the same
abbrev pub is_same_item : PoolItem → PoolItem → Bool
is_same_item (Utf8 a) (Utf8 b) = bytes_eq a b
is_same_item (Integer a) (Integer b) = int_eq a b
is_same_item (LongInteger a) (LongInteger b) = int_eq a b
is_same_item (ClassName a) (ClassName b) = bytes_eq a b
is_same_item (StringText a) (StringText b) = bytes_eq a b
is_same_item (NameAndType a c) (NameAndType b d) = bytes_eq a b && bytes_eq c d
is_same_item (FieldRef a) (FieldRef b) = is_same_ref a b
is_same_item (MethodRef a) (MethodRef b) = is_same_ref a b
is_same_item (InterfaceMethodRef a) (InterfaceMethodRef b) = is_same_ref a b
is_same_item a b = false

-- the entries with one more, unless it stands among them
abbrev pub with_item : List PoolItem → PoolItem → List PoolItem
with_item pool item = if list_any (is_same_item item) pool then pool else pool ++ item ∷ []

abbrev pub with_items : List PoolItem → List PoolItem → List PoolItem
with_items pool items = fold with_item pool items

-- the entries that a class needs, each once, in the order in which they are first needed
unfoldable pub pool_of : ClassWriter → List PoolItem
pool_of w = with_items [] (items_of w)

-- how many indices an entry takes (Java specification 4.4.5)
abbrev pub width : PoolItem → ℕ
width (LongInteger value) = 2
width other = 1

-- the indices of entries, the first of which has this one
abbrev pub indices_from : ℕ → List PoolItem → List ℕ
indices_from n [] = []
indices_from n (item ∷ items) = n ∷ indices_from (n + width item) items

-- the index behind these entries
abbrev pub index_behind : ℕ → List PoolItem → ℕ
index_behind n [] = n
index_behind n (item ∷ items) = index_behind (n + width item) items

-- constant_pool_count, one more than there are indices (Java specification 4.1)
unfoldable pub pool_count : List PoolItem → ℕ
pool_count pool = index_behind 1 pool

-- the index of the first of these entries that stands for the same, where the first of all has this
-- one; 0 where there is none
abbrev pub index_from : ℕ → List PoolItem → PoolItem → ℕ
index_from n [] item = 0
index_from n (x ∷ xs) item = if is_same_item item x then n else index_from (n + width x) xs item

-- the index of an entry
unfoldable pub index_of : List PoolItem → PoolItem → ℕ
index_of pool item = index_from 1 pool item
