-- The bytes of a class, as one concatenation of its items (Java specification 4.1 and 4.4 to 4.7), and
-- where they have room.
use Rattle.std.specs.Prelude.{ℕ, ◌+◌, ◌-◌, ◌/◌, ◌%◌, ◌^◌, ◌&&◌, nat_le, Bool, true, List, [], ◌∷◌, ◌++◌, length, take, codes}
use Rattle.std.specs.List.{flat_map, list_all}
use Rattle.std.specs.Int.{w8, w16, w32, w64, to_be_bytes, cast_unsigned}
use Rattle.th_syntax.specs.declared.opcode.TheConstants as opcode
use Rattle.th_syntax.specs.declared.tag.TheConstants as tag
use Rattle.th_syntax.specs.ClassBytes.{magic}
use Rattle.th_syntax.specs.declared.limit.TheConstants.{MOST_CODE_BYTES}
use Rattle.th_syntax.specs.declared.instr.MemberRef.{MemberRef}
use Rattle.th_syntax.specs.declared.instr.Instr.{Instr}
use Rattle.th_syntax.specs.declared.instr.Instr.TheVariants.{TableSwitch, LookupSwitch}
use Rattle.th_gen.specs.declared.item.PoolItem.{PoolItem}
use Rattle.th_gen.specs.declared.item.PoolItem.TheVariants.{Utf8, Integer, LongInteger, ClassName, StringText, NameAndType, FieldRef, MethodRef, InterfaceMethodRef}
use Rattle.th_gen.specs.declared.draft.ClassWriter.{ClassWriter}
use Rattle.th_gen.specs.declared.draft.DraftField.{DraftField}
use Rattle.th_gen.specs.declared.draft.DraftMethod.{DraftMethod}
use Rattle.th_gen.specs.declared.spelling.Spelling.{Spelling}
use Rattle.th_gen.specs.declared.spelling.Spelling.TheVariants.{Bare, Byte, Short, Wide, Increment, WideIncrement, Branch, Interface, Switch}
use Rattle.th_gen.specs.Items.{pool_of, pool_count, index_of}
use Rattle.th_gen.specs.Spellings.{spelling_of}
use Rattle.th_gen.specs.Placing.{padding_size, start_at, starts_of, code_length, all_reach}

-- ---- numbers, the high byte first (Java specification 4)

unfoldable pub u2 : ℕ → List ℕ
u2 n = to_be_bytes w16 n

unfoldable pub u4 : ℕ → List ℕ
u4 n = to_be_bytes w32 n

-- ---- the pool

abbrev pub ref_bytes : List PoolItem → MemberRef → List ℕ
ref_bytes pool m = u2 (index_of pool (ClassName m.owner)) ++ u2 (index_of pool (NameAndType m.name m.descriptor))

-- an entry: its tag, and what the tag asks for
abbrev pub entry_bytes : List PoolItem → PoolItem → List ℕ
entry_bytes pool (Utf8 text) = tag.UTF8 ∷ (u2 (length text) ++ text)
entry_bytes pool (Integer value) = tag.INTEGER ∷ u4 (cast_unsigned w32 value)
entry_bytes pool (LongInteger value) = tag.LONG ∷ (u4 (cast_unsigned w64 value / 2 ^ 32) ++ u4 (cast_unsigned w64 value % 2 ^ 32))
entry_bytes pool (ClassName name) = tag.CLASS ∷ u2 (index_of pool (Utf8 name))
entry_bytes pool (StringText text) = tag.STRING ∷ u2 (index_of pool (Utf8 text))
entry_bytes pool (NameAndType name descriptor) = tag.NAME_AND_TYPE ∷ (u2 (index_of pool (Utf8 name)) ++ u2 (index_of pool (Utf8 descriptor)))
entry_bytes pool (FieldRef f) = tag.FIELD ∷ ref_bytes pool f
entry_bytes pool (MethodRef m) = tag.METHOD ∷ ref_bytes pool m
entry_bytes pool (InterfaceMethodRef m) = tag.INTERFACE_METHOD ∷ ref_bytes pool m

unfoldable pub pool_bytes : List PoolItem → List ℕ
pool_bytes pool = u2 (pool_count pool) ++ flat_map (entry_bytes pool) pool

-- ---- the code

-- the offset of two bytes, or of four, that leads from `pc` to another offset in the code
abbrev pub near : ℕ → ℕ → List ℕ
near pc to = u2 ((to + (2 ^ 16 - pc)) % 2 ^ 16)

abbrev pub far : ℕ → ℕ → List ℕ
far pc to = u4 ((to + (2 ^ 32 - pc)) % 2 ^ 32)

-- the operands of a switch (Java specification 6.5, tableswitch and lookupswitch)
abbrev pub switch_operands : List ℕ → ℕ → Instr → List ℕ
switch_operands starts pc (TableSwitch low places other) =
    take (padding_size pc) (0 ∷ 0 ∷ 0 ∷ [])
    ++ (far pc (start_at starts other)
    ++ (u4 (cast_unsigned w32 low)
    ++ (u4 ((cast_unsigned w32 low + (length places - 1)) % 2 ^ 32)
    ++ flat_map (λ place. far pc (start_at starts place)) places)))
switch_operands starts pc (LookupSwitch pairs other) =
    take (padding_size pc) (0 ∷ 0 ∷ 0 ∷ [])
    ++ (far pc (start_at starts other)
    ++ (u4 (length pairs)
    ++ flat_map (λ pair. u4 (cast_unsigned w32 pair.0) ++ far pc (start_at starts pair.1)) pairs))
switch_operands starts pc other = []

-- a switch has no more targets than code has bytes
abbrev pub switch_fits : Instr → Bool
switch_fits (TableSwitch low places other) = nat_le (length places) 65535
switch_fits (LookupSwitch pairs other) = nat_le (length pairs) 65535
switch_fits other = true

-- the bytes of an instruction of this spelling, at `pc`, where the instructions stand at `starts`
abbrev pub spelled_by : List ℕ → ℕ → Instr → Spelling → List ℕ
spelled_by starts pc i (Bare code) = code ∷ []
spelled_by starts pc i (Byte code operand) = code ∷ operand ∷ []
spelled_by starts pc i (Short code operand) = code ∷ u2 operand
spelled_by starts pc i (Wide code index) = opcode.WIDE ∷ code ∷ u2 index
spelled_by starts pc i (Increment index by) = opcode.IINC ∷ index ∷ cast_unsigned w8 by ∷ []
spelled_by starts pc i (WideIncrement index by) = opcode.WIDE ∷ opcode.IINC ∷ (u2 index ++ u2 (cast_unsigned w16 by))
spelled_by starts pc i (Branch code place) = code ∷ near pc (start_at starts place)
spelled_by starts pc i (Interface index) = opcode.INVOKEINTERFACE ∷ (u2 index ++ 1 ∷ 0 ∷ [])
spelled_by starts pc i (Switch code) = code ∷ switch_operands starts pc i

unfoldable pub instr_bytes : List PoolItem → List ℕ → ℕ → Instr → List ℕ
instr_bytes pool starts pc i = spelled_by starts pc i (spelling_of pool i)

-- the bytes of instructions at these offsets
abbrev pub code_from : List PoolItem → List ℕ → List ℕ → List Instr → List ℕ
code_from pool starts [] instrs = []
code_from pool starts (pc ∷ pcs) [] = []
code_from pool starts (pc ∷ pcs) (i ∷ instrs) = instr_bytes pool starts pc i ++ code_from pool starts pcs instrs

unfoldable pub code_bytes : List PoolItem → List Instr → List ℕ
code_bytes pool instrs = code_from pool (starts_of pool instrs) (starts_of pool instrs) instrs

-- ---- members

-- the flags, the name and the descriptor of a member
abbrev pub header_bytes : List PoolItem → ℕ → List ℕ → List ℕ → List ℕ → List ℕ
header_bytes pool access name descriptor others =
    u2 access ++ (u2 (index_of pool (Utf8 name)) ++ (u2 (index_of pool (Utf8 descriptor)) ++ others))

-- a field, without attributes
unfoldable pub field_bytes : List PoolItem → DraftField → List ℕ
field_bytes pool f = header_bytes pool f.access f.name f.descriptor (u2 0)

-- the content of a Code attribute, without exception handlers and attributes (Java specification 4.7.3)
unfoldable pub code_content : List PoolItem → DraftMethod → List ℕ
code_content pool m =
    u2 m.max_stack ++ (u2 m.max_locals ++ (u4 (code_length pool m.instrs) ++ (code_bytes pool m.instrs ++ (u2 0 ++ u2 0))))

-- the attributes of a method: its code, where it has instructions
abbrev pub attribute_bytes : List PoolItem → DraftMethod → List Instr → List ℕ
attribute_bytes pool m [] = u2 0
attribute_bytes pool m (i ∷ instrs) = u2 1 ++ (u2 (index_of pool (Utf8 (codes "Code"))) ++ (u4 (code_length pool m.instrs + 12) ++ code_content pool m))

unfoldable pub method_bytes : List PoolItem → DraftMethod → List ℕ
method_bytes pool m = header_bytes pool m.access m.name m.descriptor (attribute_bytes pool m m.instrs)

-- ---- the file

-- the access flags public and super (Java specification 4.1, table 4.1-A)
abbrev pub class_access : ℕ
class_access = 0x0021

-- the version of Java SE 8
abbrev pub class_major : ℕ
class_major = 52

abbrev pub class_bytes_by : List PoolItem → ClassWriter → List ℕ
class_bytes_by pool w =
    magic ++ (u2 0 ++ (u2 class_major ++ (pool_bytes pool
    ++ (u2 class_access ++ (u2 (index_of pool (ClassName w.name)) ++ (u2 (index_of pool (ClassName w.super_name)) ++ (u2 0
    ++ ((u2 (length w.fields) ++ flat_map (field_bytes pool) w.fields)
    ++ ((u2 (length w.methods) ++ flat_map (method_bytes pool) w.methods)
    ++ u2 0)))))))))

unfoldable pub class_bytes : ClassWriter → List ℕ
class_bytes w = class_bytes_by (pool_of w) w

-- ---- where counts, lengths and offsets have room

-- a text, by its length
abbrev pub fits_item : PoolItem → Bool
fits_item (Utf8 text) = nat_le (length text) 65535
fits_item other = true

unfoldable pub fits_pool : List PoolItem → Bool
fits_pool pool = nat_le (pool_count pool) 65535 && list_all fits_item pool

-- a method, by the length of its code and by its branches
unfoldable pub fits_method : List PoolItem → DraftMethod → Bool
fits_method pool m = nat_le (code_length pool m.instrs) MOST_CODE_BYTES && all_reach (starts_of pool m.instrs) (starts_of pool m.instrs) m.instrs

-- the members of a class, by their counts and by the methods
abbrev pub fits_members : List PoolItem → ClassWriter → Bool
fits_members pool w = nat_le (length w.fields) 65535 && (nat_le (length w.methods) 65535 && list_all (fits_method pool) w.methods)

-- Each count, each name's length, each branch's offset and each method's code has room in its field.
unfoldable pub fits : ClassWriter → Bool
fits w = fits_pool (pool_of w) && fits_members (pool_of w) w
