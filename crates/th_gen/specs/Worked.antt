-- Spellings at the edges of their operands, the entries of a class, and a class that passes the checks,
-- worked out in full.
use Rattle.std.specs.Prelude.{List, [], ◌∷◌, codes, pos, negsuc}
use Rattle.th_syntax.specs.declared.instr.Primitive.TheVariants as primitive
use Rattle.th_syntax.specs.declared.instr.Instr.{Instr}
use Rattle.th_syntax.specs.declared.instr.Instr.TheVariants.{Int, Long, Str, ILoad, ALoad, LLoad, LStore, Inc, Goto, TableSwitch, LookupSwitch, GetStatic, PutField, InvokeVirtual, InvokeSpecial, InvokeInterface, InvokeStatic, New, NewArray, ANewArray, CheckCast, InstanceOf}
use Rattle.th_gen.specs.declared.item.PoolItem.{PoolItem}
use Rattle.th_gen.specs.declared.item.PoolItem.TheVariants.{Utf8, Integer, LongInteger, ClassName, NameAndType, FieldRef, MethodRef}
use Rattle.th_gen.specs.declared.spelling.Spelling.{Spelling}
use Rattle.th_gen.specs.declared.spelling.Spelling.TheVariants.{Bare, Byte, Short, Wide, Increment, WideIncrement, Branch}
use Rattle.th_gen.specs.declared.draft.ClassWriter.{ClassWriter}
use Rattle.th_gen.specs.declared.draft.DraftMethod.{DraftMethod}
use Rattle.th_gen.specs.Generated.{keeping_class, constructor, kept_field, activity_name, object_name, object_type, member, plain_field}

-- ---- spellings

-- the entries that these instructions need
abbrev pub edge_pool : List PoolItem
edge_pool = Integer (pos 32768) ∷ Integer (negsuc 32768) ∷ LongInteger (pos 2) ∷ LongInteger (negsuc 0) ∷ []

-- the last operand of each spelling, and the first of the next
abbrev pub edge_instrs : List Instr
edge_instrs =
    Int (negsuc 0) ∷ Int (pos 5) ∷ Int (pos 6) ∷ Int (negsuc 1) ∷ Int (pos 127) ∷ Int (negsuc 127)
    ∷ Int (pos 128) ∷ Int (negsuc 128) ∷ Int (pos 32767) ∷ Int (negsuc 32767) ∷ Int (pos 32768) ∷ Int (negsuc 32768)
    ∷ Long (pos 0) ∷ Long (pos 1) ∷ Long (pos 2) ∷ Long (negsuc 0)
    ∷ ALoad 3 ∷ ALoad 4 ∷ ALoad 255 ∷ ALoad 256 ∷ LStore 0 ∷ LStore 4
    ∷ Inc 255 (pos 127) ∷ Inc 0 (negsuc 127) ∷ Inc 256 (pos 1) ∷ Inc 1 (pos 128) ∷ Inc 1 (negsuc 128)
    ∷ Goto 7 ∷ []

-- how they are spelled (Java specification 6.5)
abbrev pub edge_spellings : List Spelling
edge_spellings =
    Bare 2 ∷ Bare 8 ∷ Byte 16 6 ∷ Byte 16 254 ∷ Byte 16 127 ∷ Byte 16 128
    ∷ Short 17 128 ∷ Short 17 65407 ∷ Short 17 32767 ∷ Short 17 32768 ∷ Byte 18 1 ∷ Byte 18 2
    ∷ Bare 9 ∷ Bare 10 ∷ Short 20 3 ∷ Short 20 5
    ∷ Bare 45 ∷ Byte 25 4 ∷ Byte 25 255 ∷ Wide 25 256 ∷ Bare 63 ∷ Byte 55 4
    ∷ Increment 255 (pos 127) ∷ Increment 0 (negsuc 127) ∷ WideIncrement 256 (pos 1) ∷ WideIncrement 1 (pos 128) ∷ WideIncrement 1 (negsuc 128)
    ∷ Branch 167 7 ∷ []

-- ---- entries

-- a class that keeps the object, and its entries
abbrev pub keeping : ClassWriter
keeping = keeping_class (codes "A")

abbrev pub keeping_entries : List PoolItem
keeping_entries =
    Utf8 (codes "A") ∷ ClassName (codes "A") ∷ Utf8 activity_name ∷ ClassName activity_name ∷ Utf8 (codes "s") ∷ Utf8 object_type
    ∷ Utf8 (codes "<init>") ∷ Utf8 (codes "()V") ∷ Utf8 (codes "Code")
    ∷ NameAndType (codes "<init>") (codes "()V") ∷ MethodRef (constructor activity_name)
    ∷ Utf8 (codes "onCreate") ∷ Utf8 (codes "(Landroid/os/Bundle;)V")
    ∷ NameAndType (codes "s") object_type ∷ FieldRef (kept_field (codes "A")) ∷ []

-- ---- checks

-- an instruction of each kind of operand; the last leads back
abbrev pub varied_instrs : List Instr
varied_instrs =
    ILoad 1 ∷ TableSwitch (negsuc 0) (2 ∷ 0 ∷ []) 3 ∷ LookupSwitch ((negsuc 4, 0) ∷ (pos 3, 2) ∷ []) 3
    ∷ LLoad 2 ∷ LStore 0 ∷ Inc 3 (negsuc 32767) ∷ Int (pos 40000) ∷ Long (negsuc 0) ∷ Str (codes "x")
    ∷ GetStatic (member (codes "B") (codes "f") (codes "J")) ∷ PutField (member (codes "B") (codes "g") (codes "[[I"))
    ∷ InvokeVirtual (member (codes "[I") (codes "clone") (codes "()LB;")) ∷ InvokeSpecial (constructor (codes "B"))
    ∷ InvokeInterface (member (codes "C") (codes "m") (codes "(IJ)V")) ∷ InvokeStatic (member (codes "B") (codes "m") (codes "()Z"))
    ∷ New (codes "B") ∷ NewArray primitive.Long ∷ ANewArray (codes "[I") ∷ CheckCast (codes "[[J") ∷ InstanceOf (codes "B")
    ∷ Goto 0 ∷ []

-- a class with a method without code, and a method with these instructions
abbrev pub abstract_method : DraftMethod
abstract_method = record { access = 0x0401; name = codes "m"; descriptor = codes "(J)LB;"; max_stack = 0; max_locals = 0; instrs = [] }

abbrev pub varied_method : DraftMethod
varied_method = record { access = 0x0009; name = codes "n"; descriptor = codes "(II)V"; max_stack = 9; max_locals = 4; instrs = varied_instrs }

abbrev pub varied : ClassWriter
varied = record { name = codes "A"; super_name = object_name; fields = plain_field (codes "f") (codes "J") ∷ []; methods = abstract_method ∷ varied_method ∷ [] }
