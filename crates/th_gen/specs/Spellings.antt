-- How an instruction is spelled: its opcode and what stands behind it (Java specification 6.5), each in
-- the shortest way that has room for the operand.
use Rattle.std.specs.Prelude.{ℕ, ◌+◌, ◌&&◌, nat_lt, unsigned_abs, List, ℤ, pos, negsuc, ◌+ℤ◌, if◌then◌else◌}
use Rattle.std.specs.Int.{w8, w16, cast_unsigned}
use Rattle.th_base.specs.declared.operation.Elem.{Elem}
use Rattle.th_base.specs.declared.operation.Elem.TheVariants as elem
use Rattle.th_base.specs.declared.operation.ArithOp.{ArithOp}
use Rattle.th_base.specs.declared.operation.ArithOp.TheVariants.{Add, Sub, Mul, Div, Rem, Shl, Shr, Ushr, And, Or, Xor}
use Rattle.th_base.specs.declared.operation.NarrowOp.{NarrowOp}
use Rattle.th_base.specs.declared.operation.NarrowOp.TheVariants as narrow
use Rattle.th_base.specs.declared.operation.Relation.{Relation}
use Rattle.th_base.specs.declared.operation.Relation.TheVariants.{Eq, Ne, Lt, Ge, Gt, Le}
use Rattle.th_syntax.specs.declared.opcode.TheConstants as opcode
use Rattle.th_syntax.specs.declared.instr.StackOp.{StackOp}
use Rattle.th_syntax.specs.declared.instr.StackOp.TheVariants as stack
use Rattle.th_syntax.specs.declared.instr.Primitive.{Primitive}
use Rattle.th_syntax.specs.declared.instr.Primitive.TheVariants as primitive
use Rattle.th_syntax.specs.declared.instr.Instr.{Instr}
use Rattle.th_syntax.specs.declared.instr.Instr.TheVariants.{Nop, Null, Int, Long, Str, ILoad, LLoad, ALoad, IStore, LStore, AStore, ArrayLoad, LArrayLoad, ArrayStore, LArrayStore, Stack, Arith, LArith, Neg, LNeg, Inc, Narrow, I2L, L2I, LCmp, IfZero, IfInts, IfSame, IfOther, IfNull, IfNotNull, Goto, TableSwitch, LookupSwitch, IReturn, LReturn, AReturn, Return, GetStatic, PutStatic, GetField, PutField, InvokeVirtual, InvokeSpecial, InvokeInterface, InvokeStatic, New, NewArray, ANewArray, ArrayLength, Throw, CheckCast, InstanceOf, MonitorEnter, MonitorExit}
use Rattle.th_gen.specs.declared.item.PoolItem.{PoolItem}
use Rattle.th_gen.specs.declared.item.PoolItem.TheVariants.{Integer, LongInteger, ClassName, StringText, FieldRef, MethodRef, InterfaceMethodRef}
use Rattle.th_gen.specs.declared.spelling.Spelling.{Spelling}
use Rattle.th_gen.specs.declared.spelling.Spelling.TheVariants.{Bare, Byte, Short, Wide, Increment, WideIncrement, Branch, Interface, Switch}
use Rattle.th_gen.specs.Items.{is_within, is_short, is_small_long, index_of}

-- ---- tables of opcodes

abbrev pub array_load : Elem → ℕ
array_load elem.Int = opcode.IALOAD
array_load elem.Ref = opcode.AALOAD
array_load elem.Byte = opcode.BALOAD
array_load elem.Char = opcode.CALOAD
array_load elem.Short = opcode.SALOAD

abbrev pub array_store : Elem → ℕ
array_store elem.Int = opcode.IASTORE
array_store elem.Ref = opcode.AASTORE
array_store elem.Byte = opcode.BASTORE
array_store elem.Char = opcode.CASTORE
array_store elem.Short = opcode.SASTORE

abbrev pub stack_move : StackOp → ℕ
stack_move stack.Pop = opcode.POP
stack_move stack.Pop2 = opcode.POP2
stack_move stack.Dup = opcode.DUP
stack_move stack.DupX1 = opcode.DUP_X1
stack_move stack.DupX2 = opcode.DUP_X2
stack_move stack.Dup2 = opcode.DUP2
stack_move stack.Dup2X1 = opcode.DUP2_X1
stack_move stack.Dup2X2 = opcode.DUP2_X2
stack_move stack.Swap = opcode.SWAP

abbrev pub int_arith : ArithOp → ℕ
int_arith Add = opcode.IADD
int_arith Sub = opcode.ISUB
int_arith Mul = opcode.IMUL
int_arith Div = opcode.IDIV
int_arith Rem = opcode.IREM
int_arith Shl = opcode.ISHL
int_arith Shr = opcode.ISHR
int_arith Ushr = opcode.IUSHR
int_arith And = opcode.IAND
int_arith Or = opcode.IOR
int_arith Xor = opcode.IXOR

abbrev pub long_arith : ArithOp → ℕ
long_arith Add = opcode.LADD
long_arith Sub = opcode.LSUB
long_arith Mul = opcode.LMUL
long_arith Div = opcode.LDIV
long_arith Rem = opcode.LREM
long_arith Shl = opcode.LSHL
long_arith Shr = opcode.LSHR
long_arith Ushr = opcode.LUSHR
long_arith And = opcode.LAND
long_arith Or = opcode.LOR
long_arith Xor = opcode.LXOR

abbrev pub narrowing : NarrowOp → ℕ
narrowing narrow.Byte = opcode.I2B
narrowing narrow.Char = opcode.I2C
narrowing narrow.Short = opcode.I2S

abbrev pub zero_branch : Relation → ℕ
zero_branch Eq = opcode.IFEQ
zero_branch Ne = opcode.IFNE
zero_branch Lt = opcode.IFLT
zero_branch Ge = opcode.IFGE
zero_branch Gt = opcode.IFGT
zero_branch Le = opcode.IFLE

abbrev pub int_branch : Relation → ℕ
int_branch Eq = opcode.IF_ICMPEQ
int_branch Ne = opcode.IF_ICMPNE
int_branch Lt = opcode.IF_ICMPLT
int_branch Ge = opcode.IF_ICMPGE
int_branch Gt = opcode.IF_ICMPGT
int_branch Le = opcode.IF_ICMPLE

-- the code of an element type (Java specification, table 6.5.newarray-A)
abbrev pub element_code : Primitive → ℕ
element_code primitive.Boolean = opcode.T_BOOLEAN
element_code primitive.Char = opcode.T_CHAR
element_code primitive.Byte = opcode.T_BYTE
element_code primitive.Short = opcode.T_SHORT
element_code primitive.Int = opcode.T_INT
element_code primitive.Long = opcode.T_LONG

-- ---- operands of several sizes

-- a load or store of a local variable: four have opcodes of their own, from `first` on
abbrev pub local_spelling : ℕ → ℕ → ℕ → Spelling
local_spelling code first index =
    if nat_lt index 4 then Bare (first + index) else if nat_lt index 256 then Byte code index else Wide code index

-- a constant by its index
abbrev pub constant_spelling : ℕ → Spelling
constant_spelling index = if nat_lt index 256 then Byte opcode.LDC index else Short opcode.LDC_W index

abbrev pub int_spelling : List PoolItem → ℤ → Spelling
int_spelling pool value =
    if is_within (negsuc 0) (pos 5) value then Bare (opcode.ICONST_M1 + unsigned_abs (value +ℤ pos 1))
    else if is_within (negsuc 127) (pos 127) value then Byte opcode.BIPUSH (cast_unsigned w8 value)
    else if is_short value then Short opcode.SIPUSH (cast_unsigned w16 value)
    else constant_spelling (index_of pool (Integer value))

abbrev pub long_spelling : List PoolItem → ℤ → Spelling
long_spelling pool value =
    if is_small_long value then Bare (opcode.LCONST_0 + unsigned_abs value) else Short opcode.LDC2_W (index_of pool (LongInteger value))

abbrev pub increment_spelling : ℕ → ℤ → Spelling
increment_spelling index by = if nat_lt index 256 && is_within (negsuc 127) (pos 127) by then Increment index by else WideIncrement index by

-- ---- the rows

-- how an instruction is spelled, over a pool that has the entries it needs
abbrev pub spelling_of : List PoolItem → Instr → Spelling
spelling_of pool Nop = Bare opcode.NOP
spelling_of pool Null = Bare opcode.ACONST_NULL
spelling_of pool (Int value) = int_spelling pool value
spelling_of pool (Long value) = long_spelling pool value
spelling_of pool (Str text) = constant_spelling (index_of pool (StringText text))
spelling_of pool (ILoad index) = local_spelling opcode.ILOAD opcode.ILOAD_0 index
spelling_of pool (LLoad index) = local_spelling opcode.LLOAD opcode.LLOAD_0 index
spelling_of pool (ALoad index) = local_spelling opcode.ALOAD opcode.ALOAD_0 index
spelling_of pool (IStore index) = local_spelling opcode.ISTORE opcode.ISTORE_0 index
spelling_of pool (LStore index) = local_spelling opcode.LSTORE opcode.LSTORE_0 index
spelling_of pool (AStore index) = local_spelling opcode.ASTORE opcode.ASTORE_0 index
spelling_of pool (ArrayLoad elem) = Bare (array_load elem)
spelling_of pool LArrayLoad = Bare opcode.LALOAD
spelling_of pool (ArrayStore elem) = Bare (array_store elem)
spelling_of pool LArrayStore = Bare opcode.LASTORE
spelling_of pool (Stack op) = Bare (stack_move op)
spelling_of pool (Arith op) = Bare (int_arith op)
spelling_of pool (LArith op) = Bare (long_arith op)
spelling_of pool Neg = Bare opcode.INEG
spelling_of pool LNeg = Bare opcode.LNEG
spelling_of pool (Inc index by) = increment_spelling index by
spelling_of pool (Narrow op) = Bare (narrowing op)
spelling_of pool I2L = Bare opcode.I2L
spelling_of pool L2I = Bare opcode.L2I
spelling_of pool LCmp = Bare opcode.LCMP
spelling_of pool (IfZero relation target) = Branch (zero_branch relation) target
spelling_of pool (IfInts relation target) = Branch (int_branch relation) target
spelling_of pool (IfSame target) = Branch opcode.IF_ACMPEQ target
spelling_of pool (IfOther target) = Branch opcode.IF_ACMPNE target
spelling_of pool (IfNull target) = Branch opcode.IFNULL target
spelling_of pool (IfNotNull target) = Branch opcode.IFNONNULL target
spelling_of pool (Goto target) = Branch opcode.GOTO target
spelling_of pool (TableSwitch low targets other) = Switch opcode.TABLESWITCH
spelling_of pool (LookupSwitch pairs other) = Switch opcode.LOOKUPSWITCH
spelling_of pool IReturn = Bare opcode.IRETURN
spelling_of pool LReturn = Bare opcode.LRETURN
spelling_of pool AReturn = Bare opcode.ARETURN
spelling_of pool Return = Bare opcode.RETURN
spelling_of pool (GetStatic f) = Short opcode.GETSTATIC (index_of pool (FieldRef f))
spelling_of pool (PutStatic f) = Short opcode.PUTSTATIC (index_of pool (FieldRef f))
spelling_of pool (GetField f) = Short opcode.GETFIELD (index_of pool (FieldRef f))
spelling_of pool (PutField f) = Short opcode.PUTFIELD (index_of pool (FieldRef f))
spelling_of pool (InvokeVirtual m) = Short opcode.INVOKEVIRTUAL (index_of pool (MethodRef m))
spelling_of pool (InvokeSpecial m) = Short opcode.INVOKESPECIAL (index_of pool (MethodRef m))
spelling_of pool (InvokeInterface m) = Interface (index_of pool (InterfaceMethodRef m))
spelling_of pool (InvokeStatic m) = Short opcode.INVOKESTATIC (index_of pool (MethodRef m))
spelling_of pool (New name) = Short opcode.NEW (index_of pool (ClassName name))
spelling_of pool (NewArray element) = Byte opcode.NEWARRAY (element_code element)
spelling_of pool (ANewArray name) = Short opcode.ANEWARRAY (index_of pool (ClassName name))
spelling_of pool ArrayLength = Bare opcode.ARRAYLENGTH
spelling_of pool Throw = Bare opcode.ATHROW
spelling_of pool (CheckCast name) = Short opcode.CHECKCAST (index_of pool (ClassName name))
spelling_of pool (InstanceOf name) = Short opcode.INSTANCEOF (index_of pool (ClassName name))
spelling_of pool MonitorEnter = Bare opcode.MONITORENTER
spelling_of pool MonitorExit = Bare opcode.MONITOREXIT
