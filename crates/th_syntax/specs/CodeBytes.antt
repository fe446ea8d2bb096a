-- How the instructions of the profile are spelled (Java specification 6.5): the opcode, the operands,
-- and the instruction that they stand for, each row once.
use Rattle.std.specs.Prelude.{ℕ, ◌+◌, ◌-◌, ◌%◌, ◌^◌, ◌==◌, ◌&&◌, ◌||◌, not, min, nat_le, nat_lt, int_lt, int_le, unsigned_abs, List, [], ◌∷◌, ◌++◌, map, Bool, true, false, Option, Some, None, ℤ, pos, negsuc, ◌+ℤ◌, ◌-ℤ◌, if◌then◌else◌}
use Rattle.std.specs.Int.{w8, w16, w32, cast_signed}
use Rattle.std.specs.List.{list_any}
use Rattle.std.specs.Str.{byte}
use Rattle.th_base.specs.declared.operation.Elem.TheVariants as elem
use Rattle.th_base.specs.declared.operation.ArithOp.{ArithOp}
use Rattle.th_base.specs.declared.operation.ArithOp.TheVariants.{Add, Sub, Mul, Div, Rem, Shl, Shr, Ushr, And, Or, Xor}
use Rattle.th_base.specs.declared.operation.NarrowOp.TheVariants as narrow
use Rattle.th_base.specs.declared.operation.Relation.TheVariants.{Eq, Ne, Lt, Ge, Gt, Le}
use Rattle.th_syntax.specs.declared.cause.TheConstants as cause
use Rattle.th_syntax.specs.declared.opcode.TheConstants as opcode
use Rattle.th_syntax.specs.declared.tag.TheConstants as tag
use Rattle.th_syntax.specs.declared.instr.TheConstants.{OUTSIDE}
use Rattle.th_syntax.specs.declared.instr.StackOp.TheVariants as stack
use Rattle.th_syntax.specs.declared.instr.Primitive.{Primitive}
use Rattle.th_syntax.specs.declared.instr.Primitive.TheVariants as primitive
use Rattle.th_syntax.specs.declared.instr.MemberRef.{MemberRef}
use Rattle.th_syntax.specs.declared.instr.Instr.{Instr}
use Rattle.th_syntax.specs.declared.instr.Instr.TheVariants.{Nop, Null, Int, Long, Str, ILoad, LLoad, ALoad, IStore, LStore, AStore, ArrayLoad, LArrayLoad, ArrayStore, LArrayStore, Stack, Arith, LArith, Neg, LNeg, Inc, Narrow, I2L, L2I, LCmp, IfZero, IfInts, IfSame, IfOther, IfNull, IfNotNull, Goto, TableSwitch, LookupSwitch, IReturn, LReturn, AReturn, Return, GetStatic, PutStatic, GetField, PutField, InvokeVirtual, InvokeSpecial, InvokeInterface, InvokeStatic, New, NewArray, ANewArray, ArrayLength, Throw, CheckCast, InstanceOf, MonitorEnter, MonitorExit}
use Rattle.th_syntax.specs.Flaws.{unless}
use Rattle.th_syntax.specs.Forms.{Form, whole, wrong, ◌>>=◌, Placed}
use Rattle.th_syntax.specs.ClassBytes.{u1, u2, u4, run, demand, times, Entry, integer, float, long, double, string, Pool}
use Rattle.th_syntax.specs.WellFormed.{is_class_name, is_field_name, is_method_name, is_initialiser}
use Rattle.th_syntax.specs.Descriptors.{FieldType, MethodType, is_floating, is_floating_method, field_type_of, method_type_of}
use Rattle.th_syntax.specs.PoolChecks.{entry_of, has_tag, utf8_of, class_of, member_of}

-- What the bytes of an instruction spell: it, or the numbers of the checks that fail at its opcode,
-- one and any others.
pub data Spelled : Type 0 where
  instr : Instr → Spelled
  flawed : ℕ → List ℕ → Spelled

-- an instruction, where no check fails
abbrev pub checked : Instr → List ℕ → Form Spelled
checked i [] = whole (instr i)
checked i (number ∷ numbers) = whole (flawed number numbers)

-- an instruction with operands that pass
abbrev pub plain : Instr → Form Spelled
plain i = whole (instr i)

-- operands that fail one check
abbrev pub refused : ℕ → Form Spelled
refused number = whole (flawed number [])

-- ---- the checks of names and descriptors

-- the numbers of the checks that a descriptor fails: it is ill-formed, or has float or double
abbrev pub type_numbers : Option FieldType → List ℕ
type_numbers None = cause.NAME ∷ []
type_numbers (Some type) = unless (not (is_floating type)) cause.FLOAT_TYPE

abbrev pub method_type_numbers : Option MethodType → List ℕ
method_type_numbers None = cause.NAME ∷ []
method_type_numbers (Some m) = unless (not (is_floating_method m)) cause.FLOAT_TYPE

abbrev pub class_name_numbers : List ℕ → List ℕ
class_name_numbers name = unless (is_class_name name) cause.NAME

-- a class's name, or the descriptor of an array type in its place (Java specification 4.4.1)
abbrev pub class_or_array_numbers : List ℕ → List ℕ
class_or_array_numbers [] = cause.NAME ∷ []
class_or_array_numbers (b ∷ bytes) = if b == byte "[" then type_numbers (field_type_of (b ∷ bytes)) else class_name_numbers (b ∷ bytes)

abbrev pub field_numbers : MemberRef → List ℕ
field_numbers f = class_name_numbers f.owner ++ (unless (is_field_name f.name) cause.NAME ++ type_numbers (field_type_of f.descriptor))

-- a name with < is called by invokespecial of <init> alone (Java specification 4.9.1)
abbrev pub is_callable : Bool → List ℕ → Bool
is_callable special name = not (list_any (λ b. b == byte "<") name) || (special && is_initialiser name)

abbrev pub method_numbers : Bool → MemberRef → List ℕ
method_numbers special m =
    class_or_array_numbers m.owner
    ++ (unless (is_method_name m.name) cause.NAME
    ++ (method_type_numbers (method_type_of m.descriptor)
    ++ unless (is_callable special m.name) cause.CODE_SHAPE))

-- ---- operands that lead into the pool

-- what the pool gives, or else a refusal by this number
abbrev pub given : {A : Type 0} → ℕ → Option A → (A → Form Spelled) → Form Spelled
given number None make = refused number
given number (Some x) make = make x

-- what ldc and ldc_w load
abbrev pub loaded : Pool → Entry → Form Spelled
loaded pool (integer value) = plain (Int value)
loaded pool (string text) = given cause.OPCODE (utf8_of pool text) (λ bytes. plain (Str bytes))
loaded pool float = refused cause.FLOAT_TYPE
loaded pool other = refused cause.OPCODE

abbrev pub load : Pool → ℕ → Form Spelled
load pool index = given cause.OPCODE (entry_of pool index) (loaded pool)

-- what ldc2_w loads
abbrev pub loaded_wide : Entry → Form Spelled
loaded_wide (long value) = plain (Long value)
loaded_wide double = refused cause.FLOAT_TYPE
loaded_wide other = refused cause.OPCODE

abbrev pub load_wide : Pool → ℕ → Form Spelled
load_wide pool index = given cause.OPCODE (entry_of pool index) loaded_wide

-- the member that an entry of one of these tags leads to
abbrev pub member_among : Pool → List ℕ → ℕ → Option MemberRef
member_among pool tags index = if list_any (has_tag pool index) tags then member_of pool index else None

-- an access of a field, by a Fieldref
abbrev pub access : Pool → (MemberRef → Instr) → Form Spelled
access pool make = do
  index ← u2
  given cause.CODE_SHAPE (member_among pool (tag.FIELD ∷ []) index.value) (λ f. checked (make f) (field_numbers f))

-- a call by an entry of one of these tags; `more` are the numbers of further checks that fail
abbrev pub call : Pool → List ℕ → Bool → (MemberRef → Instr) → ℕ → List ℕ → Form Spelled
call pool tags special make index more =
    given cause.CODE_SHAPE (member_among pool tags index) (λ m. checked (make m) (method_numbers special m ++ more))

-- the entries that lead to methods: of classes, of interfaces, and of either
abbrev pub of_classes : List ℕ
of_classes = tag.METHOD ∷ []

abbrev pub of_interfaces : List ℕ
of_interfaces = tag.INTERFACE_METHOD ∷ []

abbrev pub of_either : List ℕ
of_either = tag.METHOD ∷ tag.INTERFACE_METHOD ∷ []

-- a class by a Class entry, whose name is checked
abbrev pub of_class : Pool → (List ℕ → List ℕ) → (List ℕ → Instr) → Form Spelled
of_class pool numbers make = do
  index ← u2
  given cause.CODE_SHAPE (class_of pool index.value) (λ name. checked (make name) (numbers name))

-- ---- targets of branches

-- The offset in the code of a branch's target, for a branch at `pc`. A target before the code, or one
-- that has no number of 32 bits, is one where no instruction starts.
abbrev pub offset_of : ℤ → ℕ
offset_of (pos n) = min n OUTSIDE
offset_of (negsuc n) = OUTSIDE

abbrev pub target : ℕ → ℤ → ℕ
target pc by = offset_of (pos pc +ℤ by)

-- a branch by an offset of two bytes
abbrev pub jump : ℕ → (ℕ → Instr) → Form Spelled
jump pc make = do
  by ← u2
  plain (make (target pc (cast_signed w16 by.value)))

-- a branch by an offset of four bytes
abbrev pub far : ℕ → (ℕ → Instr) → Form Spelled
far pc make = do
  by ← u4
  plain (make (target pc (cast_signed w32 by.value)))

-- ---- operands of other kinds

-- a local variable by an index of one byte
abbrev pub local : (ℕ → Instr) → Form Spelled
local make = do
  index ← u1
  plain (make index.value)

-- a local variable by an index of two bytes
abbrev pub wide_local : (ℕ → Instr) → Form Spelled
wide_local make = do
  index ← u2
  plain (make index.value)

-- the element type of newarray (Java specification, table 6.5.newarray-A); another code is refused
abbrev pub element_of : ℕ → Option Primitive
element_of code =
    if code == opcode.T_BOOLEAN then Some primitive.Boolean
    else if code == opcode.T_CHAR then Some primitive.Char
    else if code == opcode.T_BYTE then Some primitive.Byte
    else if code == opcode.T_SHORT then Some primitive.Short
    else if code == opcode.T_INT then Some primitive.Int
    else if code == opcode.T_LONG then Some primitive.Long
    else None

-- bytes up to the next multiple of four from the start of the code, behind an opcode at `pc`; what
-- they hold is not looked at (Java specification 6.5, tableswitch and lookupswitch)
abbrev pub padding : ℕ → Form (Placed (List ℕ))
padding pc = run (3 - pc % 4)

abbrev pub i4 : Form ℤ
i4 = do
  number ← u4
  whole (cast_signed w32 number.value)

-- how many numbers there are from low to high
abbrev pub count_between : ℤ → ℤ → ℕ
count_between low high = unsigned_abs (high -ℤ low) + 1

-- tableswitch: low isn't above high
abbrev pub table_switch : ℕ → Form Spelled
table_switch pc = do
  skipped ← padding pc
  other ← i4
  low ← i4
  high ← i4
  ordered ← demand (int_le low high) pc cause.CODE_SHAPE
  targets ← times (count_between low high) i4
  plain (TableSwitch low (map (target pc) targets) (target pc other))

abbrev pub match_pair : Form (ℤ × ℤ)
match_pair = do
  key ← i4
  by ← i4
  whole (key, by)

-- each key is above the one before
abbrev pub keys_ascend_from : ℤ → List (ℤ × ℤ) → Bool
keys_ascend_from key [] = true
keys_ascend_from key (pair ∷ pairs) = int_lt key pair.0 && keys_ascend_from pair.0 pairs

abbrev pub keys_ascend : List (ℤ × ℤ) → Bool
keys_ascend [] = true
keys_ascend (pair ∷ pairs) = keys_ascend_from pair.0 pairs

-- lookupswitch: the count of pairs isn't negative, and the keys ascend
abbrev pub lookup_switch : ℕ → Form Spelled
lookup_switch pc = do
  skipped ← padding pc
  other ← i4
  count ← u4
  natural ← demand (nat_lt count.value (2 ^ 31)) pc cause.CODE_SHAPE
  pairs ← times count.value match_pair
  checked (LookupSwitch (map (λ pair. (pair.0, target pc pair.1)) pairs) (target pc other)) (unless (keys_ascend pairs) cause.CODE_SHAPE)

-- ---- the rows

-- the opcodes from `first` to `last`, and what stands behind one that is `k` above the first, at an
-- offset `pc` in the code
pub record Row : Type 0 where
  pub first : ℕ
  pub last : ℕ
  pub operands : ℕ → ℕ → Form Spelled

abbrev pub from_to : ℕ → ℕ → (ℕ → Form Spelled) → Row
from_to first last operands = record { first = first; last = last; operands = λ k pc. operands k }

abbrev pub one_opcode : ℕ → Form Spelled → Row
one_opcode code operands = record { first = code; last = code; operands = λ k pc. operands }

-- an instruction without operands
abbrev pub bare : ℕ → Instr → Row
bare code i = one_opcode code (plain i)

-- an instruction whose operands depend on where it stands
abbrev pub standing : ℕ → (ℕ → Form Spelled) → Row
standing code operands = record { first = code; last = code; operands = λ k pc. operands pc }

abbrev pub branch : ℕ → (ℕ → Instr) → Row
branch code make = standing code (λ pc. jump pc make)

-- what stands behind an opcode of these rows; another opcode is refused at `at`
abbrev pub among : List Row → ℕ → ℕ → ℕ → Form Spelled
among [] code pc at = wrong at cause.OPCODE
among (one ∷ rows) code pc at =
    let others : Form Spelled = among rows code pc at in
    if nat_le one.first code && nat_le code one.last then one.operands (code - one.first) pc else others

-- constants (iconst_m1 is -1)
abbrev pub constant_rows : Pool → List Row
constant_rows pool =
    bare opcode.NOP Nop
    ∷ bare opcode.ACONST_NULL Null
    ∷ from_to opcode.ICONST_M1 opcode.ICONST_5 (λ k. plain (Int (pos k -ℤ pos 1)))
    ∷ from_to opcode.LCONST_0 opcode.LCONST_1 (λ k. plain (Long (pos k)))
    ∷ one_opcode opcode.BIPUSH (u1 >>= λ value. plain (Int (cast_signed w8 value.value)))
    ∷ one_opcode opcode.SIPUSH (u2 >>= λ value. plain (Int (cast_signed w16 value.value)))
    ∷ one_opcode opcode.LDC (u1 >>= λ index. load pool index.value)
    ∷ one_opcode opcode.LDC_W (u2 >>= λ index. load pool index.value)
    ∷ one_opcode opcode.LDC2_W (u2 >>= λ index. load_wide pool index.value)
    ∷ []

-- loads and stores of local variables and of array elements
abbrev pub variable_rows : List Row
variable_rows =
    one_opcode opcode.ILOAD (local ILoad)
    ∷ one_opcode opcode.LLOAD (local LLoad)
    ∷ one_opcode opcode.ALOAD (local ALoad)
    ∷ from_to opcode.ILOAD_0 opcode.ILOAD_3 (λ k. plain (ILoad k))
    ∷ from_to opcode.LLOAD_0 opcode.LLOAD_3 (λ k. plain (LLoad k))
    ∷ from_to opcode.ALOAD_0 opcode.ALOAD_3 (λ k. plain (ALoad k))
    ∷ bare opcode.IALOAD (ArrayLoad elem.Int)
    ∷ bare opcode.LALOAD LArrayLoad
    ∷ bare opcode.AALOAD (ArrayLoad elem.Ref)
    ∷ bare opcode.BALOAD (ArrayLoad elem.Byte)
    ∷ bare opcode.CALOAD (ArrayLoad elem.Char)
    ∷ bare opcode.SALOAD (ArrayLoad elem.Short)
    ∷ one_opcode opcode.ISTORE (local IStore)
    ∷ one_opcode opcode.LSTORE (local LStore)
    ∷ one_opcode opcode.ASTORE (local AStore)
    ∷ from_to opcode.ISTORE_0 opcode.ISTORE_3 (λ k. plain (IStore k))
    ∷ from_to opcode.LSTORE_0 opcode.LSTORE_3 (λ k. plain (LStore k))
    ∷ from_to opcode.ASTORE_0 opcode.ASTORE_3 (λ k. plain (AStore k))
    ∷ bare opcode.IASTORE (ArrayStore elem.Int)
    ∷ bare opcode.LASTORE LArrayStore
    ∷ bare opcode.AASTORE (ArrayStore elem.Ref)
    ∷ bare opcode.BASTORE (ArrayStore elem.Byte)
    ∷ bare opcode.CASTORE (ArrayStore elem.Char)
    ∷ bare opcode.SASTORE (ArrayStore elem.Short)
    ∷ []

-- moves of the stack, arithmetic and conversions
abbrev pub arithmetic_rows : List Row
arithmetic_rows =
    bare opcode.POP (Stack stack.Pop)
    ∷ bare opcode.POP2 (Stack stack.Pop2)
    ∷ bare opcode.DUP (Stack stack.Dup)
    ∷ bare opcode.DUP_X1 (Stack stack.DupX1)
    ∷ bare opcode.DUP_X2 (Stack stack.DupX2)
    ∷ bare opcode.DUP2 (Stack stack.Dup2)
    ∷ bare opcode.DUP2_X1 (Stack stack.Dup2X1)
    ∷ bare opcode.DUP2_X2 (Stack stack.Dup2X2)
    ∷ bare opcode.SWAP (Stack stack.Swap)
    ∷ bare opcode.IADD (Arith Add)
    ∷ bare opcode.LADD (LArith Add)
    ∷ bare opcode.ISUB (Arith Sub)
    ∷ bare opcode.LSUB (LArith Sub)
    ∷ bare opcode.IMUL (Arith Mul)
    ∷ bare opcode.LMUL (LArith Mul)
    ∷ bare opcode.IDIV (Arith Div)
    ∷ bare opcode.LDIV (LArith Div)
    ∷ bare opcode.IREM (Arith Rem)
    ∷ bare opcode.LREM (LArith Rem)
    ∷ bare opcode.INEG Neg
    ∷ bare opcode.LNEG LNeg
    ∷ bare opcode.ISHL (Arith Shl)
    ∷ bare opcode.LSHL (LArith Shl)
    ∷ bare opcode.ISHR (Arith Shr)
    ∷ bare opcode.LSHR (LArith Shr)
    ∷ bare opcode.IUSHR (Arith Ushr)
    ∷ bare opcode.LUSHR (LArith Ushr)
    ∷ bare opcode.IAND (Arith And)
    ∷ bare opcode.LAND (LArith And)
    ∷ bare opcode.IOR (Arith Or)
    ∷ bare opcode.LOR (LArith Or)
    ∷ bare opcode.IXOR (Arith Xor)
    ∷ bare opcode.LXOR (LArith Xor)
    ∷ one_opcode opcode.IINC (u1 >>= λ index. u1 >>= λ by. plain (Inc index.value (cast_signed w8 by.value)))
    ∷ bare opcode.I2L I2L
    ∷ bare opcode.L2I L2I
    ∷ bare opcode.I2B (Narrow narrow.Byte)
    ∷ bare opcode.I2C (Narrow narrow.Char)
    ∷ bare opcode.I2S (Narrow narrow.Short)
    ∷ bare opcode.LCMP LCmp
    ∷ []

-- branches, switches and returns
abbrev pub control_rows : List Row
control_rows =
    branch opcode.IFEQ (IfZero Eq)
    ∷ branch opcode.IFNE (IfZero Ne)
    ∷ branch opcode.IFLT (IfZero Lt)
    ∷ branch opcode.IFGE (IfZero Ge)
    ∷ branch opcode.IFGT (IfZero Gt)
    ∷ branch opcode.IFLE (IfZero Le)
    ∷ branch opcode.IF_ICMPEQ (IfInts Eq)
    ∷ branch opcode.IF_ICMPNE (IfInts Ne)
    ∷ branch opcode.IF_ICMPLT (IfInts Lt)
    ∷ branch opcode.IF_ICMPGE (IfInts Ge)
    ∷ branch opcode.IF_ICMPGT (IfInts Gt)
    ∷ branch opcode.IF_ICMPLE (IfInts Le)
    ∷ branch opcode.IF_ACMPEQ IfSame
    ∷ branch opcode.IF_ACMPNE IfOther
    ∷ branch opcode.GOTO Goto
    ∷ standing opcode.TABLESWITCH table_switch
    ∷ standing opcode.LOOKUPSWITCH lookup_switch
    ∷ bare opcode.IRETURN IReturn
    ∷ bare opcode.LRETURN LReturn
    ∷ bare opcode.ARETURN AReturn
    ∷ bare opcode.RETURN Return
    ∷ branch opcode.IFNULL IfNull
    ∷ branch opcode.IFNONNULL IfNotNull
    ∷ standing opcode.GOTO_W (λ pc. far pc Goto)
    ∷ []

-- a call of an interface's method: a count, which is not looked at, and a byte that is 0
abbrev pub interface_call : Pool → Form Spelled
interface_call pool = do
  index ← u2
  count ← u1
  zero_byte ← u1
  call pool of_interfaces false InvokeInterface index.value (unless (zero_byte.value == 0) cause.CODE_SHAPE)

-- fields, calls, objects and arrays
abbrev pub object_rows : Pool → List Row
object_rows pool =
    one_opcode opcode.GETSTATIC (access pool GetStatic)
    ∷ one_opcode opcode.PUTSTATIC (access pool PutStatic)
    ∷ one_opcode opcode.GETFIELD (access pool GetField)
    ∷ one_opcode opcode.PUTFIELD (access pool PutField)
    ∷ one_opcode opcode.INVOKEVIRTUAL (u2 >>= λ index. call pool of_classes false InvokeVirtual index.value [])
    ∷ one_opcode opcode.INVOKESPECIAL (u2 >>= λ index. call pool of_either true InvokeSpecial index.value [])
    ∷ one_opcode opcode.INVOKESTATIC (u2 >>= λ index. call pool of_either false InvokeStatic index.value [])
    ∷ one_opcode opcode.INVOKEINTERFACE (interface_call pool)
    ∷ one_opcode opcode.NEW (of_class pool class_name_numbers New)
    ∷ one_opcode opcode.NEWARRAY (u1 >>= λ code. given cause.CODE_SHAPE (element_of code.value) (λ element. plain (NewArray element)))
    ∷ one_opcode opcode.ANEWARRAY (of_class pool class_or_array_numbers ANewArray)
    ∷ bare opcode.ARRAYLENGTH ArrayLength
    ∷ bare opcode.ATHROW Throw
    ∷ one_opcode opcode.CHECKCAST (of_class pool class_or_array_numbers CheckCast)
    ∷ one_opcode opcode.INSTANCEOF (of_class pool class_or_array_numbers InstanceOf)
    ∷ bare opcode.MONITORENTER MonitorEnter
    ∷ bare opcode.MONITOREXIT MonitorExit
    ∷ []

-- what may stand behind wide
abbrev pub wide_rows : List Row
wide_rows =
    one_opcode opcode.ILOAD (wide_local ILoad)
    ∷ one_opcode opcode.LLOAD (wide_local LLoad)
    ∷ one_opcode opcode.ALOAD (wide_local ALoad)
    ∷ one_opcode opcode.ISTORE (wide_local IStore)
    ∷ one_opcode opcode.LSTORE (wide_local LStore)
    ∷ one_opcode opcode.ASTORE (wide_local AStore)
    ∷ one_opcode opcode.IINC (u2 >>= λ index. u2 >>= λ by. plain (Inc index.value (cast_signed w16 by.value)))
    ∷ []

-- wide, and the opcode that it widens; another one is refused at wide
abbrev pub wide_row : Row
wide_row = standing opcode.WIDE (λ pc. u1 >>= λ code. among wide_rows code.value pc pc)

-- all rows
abbrev pub rows : Pool → List Row
rows pool = constant_rows pool ++ (variable_rows ++ (arithmetic_rows ++ (control_rows ++ (object_rows pool ++ wide_row ∷ []))))

-- an instruction, from its opcode on
unfoldable pub instruction : Pool → Form Spelled
instruction pool = u1 >>= λ code. among (rows pool) code.value code.at code.at
