-- The kinds that each instruction takes and gives, one row an instruction (Java specification 6.5), and
-- what it makes of the kinds before it. docs/KINDS.md shows the rows as a table.
use Rattle.std.specs.Prelude.{ℕ, suc, ◌+◌, ◌-◌, ◌||◌, not, nat_le, nat_lt, Bool, false, List, [], ◌∷◌, ◌++◌, length, map, take, drop, reverse, sum, flat_map, Option, slice_get, slice_set, slice_index_or, if◌then◌else◌}
use Rattle.std.specs.Option.{option_map_or}
use Rattle.th_base.specs.declared.operation.Elem.{Elem}
use Rattle.th_base.specs.declared.operation.Elem.TheVariants as elem
use Rattle.th_base.specs.declared.operation.ArithOp.{ArithOp}
use Rattle.th_base.specs.declared.operation.ArithOp.TheVariants.{Add, Sub, Mul, Div, Rem, Shl, Shr, Ushr, And, Or, Xor}
use Rattle.th_syntax.specs.declared.kind.SlotKind.TheVariants as kind
use Rattle.th_syntax.specs.declared.instr.StackOp.{StackOp}
use Rattle.th_syntax.specs.declared.instr.StackOp.TheVariants as move
use Rattle.th_syntax.specs.declared.instr.Instr.{Instr}
use Rattle.th_syntax.specs.declared.instr.Instr.TheVariants.{Nop, Null, Int, Long, Str, ILoad, LLoad, ALoad, IStore, LStore, AStore, ArrayLoad, LArrayLoad, ArrayStore, LArrayStore, Stack, Arith, LArith, Neg, LNeg, Inc, Narrow, I2L, L2I, LCmp, IfZero, IfInts, IfSame, IfOther, IfNull, IfNotNull, Goto, TableSwitch, LookupSwitch, IReturn, LReturn, AReturn, Return, GetStatic, PutStatic, GetField, PutField, InvokeVirtual, InvokeSpecial, InvokeInterface, InvokeStatic, New, NewArray, ANewArray, ArrayLength, Throw, CheckCast, InstanceOf, MonitorEnter, MonitorExit}
use Rattle.th_syntax.specs.Descriptors.{FieldType, double_type, long_type, class_type, array_type, MethodType, is_floating, is_floating_method, only_if, field_type_of, method_type_of}
use Rattle.th_syntax.specs.Kinds.{SlotKind, is_same_kind, are_same_kinds, KindsAt, NoKinds, OfKinds, DepthsDiffer}

-- ---- the slots of values, in the order of locals: the first half of a long, and then the second

-- the kind of a type's values (Java specification 2.11.1). A float would take the room of an int, and a
-- double that of a long.
abbrev pub kind_of_type : FieldType → SlotKind
kind_of_type long_type = kind.Long
kind_of_type double_type = kind.Long
kind_of_type (class_type name) = kind.Ref
kind_of_type (array_type element) = kind.Ref
kind_of_type other = kind.Int

-- the slots of a value
abbrev pub slots_of : SlotKind → List SlotKind
slots_of kind.Long = kind.Long ∷ kind.SecondHalf ∷ []
slots_of other = other ∷ []

abbrev pub int : List SlotKind
int = kind.Int ∷ []

abbrev pub long : List SlotKind
long = kind.Long ∷ kind.SecondHalf ∷ []

abbrev pub ref : List SlotKind
ref = kind.Ref ∷ []

abbrev pub slots_of_type : FieldType → List SlotKind
slots_of_type type = slots_of (kind_of_type type)

-- the slots of a field's value, by its descriptor. What is no descriptor or has float or double, as in no
-- class file of the profile, has none.
abbrev pub field_slots : List ℕ → List SlotKind
field_slots descriptor = option_map_or slots_of_type (only_if (λ type. not (is_floating type)) (field_type_of descriptor)) []

-- a method's parameters and result
abbrev pub slots_type_of : List ℕ → Option MethodType
slots_type_of descriptor = only_if (λ m. not (is_floating_method m)) (method_type_of descriptor)

-- the slots of a method's parameters, in order and without the receiver, by its descriptor
abbrev pub parameter_slots : List ℕ → List SlotKind
parameter_slots descriptor = option_map_or (λ m. flat_map slots_of_type m.params) (slots_type_of descriptor) []

-- those of its result; none where it is void
abbrev pub result_slots : List ℕ → List SlotKind
result_slots descriptor = option_map_or (λ m. option_map_or slots_of_type m.result_type []) (slots_type_of descriptor) []

-- ---- rows

pub data KindRow : Type 0 where
  -- takes these slots from the stack, of which the last is on top, and then gives these
  Works : (takes gives : List SlotKind) → KindRow
  -- gives the value of this kind that a local has
  Loads : (value : SlotKind) (local : ℕ) → KindRow
  -- takes a value of this kind, and stores it into a local
  Stores : (value : SlotKind) (local : ℕ) → KindRow
  -- changes a local, which is an int before and after
  Increments : (local : ℕ) → KindRow
  -- takes groups of so many slots, the one on top first, and gives the slots that lay at these places,
  -- counted from the top; the first is then on top
  Moves : (groups places : List ℕ) → KindRow

-- what an array's elements are as values
abbrev pub element_slots : Elem → List SlotKind
element_slots elem.Ref = ref
element_slots elem.Int = int
element_slots elem.Byte = int
element_slots elem.Char = int
element_slots elem.Short = int

-- the second operand of an operation on longs: the distance of a shift is an int
abbrev pub second_operand : ArithOp → List SlotKind
second_operand Add = long
second_operand Sub = long
second_operand Mul = long
second_operand Div = long
second_operand Rem = long
second_operand Shl = int
second_operand Shr = int
second_operand Ushr = int
second_operand And = long
second_operand Or = long
second_operand Xor = long

-- pop to swap, by the groups that they take (Java specification 6.5)
abbrev pub move_row : StackOp → KindRow
move_row move.Pop = Moves (1 ∷ []) []
move_row move.Pop2 = Moves (2 ∷ []) []
move_row move.Dup = Moves (1 ∷ []) (0 ∷ 0 ∷ [])
move_row move.DupX1 = Moves (1 ∷ 1 ∷ []) (0 ∷ 1 ∷ 0 ∷ [])
move_row move.DupX2 = Moves (1 ∷ 2 ∷ []) (0 ∷ 1 ∷ 2 ∷ 0 ∷ [])
move_row move.Dup2 = Moves (2 ∷ []) (0 ∷ 1 ∷ 0 ∷ 1 ∷ [])
move_row move.Dup2X1 = Moves (2 ∷ 1 ∷ []) (0 ∷ 1 ∷ 2 ∷ 0 ∷ 1 ∷ [])
move_row move.Dup2X2 = Moves (2 ∷ 2 ∷ []) (0 ∷ 1 ∷ 2 ∷ 3 ∷ 0 ∷ 1 ∷ [])
move_row move.Swap = Moves (1 ∷ 1 ∷ []) (1 ∷ 0 ∷ [])

-- a call, where these slots lie below the parameters
abbrev pub call_row : List SlotKind → List ℕ → KindRow
call_row receiver descriptor = Works (receiver ++ parameter_slots descriptor) (result_slots descriptor)

abbrev pub row_of : Instr → KindRow
row_of Nop = Works [] []
row_of Null = Works [] ref
row_of (Int n) = Works [] int
row_of (Long n) = Works [] long
row_of (Str text) = Works [] ref
row_of (ILoad local) = Loads kind.Int local
row_of (LLoad local) = Loads kind.Long local
row_of (ALoad local) = Loads kind.Ref local
row_of (IStore local) = Stores kind.Int local
row_of (LStore local) = Stores kind.Long local
row_of (AStore local) = Stores kind.Ref local
row_of (ArrayLoad e) = Works (ref ++ int) (element_slots e)
row_of LArrayLoad = Works (ref ++ int) long
row_of (ArrayStore e) = Works (ref ++ int ++ element_slots e) []
row_of LArrayStore = Works (ref ++ int ++ long) []
row_of (Stack op) = move_row op
row_of (Arith op) = Works (int ++ int) int
row_of (LArith op) = Works (long ++ second_operand op) long
row_of Neg = Works int int
row_of LNeg = Works long long
row_of (Inc local by) = Increments local
row_of (Narrow op) = Works int int
row_of I2L = Works int long
row_of L2I = Works long int
row_of LCmp = Works (long ++ long) int
row_of (IfZero relation target) = Works int []
row_of (IfInts relation target) = Works (int ++ int) []
row_of (IfSame target) = Works (ref ++ ref) []
row_of (IfOther target) = Works (ref ++ ref) []
row_of (IfNull target) = Works ref []
row_of (IfNotNull target) = Works ref []
row_of (Goto target) = Works [] []
row_of (TableSwitch low targets other) = Works int []
row_of (LookupSwitch pairs other) = Works int []
row_of IReturn = Works int []
row_of LReturn = Works long []
row_of AReturn = Works ref []
row_of Return = Works [] []
row_of (GetStatic r) = Works [] (field_slots r.descriptor)
row_of (PutStatic r) = Works (field_slots r.descriptor) []
row_of (GetField r) = Works ref (field_slots r.descriptor)
row_of (PutField r) = Works (ref ++ field_slots r.descriptor) []
row_of (InvokeVirtual r) = call_row ref r.descriptor
row_of (InvokeSpecial r) = call_row ref r.descriptor
row_of (InvokeInterface r) = call_row ref r.descriptor
row_of (InvokeStatic r) = call_row [] r.descriptor
row_of (New name) = Works [] ref
row_of (NewArray type) = Works int ref
row_of (ANewArray name) = Works int ref
row_of ArrayLength = Works ref int
row_of Throw = Works ref []
row_of (CheckCast name) = Works ref ref
row_of (InstanceOf name) = Works ref int
row_of MonitorEnter = Works ref []
row_of MonitorExit = Works ref []

-- ---- what an instruction makes of the kinds before it

-- how many slots it takes from the stack
abbrev pub slots_taken : KindRow → ℕ
slots_taken (Works takes gives) = length takes
slots_taken (Loads value local) = 0
slots_taken (Stores value local) = length (slots_of value)
slots_taken (Increments local) = 0
slots_taken (Moves groups places) = sum groups

-- the slots that it puts onto the stack, the top first
abbrev pub slots_given : KindRow → List SlotKind → List SlotKind
slots_given (Works takes gives) stack = reverse gives
slots_given (Loads value local) stack = reverse (slots_of value)
slots_given (Stores value local) stack = []
slots_given (Increments local) stack = []
slots_given (Moves groups places) stack = map (λ place. slice_index_or stack place kind.Unusable) places

abbrev pub stack_after : KindRow → List SlotKind → List SlotKind
stack_after row stack = slots_given row stack ++ drop (slots_taken row) stack

-- a slot whose other half, the one behind or before it, is stored over
abbrev pub without_second : SlotKind → SlotKind
without_second k = if is_same_kind k kind.Long then kind.Unusable else k

abbrev pub without_first : SlotKind → SlotKind
without_first k = if is_same_kind k kind.SecondHalf then kind.Unusable else k

-- locals of which one is changed
abbrev pub changed : (SlotKind → SlotKind) → ℕ → List SlotKind → List SlotKind
changed change local locals = slice_set locals local (change (slice_index_or locals local kind.Unusable))

-- locals with slots written from a local on
abbrev pub written : List SlotKind → ℕ → List SlotKind → List SlotKind
written [] local locals = locals
written (k ∷ ks) local locals = written ks (suc local) (slice_set locals local k)

-- locals with a value stored. A long of which it takes one half is of no use any more: its first half
-- in the local before, or its second half in the local behind. (Where there is no local before, it is
-- the first local itself that is changed, and then written.)
abbrev pub stored : SlotKind → ℕ → List SlotKind → List SlotKind
stored value local locals =
    written (slots_of value) local (changed without_second (local - 1) (changed without_first (local + length (slots_of value)) locals))

abbrev pub locals_after : KindRow → List SlotKind → List SlotKind
locals_after (Works takes gives) locals = locals
locals_after (Loads value local) locals = locals
locals_after (Stores value local) locals = stored value local locals
locals_after (Increments local) locals = stored kind.Int local locals
locals_after (Moves groups places) locals = locals

-- the kinds behind an instruction. Where it lacks an operand, none go on, and each instruction that the
-- flow leads to from there is one where depths differ.
abbrev pub after : KindRow → KindsAt → KindsAt
after row NoKinds = NoKinds
after row DepthsDiffer = DepthsDiffer
after row (OfKinds locals stack) =
    if nat_le (slots_taken row) (length stack) then OfKinds (locals_after row locals) (stack_after row stack) else DepthsDiffer

-- ---- where the kinds before an instruction don't fit it

-- a local isn't of this kind
abbrev pub is_other_local : SlotKind → ℕ → List SlotKind → Bool
is_other_local value local locals = not (option_map_or (is_same_kind value) (slice_get locals local) false)

-- the slots on top aren't these, of which the last is on top
abbrev pub are_other_operands : List SlotKind → List SlotKind → Bool
are_other_operands slots stack = not (are_same_kinds (take (length slots) stack) (reverse slots))

-- the first of the slots is of this kind
abbrev pub begins_with : SlotKind → List SlotKind → Bool
begins_with k [] = false
begins_with k (slot ∷ slots) = is_same_kind k slot

-- a slot is unusable
abbrev pub has_unusable : List SlotKind → Bool
has_unusable [] = false
has_unusable (slot ∷ slots) = is_same_kind slot kind.Unusable || has_unusable slots

-- a group of slots, the top first, has an unusable one, ends with a long whose second half isn't in it,
-- or begins with a second half
abbrev pub is_torn : List SlotKind → Bool
is_torn group = has_unusable group || begins_with kind.Long group || begins_with kind.SecondHalf (reverse group)

abbrev pub has_torn : List ℕ → List SlotKind → Bool
has_torn [] stack = false
has_torn (size ∷ sizes) stack = is_torn (take size stack) || has_torn sizes (drop size stack)

-- an operand or a local is of a wrong kind
abbrev pub are_wrong : KindRow → List SlotKind → List SlotKind → Bool
are_wrong (Works takes gives) locals stack = are_other_operands takes stack
are_wrong (Loads value local) locals stack = is_other_local value local locals
are_wrong (Stores value local) locals stack = are_other_operands (slots_of value) stack
are_wrong (Increments local) locals stack = is_other_local kind.Int local locals
are_wrong (Moves groups places) locals stack = has_torn groups stack

-- an operand is missing or wrong, or the stack is then deeper than this
abbrev pub is_misfit : ℕ → KindRow → List SlotKind → List SlotKind → Bool
is_misfit max_stack row locals stack =
    not (nat_le (slots_taken row) (length stack)) || are_wrong row locals stack || nat_lt max_stack (length (stack_after row stack))
