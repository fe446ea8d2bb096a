-- What each instruction does in one small state, as a table: the locals, the operand stack, the
-- instruction, and its effect. The state has two classes that are initialised, one below the other, an
-- abstract class and an interface that are untouched, and objects of each kind.
use Rattle.std.specs.Prelude.{ℕ, pos, negsuc, false, List, [], ◌∷◌, ◌++◌, codes, map, None, Some}
use Rattle.th_base.specs.declared.number.FieldId.{FieldId}
use Rattle.th_base.specs.declared.operation.Elem.TheVariants as elem
use Rattle.th_base.specs.declared.operation.ArithOp.TheVariants.{Add, Sub, Mul, Div, Rem, Shl, Shr, Ushr, And, Or, Xor}
use Rattle.th_base.specs.declared.operation.NarrowOp.TheVariants as narrow
use Rattle.th_base.specs.declared.operation.Relation.TheVariants.{Eq, Ne, Lt, Ge, Gt, Le}
use Rattle.th_syntax.specs.declared.class_file.ClassFile.{ClassFile}
use Rattle.th_syntax.specs.declared.class_file.Member.{Member}
use Rattle.th_syntax.specs.declared.class_file.Constant.TheVariants.{Str as StrConstant}
use Rattle.th_syntax.specs.declared.instr.StackOp.TheVariants as move
use Rattle.th_syntax.specs.declared.instr.Primitive.TheVariants as primitive
use Rattle.th_syntax.specs.declared.instr.MemberRef.{MemberRef}
use Rattle.th_syntax.specs.declared.instr.Instr.{Instr}
use Rattle.th_syntax.specs.declared.instr.Instr.TheVariants.{Nop, Null, Int, Long, Str, ILoad, LLoad, ALoad, IStore, LStore, AStore, ArrayLoad, LArrayLoad, ArrayStore, LArrayStore, Stack, Arith, LArith, Neg, LNeg, Inc, Narrow, I2L, L2I, LCmp, IfZero, IfInts, IfSame, IfOther, IfNull, IfNotNull, Goto, TableSwitch, LookupSwitch, IReturn, LReturn, AReturn, Return, GetStatic, PutStatic, GetField, PutField, InvokeVirtual, InvokeSpecial, InvokeInterface, InvokeStatic, New, NewArray, ANewArray, ArrayLength, Throw, CheckCast, InstanceOf, MonitorEnter, MonitorExit}
use Rattle.th_syntax.specs.Machine.{Value, IntValue, LongValue, NullValue, Address, Slot, Holds, SecondHalf, Object, Instance, Array, Mark, Untouched, Done, EndInit, CodeFrame, InitFrame, State, class_id, method_id}
use Rattle.th_syntax.specs.Program.{built_in_classes}
use Rattle.th_syntax.specs.Step.{effect as effect_of}
use Rattle.th_syntax.specs.Effects.{Top, Effect, Stuck, Ends, GoesOn, Jumps, SetsStatic, SetsObject, Makes, Opens, Calls, Returns}

-- ---- the program

abbrev pub field : ℕ → List ℕ → List ℕ → Member
field access name descriptor = record { access = access; name = name; descriptor = descriptor; constant = None; code = None }

abbrev pub method : ℕ → List ℕ → List ℕ → ℕ → List (ℕ × Instr) → Member
method access name descriptor locals instrs = record {
  access = access;
  name = name;
  descriptor = descriptor;
  constant = None;
  code = Some record { max_stack = 4; max_locals = locals; instrs = instrs; handlers = 0 };
}

abbrev pub class_named : ℕ → List ℕ → List ℕ → List (List ℕ) → List Member → List Member → ClassFile
class_named access name super interfaces fields methods =
    record {
      major = 52;
      access = access;
      name = name;
      super_name = Some super;
      interfaces = interfaces;
      fields = fields;
      methods = methods;
    }

abbrev pub just_return : List (ℕ × Instr)
just_return = (0, Return) ∷ []

-- class 11, with fields 0 to 4 and methods 17 to 19. Only one of its texts in code is reached.
abbrev pub upper_class : ClassFile
upper_class = class_named 33 (codes "A") (codes "java/lang/Object") []
    (field 8 (codes "n") (codes "I") ∷ field 8 (codes "m") (codes "J")
    ∷ record (field 8 (codes "t") (codes "Ljava/lang/String;")) { constant = Some (StrConstant (codes "b")) }
    ∷ field 0 (codes "x") (codes "I") ∷ field 0 (codes "r") (codes "Ljava/lang/Object;") ∷ [])
    (method 9 (codes "s") (codes "(IJ)I") 4 ((0, Str (codes "a")) ∷ (2, Return) ∷ (3, Str (codes "c")) ∷ [])
    ∷ method 1 (codes "v") (codes "(I)I") 3 just_return ∷ method 2 (codes "p") (codes "()V") 1 just_return ∷ [])

-- class 12, below it, with field 5 and method 20
abbrev pub lower_class : ClassFile
lower_class = class_named 33 (codes "B") (codes "A") (codes "D" ∷ []) (field 0 (codes "y") (codes "J") ∷ [])
    (method 1 (codes "v") (codes "(I)I") 3 just_return ∷ [])

-- class 13, abstract, with field 6 and methods 21 and 22
abbrev pub abstract_class : ClassFile
abstract_class = class_named 1057 (codes "C") (codes "java/lang/Object") [] (field 8 (codes "z") (codes "I") ∷ [])
    (field 1025 (codes "a") (codes "()V") ∷ method 9 (codes "u") (codes "()V") 0 just_return ∷ [])

-- class 14, an interface with method 23
abbrev pub interface_class : ClassFile
interface_class = class_named 1537 (codes "D") (codes "java/lang/Object") [] [] (field 1025 (codes "v") (codes "(I)I") ∷ [])

abbrev pub acting_program : List ClassFile
acting_program = upper_class ∷ lower_class ∷ abstract_class ∷ interface_class ∷ []

-- ---- the state

abbrev pub field_id : ℕ → FieldId
field_id n = record { 0 = n }

abbrev pub int : ℕ → Value
int n = IntValue (pos n)

abbrev pub long : ℕ → Value
long n = LongValue (pos n)

abbrev pub objects : List Object
objects =
    Instance (class_id 11) ((field_id 3, int 5) ∷ (field_id 4, NullValue) ∷ [])
    ∷ Instance (class_id 12) ((field_id 3, int 7) ∷ (field_id 4, Address 0) ∷ (field_id 5, long 9) ∷ [])
    ∷ Array (codes "[I") (int 1 ∷ int 2 ∷ [])
    ∷ Array (codes "[Ljava/lang/Object;") (NullValue ∷ Address 0 ∷ [])
    ∷ Array (codes "[J") (long 3 ∷ [])
    ∷ Array (codes "[Z") (int 0 ∷ [])
    ∷ Array (codes "[LB;") (NullValue ∷ [])
    ∷ Array (codes "[B") (int 0 ∷ []) ∷ Array (codes "[C") (int 0 ∷ []) ∷ Array (codes "[S") (int 0 ∷ []) ∷ []

-- the abstract class with this mark
abbrev pub acting_state : Mark → State
acting_state mark = record {
  heap = objects;
  statics = int 3 ∷ long 4 ∷ NullValue ∷ int 0 ∷ NullValue ∷ long 0 ∷ int 6 ∷ [];
  marks = map (λ c. Done) built_in_classes ++ Done ∷ Done ∷ mark ∷ Untouched ∷ [];
  frames = [];
  launched = [];
  ended = false;
}

-- in the lower class's method
abbrev pub acting_top : Mark → List Slot → List Slot → Top
acting_top mark locals stack = record { state = acting_state mark; method = 20; offset = 0; locals = locals; stack = stack; below = [] }

-- ---- the tables

-- a row: the locals, the stack (the top first), the instruction, its effect
pub record Acting : Type 0 where
  pub locals : List Slot
  pub stack : List Slot
  pub instr : Instr
  pub effect : Effect

abbrev pub on : List Slot → Instr → Effect → Acting
on stack instr effect = record { locals = []; stack = stack; instr = instr; effect = effect }

abbrev pub on_locals : List Slot → List Slot → Instr → Effect → Acting
on_locals locals stack instr effect = record { locals = locals; stack = stack; instr = instr; effect = effect }

abbrev pub gives : List Slot → Effect
gives stack = GoesOn [] stack

abbrev pub i : ℕ → Slot
i n = Holds (int n)

abbrev pub less : ℕ → Slot
less n = Holds (IntValue (negsuc n))

abbrev pub at : ℕ → Slot
at a = Holds (Address a)

abbrev pub none : Slot
none = Holds NullValue

abbrev pub l : ℕ → List Slot
l n = SecondHalf ∷ Holds (long n) ∷ []

abbrev pub ref : List ℕ → List ℕ → List ℕ → MemberRef
ref owner name descriptor = record { owner = owner; name = name; descriptor = descriptor }

abbrev pub moving : List Acting
moving =
    on (i 1 ∷ []) Nop (gives (i 1 ∷ []))
    ∷ on [] Null (gives (none ∷ []))
    ∷ on (i 1 ∷ []) (Int (pos 7)) (gives (i 7 ∷ i 1 ∷ []))
    ∷ on [] (Int (negsuc 0)) (gives (less 0 ∷ []))
    ∷ on [] (Long (pos 7)) (gives (l 7))
    ∷ on [] (Str (codes "b")) (gives (at 1 ∷ []))
    ∷ on [] (Str (codes "c")) Stuck
    ∷ on_locals (i 5 ∷ none ∷ []) (i 1 ∷ []) (ILoad 0) (GoesOn (i 5 ∷ none ∷ []) (i 5 ∷ i 1 ∷ []))
    ∷ on_locals (i 5 ∷ none ∷ []) [] (ILoad 1) Stuck
    ∷ on_locals (Holds (long 6) ∷ SecondHalf ∷ []) [] (LLoad 0) (GoesOn (Holds (long 6) ∷ SecondHalf ∷ []) (l 6))
    ∷ on_locals (i 5 ∷ at 2 ∷ []) [] (ALoad 1) (GoesOn (i 5 ∷ at 2 ∷ []) (at 2 ∷ []))
    ∷ on_locals (i 5 ∷ []) [] (ALoad 0) Stuck
    ∷ on_locals (i 1 ∷ i 2 ∷ []) (i 9 ∷ i 8 ∷ []) (IStore 1) (GoesOn (i 1 ∷ i 9 ∷ []) (i 8 ∷ []))
    ∷ on_locals (i 1 ∷ i 2 ∷ []) (l 9) (LStore 0) (GoesOn (Holds (long 9) ∷ SecondHalf ∷ []) [])
    ∷ on_locals (i 1 ∷ []) (at 3 ∷ []) (AStore 0) (GoesOn (at 3 ∷ []) [])
    ∷ on_locals (i 1 ∷ []) (i 3 ∷ []) (AStore 0) Stuck
    ∷ on_locals (i 1 ∷ i 2 ∷ []) (l 3) (AStore 0) Stuck
    ∷ on_locals (i 1 ∷ i 2 ∷ []) (i 3 ∷ []) (LStore 0) Stuck
    ∷ on_locals (i 1 ∷ i 2 ∷ []) (at 3 ∷ []) (LStore 0) Stuck
    ∷ on_locals (i 1 ∷ i 2 ∷ []) (l 3) (IStore 0) Stuck
    ∷ on_locals (i 1 ∷ []) [] (LLoad 0) Stuck
    ∷ on (i 1 ∷ i 2 ∷ []) (Stack move.Pop) (gives (i 2 ∷ []))
    ∷ on (i 1 ∷ i 2 ∷ i 3 ∷ []) (Stack move.Pop2) (gives (i 3 ∷ []))
    ∷ on (i 1 ∷ []) (Stack move.Pop2) Stuck
    ∷ on (i 1 ∷ i 2 ∷ []) (Stack move.Dup) (gives (i 1 ∷ i 1 ∷ i 2 ∷ []))
    ∷ on (i 1 ∷ i 2 ∷ i 3 ∷ []) (Stack move.DupX1) (gives (i 1 ∷ i 2 ∷ i 1 ∷ i 3 ∷ []))
    ∷ on (i 1 ∷ i 2 ∷ i 3 ∷ i 4 ∷ []) (Stack move.DupX2) (gives (i 1 ∷ i 2 ∷ i 3 ∷ i 1 ∷ i 4 ∷ []))
    ∷ on (l 7 ++ i 3 ∷ []) (Stack move.Dup2) (gives (l 7 ++ l 7 ++ i 3 ∷ []))
    ∷ on (l 7 ++ i 3 ∷ i 4 ∷ []) (Stack move.Dup2X1) (gives (l 7 ++ i 3 ∷ l 7 ++ i 4 ∷ []))
    ∷ on (l 7 ++ l 8 ++ i 5 ∷ []) (Stack move.Dup2X2) (gives (l 7 ++ l 8 ++ l 7 ++ i 5 ∷ []))
    ∷ on (i 1 ∷ i 2 ∷ i 3 ∷ []) (Stack move.Swap) (gives (i 2 ∷ i 1 ∷ i 3 ∷ []))
    ∷ on (i 1 ∷ []) (Stack move.Swap) Stuck
    ∷ on_locals (i 1 ∷ i 5 ∷ []) [] (Inc 1 (negsuc 1)) (GoesOn (i 1 ∷ i 3 ∷ []) [])
    ∷ []

abbrev pub computing : List Acting
computing =
    on (i 1 ∷ i 2147483647 ∷ []) (Arith Add) (gives (less 2147483647 ∷ []))
    ∷ on (i 2 ∷ i 7 ∷ i 9 ∷ []) (Arith Sub) (gives (i 5 ∷ i 9 ∷ []))
    ∷ on (i 65536 ∷ i 65537 ∷ []) (Arith Mul) (gives (i 65536 ∷ []))
    ∷ on (i 2 ∷ less 6 ∷ []) (Arith Div) (gives (less 2 ∷ []))
    ∷ on (i 0 ∷ i 7 ∷ []) (Arith Div) Ends
    ∷ on (i 2 ∷ less 6 ∷ []) (Arith Rem) (gives (less 0 ∷ []))
    ∷ on (i 0 ∷ i 7 ∷ []) (Arith Rem) Ends
    ∷ on (i 33 ∷ i 3 ∷ []) (Arith Shl) (gives (i 6 ∷ []))
    ∷ on (i 1 ∷ less 2 ∷ []) (Arith Shr) (gives (less 1 ∷ []))
    ∷ on (i 31 ∷ less 2 ∷ []) (Arith Ushr) (gives (i 1 ∷ []))
    ∷ on (i 6 ∷ i 3 ∷ []) (Arith And) (gives (i 2 ∷ []))
    ∷ on (i 6 ∷ i 3 ∷ []) (Arith Or) (gives (i 7 ∷ []))
    ∷ on (i 6 ∷ i 3 ∷ []) (Arith Xor) (gives (i 5 ∷ []))
    ∷ on (none ∷ i 3 ∷ []) (Arith Add) Stuck
    ∷ on (l 1 ++ l 9223372036854775807) (LArith Add) (gives (SecondHalf ∷ Holds (LongValue (negsuc 9223372036854775807)) ∷ []))
    ∷ on (l 2 ++ l 7 ++ i 9 ∷ []) (LArith Sub) (gives (l 5 ++ i 9 ∷ []))
    ∷ on (l 0 ++ l 7) (LArith Div) Ends
    ∷ on (l 2 ++ l 7) (LArith Div) (gives (l 3))
    ∷ on (l 3 ++ l 7) (LArith Mul) (gives (l 21))
    ∷ on (l 4 ++ l 7) (LArith Rem) (gives (l 3))
    ∷ on (l 0 ++ l 7) (LArith Rem) Ends
    ∷ on (i 1 ∷ l 8) (LArith Shr) (gives (l 4))
    ∷ on (i 65 ∷ l 8) (LArith Ushr) (gives (l 4))
    ∷ on (l 6 ++ l 3) (LArith And) (gives (l 2))
    ∷ on (l 6 ++ l 3) (LArith Or) (gives (l 7))
    ∷ on (l 6 ++ l 3) (LArith Xor) (gives (l 5))
    ∷ on (i 65 ∷ l 3) (LArith Shl) (gives (l 6))
    ∷ on (l 1 ++ l 3) (LArith Shl) Stuck
    ∷ on (i 7 ∷ []) Neg (gives (less 6 ∷ []))
    ∷ on (l 7) Neg Stuck
    ∷ on (at 0 ∷ []) Neg Stuck
    ∷ on (i 7 ∷ []) LNeg Stuck
    ∷ on (none ∷ []) LNeg Stuck
    ∷ on (at 0 ∷ []) LNeg Stuck
    ∷ on (l 7) LNeg (gives (SecondHalf ∷ Holds (LongValue (negsuc 6)) ∷ []))
    ∷ on (i 255 ∷ []) (Narrow narrow.Byte) (gives (less 0 ∷ []))
    ∷ on (less 0 ∷ []) (Narrow narrow.Char) (gives (i 65535 ∷ []))
    ∷ on (i 65535 ∷ []) (Narrow narrow.Short) (gives (less 0 ∷ []))
    ∷ on (less 4 ∷ []) I2L (gives (SecondHalf ∷ Holds (LongValue (negsuc 4)) ∷ []))
    ∷ on (l 4294967301) L2I (gives (i 5 ∷ []))
    ∷ on (l 2 ++ l 7) LCmp (gives (i 1 ∷ []))
    ∷ on (l 7 ++ l 2) LCmp (gives (less 0 ∷ []))
    ∷ []

abbrev pub branching : List Acting
branching =
    on (i 0 ∷ i 9 ∷ []) (IfZero Eq 50) (Jumps 50 (i 9 ∷ []))
    ∷ on (i 1 ∷ i 9 ∷ []) (IfZero Eq 50) (gives (i 9 ∷ []))
    ∷ on (i 1 ∷ []) (IfZero Ne 50) (Jumps 50 [])
    ∷ on (i 0 ∷ []) (IfZero Ne 50) (gives [])
    ∷ on (less 0 ∷ []) (IfZero Lt 50) (Jumps 50 [])
    ∷ on (i 0 ∷ []) (IfZero Lt 50) (gives [])
    ∷ on (i 0 ∷ []) (IfZero Ge 50) (Jumps 50 [])
    ∷ on (less 0 ∷ []) (IfZero Ge 50) (gives [])
    ∷ on (i 1 ∷ []) (IfZero Gt 50) (Jumps 50 [])
    ∷ on (i 0 ∷ []) (IfZero Gt 50) (gives [])
    ∷ on (i 0 ∷ []) (IfZero Le 50) (Jumps 50 [])
    ∷ on (i 1 ∷ []) (IfZero Le 50) (gives [])
    ∷ on (i 7 ∷ i 2 ∷ i 9 ∷ []) (IfInts Lt 50) (Jumps 50 (i 9 ∷ []))
    ∷ on (i 2 ∷ i 7 ∷ i 9 ∷ []) (IfInts Lt 50) (gives (i 9 ∷ []))
    ∷ on (at 1 ∷ at 1 ∷ []) (IfSame 50) (Jumps 50 [])
    ∷ on (at 1 ∷ at 2 ∷ []) (IfSame 50) (gives [])
    ∷ on (none ∷ none ∷ []) (IfSame 50) (Jumps 50 [])
    ∷ on (none ∷ at 2 ∷ []) (IfOther 50) (Jumps 50 [])
    ∷ on (at 2 ∷ at 2 ∷ []) (IfOther 50) (gives [])
    ∷ on (none ∷ []) (IfNull 50) (Jumps 50 [])
    ∷ on (at 0 ∷ []) (IfNull 50) (gives [])
    ∷ on (at 0 ∷ []) (IfNotNull 50) (Jumps 50 [])
    ∷ on (none ∷ []) (IfNotNull 50) (gives [])
    ∷ on (i 1 ∷ []) (Goto 50) (Jumps 50 (i 1 ∷ []))
    ∷ on (i 1 ∷ []) (TableSwitch (negsuc 0) (50 ∷ 51 ∷ 52 ∷ []) 59) (Jumps 52 [])
    ∷ on (less 0 ∷ []) (TableSwitch (negsuc 0) (50 ∷ 51 ∷ 52 ∷ []) 59) (Jumps 50 [])
    ∷ on (less 1 ∷ []) (TableSwitch (negsuc 0) (50 ∷ 51 ∷ 52 ∷ []) 59) (Jumps 59 [])
    ∷ on (i 2 ∷ []) (TableSwitch (negsuc 0) (50 ∷ 51 ∷ 52 ∷ []) 59) (Jumps 59 [])
    ∷ on (i 4 ∷ []) (LookupSwitch ((negsuc 0, 50) ∷ (pos 4, 51) ∷ []) 59) (Jumps 51 [])
    ∷ on (i 3 ∷ []) (LookupSwitch ((negsuc 0, 50) ∷ (pos 4, 51) ∷ []) 59) (Jumps 59 [])
    ∷ on (i 4 ∷ i 5 ∷ []) IReturn (Returns (i 4 ∷ []))
    ∷ on (l 4) LReturn (Returns (l 4))
    ∷ on (none ∷ []) AReturn (Returns (none ∷ []))
    ∷ on (i 4 ∷ []) AReturn Stuck
    ∷ on (l 4) AReturn Stuck
    ∷ on (l 4) IReturn Stuck
    ∷ on (i 4 ∷ []) LReturn Stuck
    ∷ on (i 4 ∷ []) Return (Returns [])
    ∷ on (at 1 ∷ []) Throw Ends
    ∷ []

abbrev pub accessing : List Acting
accessing =
    on [] (GetStatic (ref (codes "B") (codes "n") (codes "I"))) (gives (i 3 ∷ []))
    ∷ on [] (GetStatic (ref (codes "A") (codes "m") (codes "J"))) (gives (l 4))
    ∷ on [] (GetStatic (ref (codes "C") (codes "z") (codes "I"))) (Opens 13)
    ∷ on (i 9 ∷ i 8 ∷ []) (PutStatic (ref (codes "A") (codes "n") (codes "I"))) (SetsStatic 0 (int 9) (i 8 ∷ []))
    ∷ on (l 9) (PutStatic (ref (codes "A") (codes "m") (codes "J"))) (SetsStatic 1 (long 9) [])
    ∷ on (i 9 ∷ []) (PutStatic (ref (codes "C") (codes "z") (codes "I"))) (Opens 13)
    ∷ on (at 1 ∷ i 8 ∷ []) (GetField (ref (codes "A") (codes "x") (codes "I"))) (gives (i 7 ∷ i 8 ∷ []))
    ∷ on (at 1 ∷ []) (GetField (ref (codes "B") (codes "y") (codes "J"))) (gives (l 9))
    ∷ on (at 0 ∷ []) (GetField (ref (codes "B") (codes "y") (codes "J"))) Ends
    ∷ on (none ∷ []) (GetField (ref (codes "A") (codes "x") (codes "I"))) Ends
    ∷ on (at 2 ∷ []) (GetField (ref (codes "A") (codes "x") (codes "I"))) Ends
    ∷ on (i 2 ∷ at 0 ∷ i 8 ∷ []) (PutField (ref (codes "A") (codes "x") (codes "I")))
    (SetsObject 0 (Instance (class_id 11) ((field_id 3, int 2) ∷ (field_id 4, NullValue) ∷ [])) (i 8 ∷ []))
    ∷ on (l 2 ++ at 1 ∷ []) (PutField (ref (codes "B") (codes "y") (codes "J")))
    (SetsObject 1 (Instance (class_id 12) ((field_id 3, int 7) ∷ (field_id 4, Address 0) ∷ (field_id 5, long 2) ∷ [])) [])
    ∷ on (i 2 ∷ none ∷ []) (PutField (ref (codes "A") (codes "x") (codes "I"))) Ends
    ∷ on (i 2 ∷ at 2 ∷ []) (PutField (ref (codes "A") (codes "x") (codes "I"))) Ends
    ∷ on (l 2 ++ at 0 ∷ []) (PutField (ref (codes "B") (codes "y") (codes "J"))) Ends
    ∷ []

abbrev pub making : List Acting
making =
    on [] (New (codes "B"))
    (Makes (Instance (class_id 12) ((field_id 3, int 0) ∷ (field_id 4, NullValue) ∷ (field_id 5, long 0) ∷ [])) [])
    ∷ on [] (New (codes "C")) (Opens 13)
    ∷ on (i 2 ∷ i 8 ∷ []) (NewArray primitive.Int) (Makes (Array (codes "[I") (int 0 ∷ int 0 ∷ [])) (i 8 ∷ []))
    ∷ on (i 1 ∷ []) (NewArray primitive.Boolean) (Makes (Array (codes "[Z") (int 0 ∷ [])) [])
    ∷ on (i 1 ∷ []) (NewArray primitive.Char) (Makes (Array (codes "[C") (int 0 ∷ [])) [])
    ∷ on (i 1 ∷ []) (NewArray primitive.Byte) (Makes (Array (codes "[B") (int 0 ∷ [])) [])
    ∷ on (i 1 ∷ []) (NewArray primitive.Short) (Makes (Array (codes "[S") (int 0 ∷ [])) [])
    ∷ on (i 1 ∷ []) (NewArray primitive.Long) (Makes (Array (codes "[J") (long 0 ∷ [])) [])
    ∷ on (less 0 ∷ []) (NewArray primitive.Int) Ends
    ∷ on (i 0 ∷ []) (NewArray primitive.Int) (Makes (Array (codes "[I") []) [])
    ∷ on (i 1 ∷ []) (ANewArray (codes "B")) (Makes (Array (codes "[LB;") (NullValue ∷ [])) [])
    ∷ on (i 1 ∷ []) (ANewArray (codes "[I")) (Makes (Array (codes "[[I") (NullValue ∷ [])) [])
    ∷ on (less 0 ∷ []) (ANewArray (codes "B")) Ends
    ∷ on (at 3 ∷ []) ArrayLength (gives (i 2 ∷ []))
    ∷ on (at 0 ∷ []) ArrayLength Ends
    ∷ on (none ∷ []) ArrayLength Ends
    ∷ on (at 1 ∷ i 8 ∷ []) (CheckCast (codes "A")) (gives (at 1 ∷ i 8 ∷ []))
    ∷ on (at 0 ∷ []) (CheckCast (codes "B")) Ends
    ∷ on (none ∷ []) (CheckCast (codes "B")) (gives (none ∷ []))
    ∷ on (at 6 ∷ []) (CheckCast (codes "[LA;")) (gives (at 6 ∷ []))
    ∷ on (at 1 ∷ i 8 ∷ []) (InstanceOf (codes "D")) (gives (i 1 ∷ i 8 ∷ []))
    ∷ on (at 0 ∷ []) (InstanceOf (codes "B")) (gives (i 0 ∷ []))
    ∷ on (none ∷ []) (InstanceOf (codes "B")) (gives (i 0 ∷ []))
    ∷ on (at 2 ∷ []) (InstanceOf (codes "java/lang/Object")) (gives (i 1 ∷ []))
    ∷ on (at 2 ∷ []) (InstanceOf (codes "[J")) (gives (i 0 ∷ []))
    ∷ on (i 2 ∷ []) (InstanceOf (codes "B")) Stuck
    ∷ on (at 0 ∷ i 8 ∷ []) MonitorEnter (gives (i 8 ∷ []))
    ∷ on (none ∷ []) MonitorEnter Ends
    ∷ on (at 0 ∷ i 8 ∷ []) MonitorExit (gives (i 8 ∷ []))
    ∷ on (none ∷ []) MonitorExit Ends
    ∷ []

abbrev pub indexing : List Acting
indexing =
    on (i 1 ∷ at 2 ∷ i 8 ∷ []) (ArrayLoad elem.Int) (gives (i 2 ∷ i 8 ∷ []))
    ∷ on (i 2 ∷ at 2 ∷ []) (ArrayLoad elem.Int) Ends
    ∷ on (less 0 ∷ at 2 ∷ []) (ArrayLoad elem.Int) Ends
    ∷ on (i 0 ∷ none ∷ []) (ArrayLoad elem.Int) Ends
    ∷ on (i 0 ∷ at 5 ∷ []) (ArrayLoad elem.Int) Ends
    ∷ on (i 0 ∷ at 0 ∷ []) (ArrayLoad elem.Int) Ends
    ∷ on (i 0 ∷ at 5 ∷ []) (ArrayLoad elem.Byte) (gives (i 0 ∷ []))
    ∷ on (i 0 ∷ at 7 ∷ []) (ArrayLoad elem.Byte) (gives (i 0 ∷ []))
    ∷ on (i 0 ∷ at 8 ∷ []) (ArrayLoad elem.Char) (gives (i 0 ∷ []))
    ∷ on (i 0 ∷ at 9 ∷ []) (ArrayLoad elem.Char) Ends
    ∷ on (i 0 ∷ at 9 ∷ []) (ArrayLoad elem.Short) (gives (i 0 ∷ []))
    ∷ on (i 1 ∷ at 3 ∷ []) (ArrayLoad elem.Ref) (gives (at 0 ∷ []))
    ∷ on (i 0 ∷ at 2 ∷ []) (ArrayLoad elem.Ref) Ends
    ∷ on (i 0 ∷ at 4 ∷ []) LArrayLoad (gives (l 3))
    ∷ on (i 0 ∷ at 2 ∷ []) LArrayLoad Ends
    ∷ on (i 9 ∷ i 0 ∷ at 2 ∷ i 8 ∷ []) (ArrayStore elem.Int) (SetsObject 2 (Array (codes "[I") (int 9 ∷ int 2 ∷ [])) (i 8 ∷ []))
    ∷ on (i 9 ∷ i 2 ∷ at 2 ∷ []) (ArrayStore elem.Int) Ends
    ∷ on (i 3 ∷ i 0 ∷ at 5 ∷ []) (ArrayStore elem.Byte) (SetsObject 5 (Array (codes "[Z") (int 1 ∷ [])) [])
    ∷ on (i 255 ∷ i 0 ∷ at 7 ∷ []) (ArrayStore elem.Byte) (SetsObject 7 (Array (codes "[B") (IntValue (negsuc 0) ∷ [])) [])
    ∷ on (less 0 ∷ i 0 ∷ at 8 ∷ []) (ArrayStore elem.Char) (SetsObject 8 (Array (codes "[C") (int 65535 ∷ [])) [])
    ∷ on (i 65535 ∷ i 0 ∷ at 9 ∷ []) (ArrayStore elem.Short) (SetsObject 9 (Array (codes "[S") (IntValue (negsuc 0) ∷ [])) [])
    ∷ on (at 1 ∷ i 0 ∷ at 6 ∷ []) (ArrayStore elem.Ref) (SetsObject 6 (Array (codes "[LB;") (Address 1 ∷ [])) [])
    ∷ on (at 0 ∷ i 0 ∷ at 6 ∷ []) (ArrayStore elem.Ref) Ends
    ∷ on (none ∷ i 0 ∷ at 6 ∷ []) (ArrayStore elem.Ref) (SetsObject 6 (Array (codes "[LB;") (NullValue ∷ [])) [])
    ∷ on (l 8 ++ i 0 ∷ at 4 ∷ []) LArrayStore (SetsObject 4 (Array (codes "[J") (long 8 ∷ [])) [])
    ∷ on (l 8 ++ i 0 ∷ none ∷ []) LArrayStore Ends
    ∷ []

abbrev pub calling : List Acting
calling =
    on (i 4 ∷ at 1 ∷ i 8 ∷ []) (InvokeVirtual (ref (codes "A") (codes "v") (codes "(I)I"))) (Calls 20 (at 1 ∷ i 4 ∷ none ∷ []) (i 8 ∷ []))
    ∷ on (i 4 ∷ at 0 ∷ []) (InvokeVirtual (ref (codes "A") (codes "v") (codes "(I)I"))) (Calls 18 (at 0 ∷ i 4 ∷ none ∷ []) [])
    ∷ on (i 4 ∷ none ∷ []) (InvokeVirtual (ref (codes "A") (codes "v") (codes "(I)I"))) Ends
    ∷ on (i 4 ∷ at 2 ∷ []) (InvokeVirtual (ref (codes "A") (codes "v") (codes "(I)I"))) Ends
    ∷ on (i 4 ∷ at 0 ∷ []) (InvokeVirtual (ref (codes "B") (codes "v") (codes "(I)I"))) Ends
    ∷ on (at 1 ∷ []) (InvokeVirtual (ref (codes "A") (codes "p") (codes "()V"))) (Calls 19 (at 1 ∷ []) [])
    ∷ on (i 4 ∷ at 1 ∷ []) (InvokeInterface (ref (codes "D") (codes "v") (codes "(I)I"))) (Calls 20 (at 1 ∷ i 4 ∷ none ∷ []) [])
    ∷ on (i 4 ∷ at 0 ∷ []) (InvokeInterface (ref (codes "D") (codes "v") (codes "(I)I"))) Ends
    ∷ on (i 4 ∷ at 1 ∷ []) (InvokeSpecial (ref (codes "A") (codes "v") (codes "(I)I"))) (Calls 18 (at 1 ∷ i 4 ∷ none ∷ []) [])
    ∷ on (i 4 ∷ at 1 ∷ []) (InvokeSpecial (ref (codes "B") (codes "v") (codes "(I)I"))) (Calls 20 (at 1 ∷ i 4 ∷ none ∷ []) [])
    ∷ on (at 1 ∷ []) (InvokeSpecial (ref (codes "A") (codes "p") (codes "()V"))) (Calls 19 (at 1 ∷ []) [])
    ∷ on (none ∷ []) (InvokeSpecial (ref (codes "A") (codes "p") (codes "()V"))) Ends
    ∷ on (l 6 ++ i 4 ∷ i 8 ∷ []) (InvokeStatic (ref (codes "A") (codes "s") (codes "(IJ)I")))
    (Calls 17 (i 4 ∷ Holds (long 6) ∷ SecondHalf ∷ none ∷ []) (i 8 ∷ []))
    ∷ on [] (InvokeStatic (ref (codes "C") (codes "u") (codes "()V"))) (Opens 13)
    ∷ []

-- rows with the abstract class initialised
abbrev pub with_abstract : List Acting
with_abstract =
    on [] (New (codes "C")) Ends
    ∷ on [] (InvokeStatic (ref (codes "C") (codes "u") (codes "()V"))) (Calls 22 [] [])
    ∷ on [] (GetStatic (ref (codes "C") (codes "z") (codes "I"))) (gives (i 6 ∷ []))
    ∷ []

-- the effects that rows list, and those that their instructions have
abbrev pub effects_of : List Acting → List Effect
effects_of rows = map (λ r. r.effect) rows

abbrev pub acted : Mark → List Acting → List Effect
acted mark rows = map (λ r. effect_of acting_program (acting_top mark r.locals r.stack) r.instr) rows

-- the state with frames of two methods, one of them built in, and of an initialisation
abbrev pub holding_state : State
holding_state = record (acting_state Untouched) {
  frames = CodeFrame (method_id 20) 0 [] [] ∷ CodeFrame (method_id 9) 0 [] [] ∷ InitFrame (class_id 13) EndInit ∷ [];
}
