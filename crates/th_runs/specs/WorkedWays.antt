-- More of what instructions do in small states: the moves in each of their forms, elements that aren't there,
-- members that a subclass names, a static method without code, and calls by interfaces; a launch whose constructor
-- stores; and the state in which the runs of a program with constants begin.
use Rattle.std.specs.Prelude.{ℕ, false, List, [], ◌∷◌, ◌++◌, codes, map}
use Rattle.th_base.specs.declared.built_in.TheConstants.{OBJECT, ACTIVITY, CONSTRUCTOR}
use Rattle.th_base.specs.declared.operation.Elem.TheVariants as elem
use Rattle.th_syntax.specs.declared.class_file.ClassFile.{ClassFile}
use Rattle.th_syntax.specs.declared.class_file.Member.{Member}
use Rattle.th_syntax.specs.declared.instr.Instr.{Instr}
use Rattle.th_syntax.specs.declared.instr.Instr.TheVariants.{ALoad, ArrayLoad, LArrayLoad, ArrayStore, LArrayStore, Return, PutStatic, InvokeSpecial, InvokeStatic, InvokeInterface}
use Rattle.th_syntax.specs.declared.instr.StackOp.{StackOp}
use Rattle.th_syntax.specs.declared.instr.StackOp.TheVariants as move
use Rattle.th_syntax.specs.declared.machine.Mark.TheVariants.{Untouched, Done}
use Rattle.th_syntax.specs.declared.machine.Object.TheVariants.{Instance, Array}
use Rattle.th_syntax.specs.declared.machine.Slot.{Slot}
use Rattle.th_syntax.specs.declared.machine.Slot.TheVariants.{Holds}
use Rattle.th_syntax.specs.declared.machine.State.{State}
use Rattle.th_syntax.specs.declared.machine.Value.{Value}
use Rattle.th_syntax.specs.declared.machine.Value.TheVariants.{Null as NullValue, Address}
use Rattle.th_syntax.specs.Machine.{class_id}
use Rattle.th_syntax.specs.Program.{built_in_classes}
use Rattle.th_syntax.specs.Effects.{Effect, Ends, Calls}
use Rattle.th_syntax.specs.Step.{effect}
use Rattle.th_syntax.specs.WorkedEffects.{acting_program, acting_top, class_named, field, method, just_return, int, long, i, less, at, none, l, ref}
use Rattle.th_syntax.specs.WorkedRuns.{at_rest, object_field}
use Rattle.th_runs.specs.WorkedRows.{top_of}

-- ---- moves

-- moves in the forms that th_syntax's table hasn't: a stack, the move, and the stack behind it
abbrev pub moves_in_forms : List (List Slot × StackOp × List Slot)
moves_in_forms =
    (l 7 ++ i 3 ∷ [], move.Pop2, i 3 ∷ [])
    ∷ (i 1 ∷ l 7 ++ i 3 ∷ [], move.DupX2, i 1 ∷ l 7 ++ i 1 ∷ i 3 ∷ [])
    ∷ (i 1 ∷ i 2 ∷ i 3 ∷ [], move.Dup2, i 1 ∷ i 2 ∷ i 1 ∷ i 2 ∷ i 3 ∷ [])
    ∷ (i 1 ∷ i 2 ∷ i 3 ∷ i 4 ∷ [], move.Dup2X1, i 1 ∷ i 2 ∷ i 3 ∷ i 1 ∷ i 2 ∷ i 4 ∷ [])
    ∷ (i 1 ∷ i 2 ∷ i 3 ∷ i 4 ∷ i 5 ∷ [], move.Dup2X2, i 1 ∷ i 2 ∷ i 3 ∷ i 4 ∷ i 1 ∷ i 2 ∷ i 5 ∷ [])
    ∷ (l 7 ++ i 3 ∷ i 4 ∷ i 5 ∷ [], move.Dup2X2, l 7 ++ i 3 ∷ i 4 ∷ l 7 ++ i 5 ∷ [])
    ∷ (i 1 ∷ i 2 ∷ l 7 ++ i 5 ∷ [], move.Dup2X2, i 1 ∷ i 2 ∷ l 7 ++ i 1 ∷ i 2 ∷ i 5 ∷ [])
    ∷ []

-- ---- elements

-- an instruction for an element, with what it is to store on the stack if anything: on null, on an object that is
-- no array, and on an array of other elements; and on an array of its own of so many elements, at the index
-- behind the last one and at -1
abbrev pub misses : Instr → List Slot → (own count other : ℕ) → List (List Slot × Instr)
misses instr value own count other =
    (value ++ i 0 ∷ none ∷ [], instr) ∷ (value ++ i 0 ∷ at 0 ∷ [], instr) ∷ (value ++ i 0 ∷ at other ∷ [], instr)
    ∷ (value ++ i count ∷ at own ∷ [], instr) ∷ (value ++ less 0 ∷ at own ∷ [], instr) ∷ []

-- the loads, and the stores
abbrev pub missed_loads : List (List Slot × Instr)
missed_loads =
    misses (ArrayLoad elem.Int) [] 2 2 4 ++ misses (ArrayLoad elem.Ref) [] 3 2 2 ++ misses (ArrayLoad elem.Byte) [] 7 1 8
    ++ misses (ArrayLoad elem.Char) [] 8 1 9 ++ misses (ArrayLoad elem.Short) [] 9 1 8 ++ misses LArrayLoad [] 4 1 2

abbrev pub missed_stores : List (List Slot × Instr)
missed_stores =
    misses (ArrayStore elem.Int) (i 6 ∷ []) 2 2 4 ++ misses (ArrayStore elem.Ref) (none ∷ []) 3 2 2
    ++ misses (ArrayStore elem.Byte) (i 6 ∷ []) 7 1 8 ++ misses (ArrayStore elem.Char) (i 6 ∷ []) 8 1 9
    ++ misses (ArrayStore elem.Short) (i 6 ∷ []) 9 1 8 ++ misses LArrayStore (l 6) 4 1 2

-- ---- calls

-- a call of a method that the abstract class declares without code, as if it were static
abbrev pub static_without_code : Effect
static_without_code = effect acting_program (acting_top Done [] []) (InvokeStatic (ref (codes "C") (codes "a") (codes "()V")))

-- methods `m` of these flags, with code and without
abbrev pub with_code : ℕ → List Member
with_code access = method access (codes "m") (codes "()V") 1 just_return ∷ []

abbrev pub without_code : List Member
without_code = field 1025 (codes "m") (codes "()V") ∷ []

-- class 11, an interface with method 17, and 12, an interface below it; 13, a class below that one, with method
-- 18; 14 and 15, classes below the first alone, with method 19 and without one; 16 to 18, classes below the one at
-- 13, whose methods 20 to 22 are abstract, private and static; and 19, below none of the interfaces, with method 23
abbrev pub interface_program : List ClassFile
interface_program =
    class_named 1537 (codes "High") OBJECT.now [] [] without_code ∷ class_named 1537 (codes "Low") OBJECT.now (codes "High" ∷ []) [] []
    ∷ class_named 33 (codes "Both") OBJECT.now (codes "Low" ∷ []) [] (with_code 1)
    ∷ class_named 33 (codes "One") OBJECT.now (codes "High" ∷ []) [] (with_code 1)
    ∷ class_named 33 (codes "Lacking") OBJECT.now (codes "High" ∷ []) [] []
    ∷ class_named 1057 (codes "Abstract") (codes "Both") [] [] without_code
    ∷ class_named 33 (codes "Private") (codes "Both") [] [] (with_code 2)
    ∷ class_named 33 (codes "Static") (codes "Both") [] [] (with_code 9)
    ∷ class_named 33 (codes "Apart") OBJECT.now [] [] (with_code 1) ∷ []

-- an object of each of the classes from 13 on, and an array
abbrev pub interface_state : State
interface_state =
    at_rest (map (λ c. Instance (class_id c) []) (13 ∷ 14 ∷ 15 ∷ 16 ∷ 17 ∷ 18 ∷ 19 ∷ []) ++ Array (codes "[I") [] ∷ []) []
    (map (λ c. Done) interface_program) 0

-- a call of `m` on a reference, by the interface of this name
abbrev pub interface_call : List ℕ → Value → Effect
interface_call owner v =
    effect interface_program (top_of interface_state 18 (Holds v ∷ [])) (InvokeInterface (ref owner (codes "m") (codes "()V")))

-- such calls, with their effects
abbrev pub interface_calls : List (List ℕ × Value × Effect)
interface_calls =
    (codes "High", Address 0, Calls 18 (at 0 ∷ []) []) ∷ (codes "Low", Address 0, Calls 18 (at 0 ∷ []) [])
    ∷ (codes "Low", Address 1, Calls 19 (at 1 ∷ []) []) ∷ (codes "High", Address 2, Ends) ∷ (codes "High", Address 3, Ends)
    ∷ (codes "High", Address 4, Calls 18 (at 4 ∷ []) []) ∷ (codes "High", Address 5, Calls 18 (at 5 ∷ []) [])
    ∷ (codes "High", Address 6, Ends) ∷ (codes "High", Address 7, Ends) ∷ (codes "High", NullValue, Ends) ∷ []

-- ---- a launch

-- an Activity whose constructor stores the new object
abbrev pub constructing_program : List ClassFile
constructing_program =
    class_named 33 (codes "Act") ACTIVITY.now [] (object_field (codes "s") ∷ [])
    (method 1 CONSTRUCTOR.now (codes "()V") 1
    ((0, ALoad 0) ∷ (1, InvokeSpecial (ref ACTIVITY.now CONSTRUCTOR.now (codes "()V"))) ∷ (4, ALoad 0)
    ∷ (5, PutStatic (ref (codes "Act") (codes "s") (codes "Ljava/lang/Object;"))) ∷ (8, Return) ∷ []) ∷ []) ∷ []

-- it is launched: the field has it
abbrev pub constructed : State
constructed = at_rest (Instance (class_id 11) [] ∷ []) (Address 0 ∷ []) (Done ∷ []) 0

-- ---- the initial state

-- two Strings, static fields with 0 and null, and four classes that are untouched
abbrev pub constants_unset : State
constants_unset = record {
  heap = Instance (class_id 1) [] ∷ Instance (class_id 1) [] ∷ [];
  statics = int 0 ∷ int 0 ∷ NullValue ∷ long 0 ∷ int 0 ∷ int 0 ∷ int 0 ∷ NullValue ∷ NullValue ∷ int 0 ∷ [];
  marks = map (λ c. Done) built_in_classes ++ Untouched ∷ Untouched ∷ Untouched ∷ Untouched ∷ [];
  frames = [];
  launched = [];
  ended = false;
}
