-- What instructions do in small states, beside the rows of th_syntax's table: which method `invokespecial`
-- takes, an array as a receiver, stacks that are too short, numbers past their range, an interface that isn't
-- marked as abstract, and arrays of arrays; and a program whose initialisers write in turn.
use Rattle.std.specs.Prelude.{ℕ, pos, List, [], ◌∷◌, codes, map}
use Rattle.th_base.specs.declared.built_in.TheConstants.{OBJECT, CONSTRUCTOR, ACTIVITY}
use Rattle.th_base.specs.declared.operation.Elem.TheVariants.{Ref}
use Rattle.th_syntax.specs.declared.class_file.ClassFile.{ClassFile}
use Rattle.th_syntax.specs.declared.instr.Instr.{Instr}
use Rattle.th_syntax.specs.declared.instr.Instr.TheVariants.{Int, Return, PutStatic, InvokeSpecial, Stack, New, ArrayStore}
use Rattle.th_syntax.specs.declared.instr.StackOp.{StackOp}
use Rattle.th_syntax.specs.declared.instr.StackOp.TheVariants as move
use Rattle.th_syntax.specs.declared.machine.Mark.TheVariants.{Untouched, Done}
use Rattle.th_syntax.specs.declared.machine.Object.{Object}
use Rattle.th_syntax.specs.declared.machine.Object.TheVariants.{Instance, Array}
use Rattle.th_syntax.specs.declared.machine.Slot.{Slot}
use Rattle.th_syntax.specs.declared.machine.Slot.TheVariants.{Holds}
use Rattle.th_syntax.specs.declared.machine.State.{State}
use Rattle.th_syntax.specs.declared.machine.Value.{Value}
use Rattle.th_syntax.specs.declared.machine.Value.TheVariants.{Null as NullValue, Address}
use Rattle.th_syntax.specs.Machine.{class_id}
use Rattle.th_syntax.specs.Effects.{Top, Effect, Stuck}
use Rattle.th_syntax.specs.Step.{effect}
use Rattle.th_syntax.specs.WorkedEffects.{acting_program, acting_top, class_named, field, int, i, ref}
use Rattle.th_syntax.specs.WorkedRuns.{skipping_program, skipping_state, constructor_below, static_method, object_class, at_rest}

-- ---- rows

-- what an instruction finds at the start of the method of this number, without locals, on this stack
abbrev pub top_of : State → ℕ → List Slot → Top
top_of s method stack = record { state = s; method = method; offset = 0; locals = []; stack = stack; below = [] }

-- what an instruction does in the small state of th_syntax's table, on this stack
abbrev pub acts_on : List Slot → Instr → Effect
acts_on stack instr = effect acting_program (acting_top Untouched [] stack) instr

-- what `invokespecial` does on the launched object, in the method of this number, where it names a method of
-- a class. Of three classes each extends the one before: 17 is the first one's constructor, 18 another method
-- of it, 21 that of the second which overrides it, and 23 a method of the third.
abbrev pub special_call : ℕ → List ℕ → List ℕ → Effect
special_call method owner name =
    effect skipping_program (top_of (skipping_state NullValue) method (Holds (Address 0) ∷ [])) (InvokeSpecial (ref owner name (codes "()V")))

-- a call of the constructor of the class Object, on the reference at an address
abbrev pub call_on : ℕ → Effect
call_on a = acts_on (Holds (Address a) ∷ []) (InvokeSpecial (ref OBJECT.now CONSTRUCTOR.now (codes "()V")))

-- stacks that lack a slot for a move
abbrev pub short_stacks : List (List Slot × StackOp)
short_stacks =
    ([], move.Dup) ∷ (i 1 ∷ [], move.DupX1) ∷ (i 1 ∷ i 2 ∷ [], move.DupX2) ∷ (i 1 ∷ [], move.Dup2) ∷ (i 1 ∷ i 2 ∷ [], move.Dup2X1)
    ∷ (i 1 ∷ i 2 ∷ i 3 ∷ [], move.Dup2X2) ∷ []

-- what the moves do on these
abbrev pub moves_on_short : List Effect
moves_on_short = map (λ m. acts_on m.0 (Stack m.1)) short_stacks

abbrev pub all_stuck : List Effect
all_stuck = map (λ m. Stuck) short_stacks

-- a `new` of an interface without the flag of abstract classes
abbrev pub plain_interface : Effect
plain_interface = effect (class_named 513 (codes "D") OBJECT.now [] [] [] ∷ []) (acting_top Untouched [] []) (New (codes "D"))

-- an array of arrays of ints with one element
abbrev pub nested : Value → Object
nested v = Array (codes "[[I") (v ∷ [])

-- a store into it, of the array at an address: of ints at 1, of longs at 2
abbrev pub nested_store : ℕ → Effect
nested_store a =
    let s : State = at_rest (nested NullValue ∷ Array (codes "[I") [] ∷ Array (codes "[J") [] ∷ []) [] [] 0 in
    effect [] (top_of s 0 (Holds (Address a) ∷ i 0 ∷ Holds (Address 0) ∷ [])) (ArrayStore Ref)

-- ---- a run

-- the field of a third class into which each initialiser stores a number
abbrev pub stores_number : ℕ → List (ℕ × Instr)
stores_number n = (0, Int (pos n)) ∷ (1, PutStatic (ref (codes "Log") (codes "n") (codes "I"))) ∷ (4, Return) ∷ []

-- a class whose initialiser does so
abbrev pub writing_class : List ℕ → List ℕ → ℕ → ClassFile
writing_class name super n =
    class_named 33 name super [] [] (constructor_below super ∷ static_method (codes "<clinit>") (stores_number n) ∷ [])

-- an Activity and its superclass, whose initialisers store 2 and 1
abbrev pub writing_program : List ClassFile
writing_program =
    writing_class (codes "Base") ACTIVITY.now 1 ∷ writing_class (codes "Act") (codes "Base") 2
    ∷ object_class (codes "Log") (field 8 (codes "n") (codes "I") ∷ []) [] ∷ []

-- the Activity is launched: its own initialiser was the later one
abbrev pub written_last : State
written_last = at_rest (Instance (class_id 12) [] ∷ []) (int 2 ∷ []) (Done ∷ Done ∷ Done ∷ []) 0
