-- Small programs whose runs are worked out in full: constants and initialisation, Bundles, calls of
-- the superclass, runs that end, and what is joined through a field and an element.
use Rattle.std.specs.Prelude.{ℕ, zero, suc, pos, ◌+◌, ◌||◌, true, false, List, [], ◌∷◌, ◌++◌, codes, map, Option, None, Some, slice_get, ◌≡◌, if◌then◌else◌}
use Rattle.std.specs.Option.{option_and_then, option_map}
use Rattle.th_base.specs.declared.built_in.TheConstants.{ACTIVITY}
use Rattle.th_base.specs.declared.lifecycle.Lifecycle.{Lifecycle}
use Rattle.th_base.specs.declared.lifecycle.Lifecycle.TheVariants.{Chart}
use Rattle.th_syntax.specs.declared.class_file.ClassFile.{ClassFile}
use Rattle.th_syntax.specs.declared.class_file.Constant.{Constant}
use Rattle.th_syntax.specs.declared.class_file.Constant.TheVariants.{Int as IntConstant, Long as LongConstant, Str as StrConstant}
use Rattle.th_syntax.specs.declared.class_file.Member.{Member}
use Rattle.th_syntax.specs.declared.event.Event.{Event}
use Rattle.th_syntax.specs.declared.event.Event.TheVariants.{Launch, Handler}
use Rattle.th_syntax.specs.declared.instr.StackOp.TheVariants.{Dup}
use Rattle.th_syntax.specs.declared.instr.Instr.{Instr}
use Rattle.th_syntax.specs.declared.instr.Instr.TheVariants.{Int, Str, ALoad, ArrayStore, Stack, AReturn, Return, GetStatic, PutStatic, PutField, InvokeVirtual, InvokeSpecial, InvokeStatic, New, ANewArray}
use Rattle.th_base.specs.declared.operation.Elem.TheVariants.{Ref}
use Rattle.th_syntax.specs.Machine.{Value, NullValue, Address, Object, Instance, Array, Mark, Untouched, Done, Launched, State, class_id}
use Rattle.th_syntax.specs.Program.{built_in_classes}
use Rattle.th_syntax.specs.Initial.{initial}
use Rattle.th_syntax.specs.Step.{step}
use Rattle.th_syntax.specs.Harness.{event, is_idle}
use Rattle.th_syntax.specs.Worked.{plain_program, one_launched}
use Rattle.th_syntax.specs.WorkedEffects.{field, method, class_named, field_id, int, long, ref}

-- ---- runs

-- at most so many steps, until nothing runs or the run has ended
abbrev pub settled : List ClassFile → ℕ → State → Option State
settled files zero s = None
settled files (suc n) s = if s.ended || is_idle s.frames then Some s else option_and_then (settled files n) (step files s)

-- these events in order, each followed by at most so many steps until nothing runs
abbrev pub events_from : Lifecycle → List ClassFile → ℕ → List Event → State → Option State
events_from lifecycle files n [] s = Some s
events_from lifecycle files n (e ∷ events) s =
    option_and_then (λ t. option_and_then (events_from lifecycle files n events) (settled files n t)) (event lifecycle files s e)

-- the most steps that an event of a worked run takes
abbrev pub most_steps : ℕ
most_steps = 60

-- the run of these events leads to the state
abbrev pub LeadsTo : Lifecycle → List ClassFile → List Event → State → Type 0
LeadsTo lifecycle files events s = events_from lifecycle files most_steps events (initial files) ≡ Some s

-- the run of these events ends
abbrev pub IsEndedBy : Lifecycle → List ClassFile → List Event → Type 0
IsEndedBy lifecycle files events =
    option_map (λ (s : State). s.ended) (events_from lifecycle files most_steps events (initial files)) ≡ Some true

-- the class of this number is launched; a handler is called, by its place, on the first object that was launched
abbrev pub launch : ℕ → Event
launch c = Launch (class_id c)

abbrev pub called : ℕ → Event
called handler = Handler 1 handler false

-- a state in which nothing runs: its objects, static fields, marks of the files' classes, and the
-- object that is launched, at stage 0
abbrev pub at_rest : List Object → List Value → List Mark → ℕ → State
at_rest heap statics marks object = record {
  heap = heap;
  statics = statics;
  marks = map (λ c. Done) built_in_classes ++ marks;
  frames = [];
  launched = record { object = object; stage = 0 } ∷ [];
  ended = false;
}

-- ---- parts of programs

abbrev pub constant_field : List ℕ → List ℕ → Constant → Member
constant_field name descriptor constant = record (field 8 name descriptor) { constant = Some constant }

-- a static field that holds any object
abbrev pub object_field : List ℕ → Member
object_field name = field 8 name (codes "Ljava/lang/Object;")

-- the constructor of a class with this superclass
abbrev pub constructor_below : List ℕ → Member
constructor_below super =
    method 1 (codes "<init>") (codes "()V") 1
    ((0, ALoad 0) ∷ (1, InvokeSpecial (ref super (codes "<init>") (codes "()V"))) ∷ (4, Return) ∷ [])

-- a method without parameters and result
abbrev pub plain_method : List ℕ → List (ℕ × Instr) → Member
plain_method name instrs = method 1 name (codes "()V") 2 instrs

abbrev pub static_method : List ℕ → List (ℕ × Instr) → Member
static_method name instrs = method 8 name (codes "()V") 1 instrs

abbrev pub creation : List (ℕ × Instr) → Member
creation instrs = method 1 (codes "onCreate") (codes "(Landroid/os/Bundle;)V") 4 instrs

abbrev pub activity_class : List Member → List Member → ClassFile
activity_class fields methods = class_named 33 (codes "Act") ACTIVITY.now [] fields (constructor_below ACTIVITY.now ∷ methods)

-- a class below Object, with its constructor
abbrev pub object_class : List ℕ → List Member → List Member → ClassFile
object_class name fields methods =
    class_named 33 name (codes "java/lang/Object") [] fields (constructor_below (codes "java/lang/Object") ∷ methods)

-- at an offset a new object of the class is made, its constructor called, and its address left on the stack
abbrev pub making : ℕ → List ℕ → List (ℕ × Instr)
making offset name =
    (offset, New name) ∷ (offset + 3, Stack Dup) ∷ (offset + 4, InvokeSpecial (ref name (codes "<init>") (codes "()V"))) ∷ []

-- ---- constants and initialisers

-- The Activity's superclass has constants, and an initialiser that reads a constant of the Activity and
-- stores 6 into one of its own. The Activity's initialiser copies what the superclass's found, and
-- stores a String. The Activity stores itself into a class whose initialiser stores 3; the field and a
-- method are named by a subclass of that class, which stays untouched.
abbrev pub base_class : ClassFile
base_class = class_named 33 (codes "Base") ACTIVITY.now []
    (constant_field (codes "n") (codes "I") (IntConstant (pos 7)) ∷ constant_field (codes "k") (codes "I") (IntConstant (pos 8))
    ∷ constant_field (codes "t") (codes "Ljava/lang/String;") (StrConstant (codes "b"))
    ∷ constant_field (codes "m") (codes "J") (LongConstant (pos 9)) ∷ field 8 (codes "seen") (codes "I") ∷ [])
    (constructor_below ACTIVITY.now
    ∷ static_method (codes "<clinit>") ((0, GetStatic (ref (codes "Act") (codes "k") (codes "I")))
    ∷ (3, PutStatic (ref (codes "Base") (codes "seen") (codes "I"))) ∷ (6, Int (pos 6))
    ∷ (8, PutStatic (ref (codes "Base") (codes "k") (codes "I"))) ∷ (11, Return) ∷ []) ∷ [])

abbrev pub constant_activity : ClassFile
constant_activity = class_named 33 (codes "Act") (codes "Base") []
    (constant_field (codes "k") (codes "I") (IntConstant (pos 5)) ∷ field 8 (codes "copied") (codes "I")
    ∷ field 8 (codes "name") (codes "Ljava/lang/String;") ∷ [])
    (constructor_below (codes "Base")
    ∷ static_method (codes "<clinit>") ((0, GetStatic (ref (codes "Base") (codes "seen") (codes "I")))
    ∷ (3, PutStatic (ref (codes "Act") (codes "copied") (codes "I"))) ∷ (6, Str (codes "a"))
    ∷ (8, PutStatic (ref (codes "Act") (codes "name") (codes "Ljava/lang/String;"))) ∷ (11, Return) ∷ [])
    ∷ creation ((0, ALoad 0) ∷ (1, PutStatic (ref (codes "Below") (codes "o") (codes "Ljava/lang/Object;"))) ∷ (4, Return) ∷ [])
    ∷ plain_method (codes "onStart") ((0, InvokeStatic (ref (codes "Below") (codes "q") (codes "()V"))) ∷ (3, Return) ∷ []) ∷ [])

abbrev pub other_class : ClassFile
other_class = object_class (codes "Other") (object_field (codes "o") ∷ field 8 (codes "x") (codes "I") ∷ [])
    (static_method (codes "<clinit>")
    ((0, Int (pos 3)) ∷ (1, PutStatic (ref (codes "Other") (codes "x") (codes "I"))) ∷ (4, Return) ∷ [])
    ∷ static_method (codes "q") ((0, Return) ∷ []) ∷ [])

abbrev pub below_class : ClassFile
below_class = class_named 33 (codes "Below") (codes "Other") [] [] []

abbrev pub constant_program : List ClassFile
constant_program = base_class ∷ constant_activity ∷ other_class ∷ below_class ∷ []

-- the Strings and the launched object
abbrev pub constant_heap : List Object
constant_heap = Instance (class_id 1) [] ∷ Instance (class_id 1) [] ∷ Instance (class_id 12) [] ∷ []

abbrev pub constants_with : Value → Value → Mark → State
constants_with o x mark = at_rest constant_heap
    (int 7 ∷ int 6 ∷ Address 1 ∷ long 9 ∷ int 5 ∷ int 5 ∷ int 5 ∷ Address 0 ∷ o ∷ x ∷ []) (Done ∷ Done ∷ mark ∷ Untouched ∷ []) 2

-- launched: the class of the field isn't initialised yet
abbrev pub constants_launched : State
constants_launched = constants_with NullValue (int 0) Untouched

-- started: the call of a method opened it
abbrev pub constants_started : State
constants_started = constants_with NullValue (int 3) Done

-- created: the store opened it, and was made again
abbrev pub constants_created : State
constants_created = constants_with (Address 2) (int 3) Done

-- ---- Bundles

-- an Activity that stores what it is created with
abbrev pub bundle_program : List ClassFile
bundle_program = activity_class (object_field (codes "b") ∷ [])
    (creation ((0, ALoad 1) ∷ (1, PutStatic (ref (codes "Act") (codes "b") (codes "Ljava/lang/Object;"))) ∷ (4, Return) ∷ []) ∷ []) ∷ []

abbrev pub bundle_heap : List Object
bundle_heap = Instance (class_id 11) [] ∷ Instance (class_id 8) [] ∷ []

-- ---- calls of the superclass, and ends

-- it stores itself into a static field of the upper class
abbrev pub stores_into : List ℕ → List ℕ → Member
stores_into name into =
    plain_method name ((0, ALoad 0) ∷ (1, PutStatic (ref (codes "Upper") into (codes "Ljava/lang/Object;"))) ∷ (4, Return) ∷ [])

-- two classes above the Activity, the upper one abstract; both declare `m`, and nothing declares an
-- `onStart` with code
abbrev pub upper_activity : ClassFile
upper_activity = class_named 1057 (codes "Upper") ACTIVITY.now [] (object_field (codes "u") ∷ object_field (codes "v") ∷ [])
    (constructor_below ACTIVITY.now
    ∷ stores_into (codes "m") (codes "u")
    ∷ field 1025 (codes "onStart") (codes "()V") ∷ [])

abbrev pub middle_activity : ClassFile
middle_activity = class_named 33 (codes "Middle") (codes "Upper") [] []
    (constructor_below (codes "Upper")
    ∷ stores_into (codes "m") (codes "v")
    ∷ [])

-- it calls a method on itself
abbrev pub calling_itself : List ℕ → Instr → Member
calling_itself name call = plain_method name ((0, ALoad 0) ∷ (1, call) ∷ (4, Return) ∷ [])

abbrev pub lower_activity : ClassFile
lower_activity = class_named 33 (codes "Act") (codes "Middle") [] []
    (constructor_below (codes "Middle")
    ∷ calling_itself (codes "onResume") (InvokeSpecial (ref (codes "Upper") (codes "m") (codes "()V")))
    ∷ calling_itself (codes "onPause") (InvokeVirtual (ref (codes "Upper") (codes "onStart") (codes "()V")))
    ∷ calling_itself (codes "onStop") (InvokeSpecial (ref (codes "Middle") (codes "onStart") (codes "()V"))) ∷ [])

abbrev pub skipping_program : List ClassFile
skipping_program = upper_activity ∷ middle_activity ∷ lower_activity ∷ []

abbrev pub skipping_heap : List Object
skipping_heap = Instance (class_id 13) [] ∷ []

abbrev pub skipping_state : Value → State
skipping_state v = at_rest skipping_heap (NullValue ∷ v ∷ []) (Done ∷ Done ∷ Done ∷ []) 0

-- ---- what is joined

-- an Activity that stores itself into an array, the array into a box that a method returned, and the
-- box into a static field
abbrev pub holding_program : List ClassFile
holding_program =
    object_class (codes "Box") (field 0 (codes "v") (codes "Ljava/lang/Object;") ∷ []) []
    ∷ activity_class (object_field (codes "s") ∷ [])
    (method 8 (codes "make") (codes "()LBox;") 0 (making 0 (codes "Box") ++ ((7, AReturn) ∷ []))
    ∷ creation ((0, InvokeStatic (ref (codes "Act") (codes "make") (codes "()LBox;"))) ∷ (3, Stack Dup) ∷ (4, Int (pos 1))
    ∷ (5, ANewArray (codes "java/lang/Object")) ∷ (8, Stack Dup) ∷ (9, Int (pos 0)) ∷ (10, ALoad 0) ∷ (11, ArrayStore Ref)
    ∷ (12, PutField (ref (codes "Box") (codes "v") (codes "Ljava/lang/Object;")))
    ∷ (15, PutStatic (ref (codes "Act") (codes "s") (codes "Ljava/lang/Object;"))) ∷ (18, Return) ∷ []) ∷ []) ∷ []

abbrev pub holding_heap : List Object
holding_heap =
    Instance (class_id 12) [] ∷ Instance (class_id 11) ((field_id 0, Address 2) ∷ [])
    ∷ Array (codes "[Ljava/lang/Object;") (Address 0 ∷ []) ∷ []

abbrev pub held_in_box : State
held_in_box = at_rest holding_heap (NullValue ∷ Address 1 ∷ []) (Done ∷ Done ∷ []) 0

-- ---- the chart

-- the stage of the first launched object
abbrev pub first_stage : State → Option ℕ
first_stage s = option_map (λ (l : Launched). l.stage) (slice_get s.launched 0)

-- under the chart, the stage after each handler that is called at this stage
abbrev pub stages_from : ℕ → List (Option ℕ)
stages_from stage =
    map (λ handler. option_and_then first_stage (event Chart plain_program (one_launched [] stage) (called handler)))
    (0 ∷ 1 ∷ 2 ∷ 3 ∷ 4 ∷ 5 ∷ 6 ∷ 7 ∷ [])

-- for each stage from 0 to 7, by the handlers in order: onCreate, onStart, onRestart, onResume,
-- onPause, onStop, onDestroy, onSaveInstanceState
abbrev pub chart_rows : List (List (Option ℕ))
chart_rows =
    (Some 1 ∷ None ∷ None ∷ None ∷ None ∷ None ∷ None ∷ None ∷ [])
    ∷ (None ∷ Some 2 ∷ None ∷ None ∷ None ∷ None ∷ None ∷ None ∷ [])
    ∷ (None ∷ None ∷ None ∷ Some 3 ∷ None ∷ None ∷ None ∷ None ∷ [])
    ∷ (None ∷ None ∷ None ∷ None ∷ Some 4 ∷ None ∷ None ∷ None ∷ [])
    ∷ (None ∷ None ∷ None ∷ Some 3 ∷ None ∷ Some 5 ∷ None ∷ Some 4 ∷ [])
    ∷ (None ∷ None ∷ Some 6 ∷ None ∷ None ∷ None ∷ Some 7 ∷ Some 5 ∷ [])
    ∷ (None ∷ Some 2 ∷ None ∷ None ∷ None ∷ None ∷ None ∷ None ∷ [])
    ∷ (None ∷ None ∷ None ∷ None ∷ None ∷ None ∷ None ∷ None ∷ [])
    ∷ []
