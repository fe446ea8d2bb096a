-- What a step or an event may change, one fact for each kind. Laws say that each instruction, step and
-- event keeps to it, so what every run keeps is shown by the kinds, and not by the instructions.
use Rattle.std.specs.Prelude.{ℕ, ◌≡◌, ◌⊎◌, ⊤, Bool, true, List, [], ◌∷◌, ◌++◌, length, replicate, codes, Option, Some, slice_get, slice_set, Contains}
use Rattle.th_base.specs.IdSet.{has}
use Rattle.th_base.specs.declared.lifecycle.Lifecycle.{Lifecycle}
use Rattle.th_base.specs.declared.number.ClassId.{ClassId}
use Rattle.th_base.specs.declared.number.MethodId.{MethodId}
use Rattle.th_base.specs.declared.class.FieldInfo.{FieldInfo}
use Rattle.th_base.specs.declared.class.MethodInfo.{MethodInfo}
use Rattle.th_base.specs.Hierarchy.{superclass_of, supertypes_of, declared_method}
use Rattle.th_syntax.specs.declared.class_file.ClassFile.{ClassFile}
use Rattle.th_syntax.specs.declared.class_file.Code.{Code}
use Rattle.th_syntax.specs.declared.instr.Instr.{Instr}
use Rattle.th_syntax.specs.declared.instr.Instr.TheVariants.{PutStatic, InvokeVirtual, InvokeSpecial, InvokeInterface, InvokeStatic, New}
use Rattle.th_syntax.specs.declared.instr.MemberRef.{MemberRef}
use Rattle.th_syntax.specs.Flow.{leads_to, instr_in, successors_of}
use Rattle.th_syntax.specs.Machine.{Value, Address, Slot, Holds, Object, Instance, Array, Untouched, InProgress, Done, OpenSuperclass, CallInitialiser, EndInit, OpenClass, MakeObject, EndLaunch, Frame, CodeFrame, InitFrame, LaunchFrame, Launched, State, class_at, class_id, method_id, with_frames, ended_state}
use Rattle.th_syntax.specs.Slots.{locals_with}
use Rattle.th_base.specs.Handlers.{Handler, handlers, stage_after}
use Rattle.th_syntax.specs.Program.{is_launchable, hierarchy_of, number_named, code_of, instr_at, next_offset}
use Rattle.th_syntax.specs.Initial.{default_value, new_object}
use Rattle.th_syntax.specs.Effects.{Top, Effect, Stuck, Ends, GoesOn, Jumps, SetsStatic, SetsObject, Makes, Opens, Calls, Returns, opened}
use Rattle.th_syntax.specs.Fields.{field_resolved}
use Rattle.th_syntax.specs.Arrays.{array_descriptor}
use Rattle.th_syntax.specs.Calls.{Invoked, invoked, selected_for, special_method}
use Rattle.th_syntax.specs.Harness.{bundle_argument, handler_method, handler_begun}

-- control may go on behind the instruction
abbrev pub FallsThrough : Instr → Type 0
FallsThrough i = (front : List ℕ) × ((behind : List ℕ) → leads_to behind i ≡ front ++ behind)

-- the class is in progress or done
abbrev pub IsInitialised : State → ℕ → Type 0
IsInitialised s c = (slice_get s.marks c ≡ Some InProgress) ⊎ (slice_get s.marks c ≡ Some Done)

-- two objects of one class, or two arrays of one type
abbrev pub AreOfOneType : Object → Object → Type 0
AreOfOneType (Instance c fields) (Instance d others) = c ≡ d
AreOfOneType (Instance c fields) (Array descriptor elements) = ⊥
AreOfOneType (Array descriptor elements) (Instance c fields) = ⊥
AreOfOneType (Array descriptor elements) (Array other elements_too) = descriptor ≡ other

-- the method that a call takes on the class of its receiver
pub record IsOnReceiver (files : List ClassFile) (t : Top) (m : Invoked) (taken : ℕ → Option ℕ) (method : ℕ) : Type 0 where
  pub receiver : Value
  pub class : ℕ
  pub at : class_at t.state.heap receiver ≡ Some class
  pub fits : has (supertypes_of (hierarchy_of files) class) m.declaring ≡ true
  pub takes : taken class ≡ Some method

-- the method that a call takes
pub data Takes (files : List ClassFile) (t : Top) : Instr → ℕ → Type 0 where
  by_virtual : {method : ℕ} (r : MemberRef) (m : Invoked) → invoked files r ≡ Some m
      → IsOnReceiver files t m (selected_for (hierarchy_of files) m.method) method
      → Takes files t (InvokeVirtual r) method
  by_special : {method : ℕ} (r : MemberRef) (m : Invoked) → invoked files r ≡ Some m
      → IsOnReceiver files t m (λ c. special_method files t.method m) method
      → Takes files t (InvokeSpecial r) method
  by_interface : {method : ℕ} (r : MemberRef) (m : Invoked) → invoked files r ≡ Some m
      → IsOnReceiver files t m (selected_for (hierarchy_of files) m.method) method
      → Takes files t (InvokeInterface r) method
  by_static : (r : MemberRef) (m : Invoked) → invoked files r ≡ Some m → IsInitialised t.state m.declaring
      → Takes files t (InvokeStatic r) m.method.id.0

-- what an instruction may do where it finds this
pub data IsAllowed (files : List ClassFile) (t : Top) (i : Instr) : Effect → Type 0 where
  stuck : IsAllowed files t i Stuck
  ends : IsAllowed files t i Ends
  goes_on : {locals stack : List Slot} → FallsThrough i → IsAllowed files t i (GoesOn locals stack)
  jumps : {target : ℕ} {stack : List Slot} → ((behind : List ℕ) → has (leads_to behind i) target ≡ true)
      → IsAllowed files t i (Jumps target stack)
  -- only a `putstatic` sets a static field, that to which it resolves, of a class that is initialised
  sets_static : {v : Value} {stack : List Slot} (r : MemberRef) (f : ℕ × FieldInfo) → i ≡ PutStatic r → field_resolved files r ≡ Some f
      → IsInitialised t.state f.0
      → IsAllowed files t i (SetsStatic f.1.id.0 v stack)
  -- an object keeps its class, and an array its type
  sets_object : {a : ℕ} {o : Object} {stack : List Slot} (old : Object) → FallsThrough i → slice_get t.state.heap a ≡ Some old
      → AreOfOneType old o
      → IsAllowed files t i (SetsObject a o stack)
  -- only a `new` makes an object, of the class that it names, which is initialised
  makes_instance : {stack : List Slot} (name : List ℕ) (c : ℕ) → i ≡ New name → number_named files name ≡ Some c → IsInitialised t.state c
      → IsAllowed files t i (Makes (new_object files c) stack)
  makes_array : {stack : List Slot} (component : List ℕ) (count : ℕ) → FallsThrough i
      → IsAllowed files t i (Makes (Array (array_descriptor component) (replicate count (default_value component))) stack)
  opens : {c : ℕ} → slice_get t.state.marks c ≡ Some Untouched → IsAllowed files t i (Opens c)
  calls : {method : ℕ} {stack : List Slot} (code : Code) (arguments : List Slot) → Takes files t i method → code_of files method ≡ Some code
      → IsAllowed files t i (Calls method (locals_with arguments code.max_locals) stack)
  returns : {results : List Slot} → IsAllowed files t i (Returns results)

-- ---- changes of states

-- what an instruction finds in a state with this code frame on top
abbrev pub top_at : State → MethodId → ℕ → List Slot → List Slot → List Frame → Top
top_at s method offset locals stack below =
    record { state = s; method = method.0; offset = offset; locals = locals; stack = stack; below = below }

-- the instruction at an offset of a method leads to another offset
pub record IsEdge (files : List ClassFile) (method offset next : ℕ) : Type 0 where
  pub code : Code
  pub is_code : code_of files method ≡ Some code
  pub i : Instr
  pub stands : instr_in code.instrs offset ≡ Some i
  pub leads : Contains (successors_of code.instrs (offset, i)) next

-- the superclass of a class, where it has one, is not untouched
abbrev pub IsSuperclassOpen : List ClassFile → State → ℕ → Type 0
IsSuperclassOpen files s c = (k : ℕ) → superclass_of (hierarchy_of files) c ≡ Some k → slice_get s.marks k ≡ Some Untouched → ⊥

-- no code frame waits on top of these
abbrev pub HasNoWaiting : List Frame → Type 0
HasNoWaiting [] = ⊤
HasNoWaiting (CodeFrame method offset locals stack ∷ below) = ⊥
HasNoWaiting (InitFrame class stage ∷ below) = ⊤
HasNoWaiting (LaunchFrame class stage ∷ below) = ⊤

-- the state after a step or an event of a state that isn't ended
pub data IsChange (lifecycle : Lifecycle) (files : List ClassFile) (s : State) : State → Type 0 where
  ends_run : IsChange lifecycle files s (ended_state s)
  -- the frame on top goes on along an edge
  moves : (method : MethodId) (offset next : ℕ) (locals stack locals_after stack_after : List Slot) (below : List Frame)
      → s.frames ≡ CodeFrame method offset locals stack ∷ below → IsEdge files method.0 offset next
      → IsChange lifecycle files s (with_frames s (CodeFrame method next locals_after stack_after ∷ below))
  -- and sets the static field to which a `putstatic` resolves
  sets_a_static : (method : MethodId) (offset next : ℕ) (locals stack stack_after : List Slot) (below : List Frame) (v : Value)
      (r : MemberRef) (f : ℕ × FieldInfo)
      → s.frames ≡ CodeFrame method offset locals stack ∷ below → IsEdge files method.0 offset next
      → instr_at files method.0 offset ≡ Some (PutStatic r) → field_resolved files r ≡ Some f → IsInitialised s f.0
      → IsChange lifecycle files s (record s {
        statics = slice_set s.statics f.1.id.0 v;
        frames = CodeFrame method next locals stack_after ∷ below;
      })
  -- and sets a field of an object, or an element of an array
  sets_an_object : (method : MethodId) (offset next : ℕ) (locals stack stack_after : List Slot) (below : List Frame)
      (a : ℕ) (old o : Object)
      → s.frames ≡ CodeFrame method offset locals stack ∷ below → IsEdge files method.0 offset next
      → slice_get s.heap a ≡ Some old → AreOfOneType old o
      → IsChange lifecycle files s (record s { heap = slice_set s.heap a o; frames = CodeFrame method next locals stack_after ∷ below })
  -- and makes an object of the class that a `new` names
  makes_an_instance : (method : MethodId) (offset next : ℕ) (locals stack stack_after : List Slot) (below : List Frame)
      (name : List ℕ) (c : ℕ)
      → s.frames ≡ CodeFrame method offset locals stack ∷ below → IsEdge files method.0 offset next
      → instr_at files method.0 offset ≡ Some (New name) → number_named files name ≡ Some c → IsInitialised s c
      → IsChange lifecycle files s (record s {
        heap = s.heap ++ new_object files c ∷ [];
        frames = CodeFrame method next locals stack_after ∷ below;
      })
  -- and makes an array, whose elements are 0 or null
  makes_an_array : (method : MethodId) (offset next : ℕ) (locals stack stack_after : List Slot) (below : List Frame)
      (component : List ℕ) (count : ℕ)
      → s.frames ≡ CodeFrame method offset locals stack ∷ below → IsEdge files method.0 offset next
      → IsChange lifecycle files s (record s {
        heap = s.heap ++ Array (array_descriptor component) (replicate count (default_value component)) ∷ [];
        frames = CodeFrame method next locals stack_after ∷ below;
      })
  -- an instruction opens an untouched class
  opens_class : (c : ℕ) (method : MethodId) (offset : ℕ) (locals stack : List Slot) (below : List Frame)
      → s.frames ≡ CodeFrame method offset locals stack ∷ below → slice_get s.marks c ≡ Some Untouched
      → IsChange lifecycle files s (opened files s c)
  -- a call: the frame on top waits, and a method's code begins
  calls_method : (method : MethodId) (offset taken : ℕ) (locals stack stack_after arguments : List Slot) (below : List Frame)
      (i : Instr) (code : Code)
      → s.frames ≡ CodeFrame method offset locals stack ∷ below → instr_at files method.0 offset ≡ Some i
      → Takes files (top_at s method offset locals stack below) i taken → code_of files taken ≡ Some code
      → IsChange lifecycle files s (with_frames s (
      CodeFrame (method_id taken) 0 (locals_with arguments code.max_locals) [] ∷ CodeFrame method offset locals stack_after ∷ below))
  -- a return to a frame that waits, which goes on behind its call
  returns_to : (method caller : MethodId) (offset waiting next : ℕ) (locals stack results locals_below stack_below : List Slot)
      (below : List Frame)
      → s.frames ≡ CodeFrame method offset locals stack ∷ CodeFrame caller waiting locals_below stack_below ∷ below
      → next_offset files caller.0 waiting ≡ Some next
      → IsChange lifecycle files s (with_frames s (CodeFrame caller next locals_below (results ++ stack_below) ∷ below))
  -- a return where none waits
  returns_off : (method : MethodId) (offset : ℕ) (locals stack : List Slot) (below : List Frame)
      → s.frames ≡ CodeFrame method offset locals stack ∷ below → HasNoWaiting below → IsChange lifecycle files s (with_frames s below)
  -- an initialisation finds its superclass open, or opens it
  finds_superclass : (c : ClassId) (below : List Frame) → s.frames ≡ InitFrame c OpenSuperclass ∷ below → IsSuperclassOpen files s c.0
      → IsChange lifecycle files s (with_frames s (InitFrame c CallInitialiser ∷ below))
  opens_superclass : (c : ClassId) (k : ℕ) (below : List Frame) → s.frames ≡ InitFrame c OpenSuperclass ∷ below
      → superclass_of (hierarchy_of files) c.0 ≡ Some k → slice_get s.marks k ≡ Some Untouched
      → IsChange lifecycle files s (opened files (with_frames s (InitFrame c CallInitialiser ∷ below)) k)
  -- it calls the initialiser, or there is none with code
  calls_initialiser : (c : ClassId) (below : List Frame) (m : MethodInfo) (code : Code) → s.frames ≡ InitFrame c CallInitialiser ∷ below
      → declared_method (hierarchy_of files) (codes "<clinit>") (codes "()V") c.0 ≡ Some m → code_of files m.id.0 ≡ Some code
      → IsChange lifecycle files s (with_frames s (CodeFrame m.id 0 (locals_with [] code.max_locals) [] ∷ InitFrame c EndInit ∷ below))
  calls_none : (c : ClassId) (below : List Frame) → s.frames ≡ InitFrame c CallInitialiser ∷ below
      → IsChange lifecycle files s (with_frames s (InitFrame c EndInit ∷ below))
  -- it ends
  initialised_class : (c : ClassId) (below : List Frame) → s.frames ≡ InitFrame c EndInit ∷ below
      → IsChange lifecycle files s (record s { marks = slice_set s.marks c.0 Done; frames = below })
  -- a launch finds its class open, or opens it
  finds_class : (c : ClassId) (below : List Frame) → s.frames ≡ LaunchFrame c OpenClass ∷ below
      → (slice_get s.marks c.0 ≡ Some Untouched → ⊥)
      → IsChange lifecycle files s (with_frames s (LaunchFrame c MakeObject ∷ below))
  opens_launched : (c : ClassId) (below : List Frame) → s.frames ≡ LaunchFrame c OpenClass ∷ below → slice_get s.marks c.0 ≡ Some Untouched
      → IsChange lifecycle files s (opened files (with_frames s (LaunchFrame c MakeObject ∷ below)) c.0)
  -- it makes the object and calls its constructor
  makes_launched : (c : ClassId) (below : List Frame) (m : MethodInfo) (code : Code) → s.frames ≡ LaunchFrame c MakeObject ∷ below
      → declared_method (hierarchy_of files) (codes "<init>") (codes "()V") c.0 ≡ Some m → code_of files m.id.0 ≡ Some code
      → IsChange lifecycle files s (record s {
        heap = s.heap ++ new_object files c.0 ∷ [];
        frames =
            CodeFrame m.id 0 (locals_with (Holds (Address (length s.heap)) ∷ []) code.max_locals) []
            ∷ LaunchFrame c (EndLaunch (length s.heap)) ∷ below;
      })
  -- it ends
  launches_object : (c : ClassId) (object : ℕ) (below : List Frame) → s.frames ≡ LaunchFrame c (EndLaunch object) ∷ below
      → IsChange lifecycle files s (record s { launched = s.launched ++ record { object = object; stage = 0 } ∷ []; frames = below })
  -- the harness begins a launch
  begins_launch : (c : ClassId) → s.frames ≡ [] → is_launchable files c.0 ≡ true
      → IsChange lifecycle files s (with_frames s (LaunchFrame c OpenClass ∷ []))
  -- the harness calls a handler, which sets the stage of the launched object
  begins_handler : (place number stage method : ℕ) (l : Launched) (h : Handler) (fresh : Bool) (code : Code) → s.frames ≡ []
      → slice_get s.launched place ≡ Some l → slice_get handlers number ≡ Some h → stage_after lifecycle h l.stage ≡ Some stage
      → handler_method files s.heap l.object h ≡ Some method → code_of files method ≡ Some code
      → IsChange lifecycle files s (handler_begun files s place l h fresh stage (
      CodeFrame (method_id method) 0 (locals_with (Holds (Address l.object) ∷ bundle_argument h fresh (length s.heap)) code.max_locals) []))
