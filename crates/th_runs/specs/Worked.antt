-- Small states, programs and slots that show what the definitions say of them.
use Rattle.std.specs.Prelude.{ℕ, pos, false, List, [], ◌∷◌, codes, None, Some}
use Rattle.th_syntax.specs.declared.class_file.ClassFile.{ClassFile}
use Rattle.th_syntax.specs.declared.class_file.Member.{Member}
use Rattle.th_syntax.specs.declared.instr.Instr.TheVariants.{Return}
use Rattle.th_syntax.specs.declared.kind.SlotKind.{SlotKind}
use Rattle.th_syntax.specs.declared.kind.SlotKind.TheVariants as kind
use Rattle.th_syntax.specs.declared.machine.Value.{Value}
use Rattle.th_syntax.specs.declared.machine.Value.TheVariants.{Int as IntValue, Long as LongValue, Null as NullValue, Address}
use Rattle.th_syntax.specs.declared.machine.Slot.{Slot}
use Rattle.th_syntax.specs.declared.machine.Slot.TheVariants.{Holds, SecondHalf}
use Rattle.th_syntax.specs.declared.machine.Object.{Object}
use Rattle.th_syntax.specs.declared.machine.Object.TheVariants.{Instance, Array}
use Rattle.th_syntax.specs.declared.machine.InitStage.TheVariants.{EndInit}
use Rattle.th_syntax.specs.declared.machine.LaunchStage.TheVariants.{OpenClass, MakeObject, EndLaunch}
use Rattle.th_syntax.specs.declared.machine.Frame.{Frame}
use Rattle.th_syntax.specs.declared.machine.Frame.TheVariants.{Code as CodeFrame, Init as InitFrame, Launch as LaunchFrame}
use Rattle.th_syntax.specs.declared.machine.Launched.{Launched}
use Rattle.th_syntax.specs.declared.machine.State.{State}
use Rattle.th_syntax.specs.Machine.{class_id, method_id}

-- ---- addresses

-- a state with these frames, static fields, objects and launched ones
abbrev pub state_with : List Frame → List Value → List Object → List Launched → State
state_with frames statics heap launched = record { heap = heap; statics = statics; marks = []; frames = frames; launched = launched; ended = false }

abbrev pub launched_at : ℕ → Launched
launched_at a = record { object = a; stage = 0 }

-- an object with one field, and an array with one element
abbrev pub object_with : Value → Object
object_with v = Instance (class_id 11) ((record { 0 = 0 }, v) ∷ [])

abbrev pub array_with : Value → Object
array_with v = Array (codes "[I") (v ∷ [])

-- a frame with one local and one slot on its stack
abbrev pub frame_with : Value → Value → Frame
frame_with local top = CodeFrame (method_id 0) 0 (Holds local ∷ SecondHalf ∷ []) (Holds top ∷ [])

-- one object, to which all addresses lead
abbrev pub leading_state : State
leading_state =
    state_with
    (frame_with (Address 0) (Address 0) ∷ InitFrame (class_id 11) EndInit ∷ LaunchFrame (class_id 11) OpenClass ∷ LaunchFrame (class_id 11) MakeObject ∷ LaunchFrame (class_id 11) (EndLaunch 0) ∷ [])
    (Address 0 ∷ NullValue ∷ IntValue (pos 9) ∷ LongValue (pos 9) ∷ []) (object_with (Address 0) ∷ []) (launched_at 0 ∷ [])

-- and to which one leads past it, each from another place
abbrev pub dangling_states : List State
dangling_states =
    state_with (frame_with (Address 1) NullValue ∷ []) [] (object_with NullValue ∷ []) []
    ∷ state_with (frame_with NullValue (Address 1) ∷ []) [] (object_with NullValue ∷ []) []
    ∷ state_with (LaunchFrame (class_id 11) (EndLaunch 1) ∷ []) [] (object_with NullValue ∷ []) []
    ∷ state_with [] (NullValue ∷ Address 1 ∷ []) (object_with NullValue ∷ []) []
    ∷ state_with [] [] (object_with (Address 1) ∷ []) []
    ∷ state_with [] [] (array_with (Address 1) ∷ []) []
    ∷ state_with [] [] (object_with NullValue ∷ []) (launched_at 1 ∷ [])
    ∷ []

-- ---- programs

-- a class with these flags, fields and methods
abbrev pub class_with : ℕ → List Member → List Member → ClassFile
class_with access fields methods =
    record { major = 52; access = access; name = codes "P"; super_name = Some (codes "java/lang/Object"); interfaces = []; fields = fields; methods = methods }

-- an instance method that returns
abbrev pub returning : Member
returning = record {
  access = 1;
  name = codes "m";
  descriptor = codes "()V";
  constant = None;
  code = Some record { max_stack = 0; max_locals = 1; instrs = (0, Return) ∷ []; handlers = 0 };
}

-- an instance field that holds ints
abbrev pub int_field : Member
int_field = record { access = 1; name = codes "f"; descriptor = codes "I"; constant = None; code = None }

-- an interface with an instance method that has code, which no class file of the profile is
abbrev pub running_interface : List ClassFile
running_interface = class_with 1537 [] (returning ∷ []) ∷ []

-- a class with one field
abbrev pub one_field : List ClassFile
one_field = class_with 33 (int_field ∷ []) [] ∷ []

-- an object with this value in that field
abbrev pub field_of : Value → Object
field_of v = Instance (class_id 11) ((record { 0 = 0 }, v) ∷ [])

-- ---- slots

-- a slot of each kind, and one of which nothing is known
abbrev pub kinds_of_each : List SlotKind
kinds_of_each = kind.Int ∷ kind.Ref ∷ kind.Ref ∷ kind.Long ∷ kind.SecondHalf ∷ kind.Unusable ∷ []

abbrev pub slots_of_each : List Slot
slots_of_each = Holds (IntValue (pos 7)) ∷ Holds NullValue ∷ Holds (Address 3) ∷ Holds (LongValue (pos 8)) ∷ SecondHalf ∷ Holds NullValue ∷ []

-- slots that are of another kind than this
abbrev pub other_slots : List (SlotKind × Slot)
other_slots =
    (kind.Int, Holds NullValue) ∷ (kind.Int, Holds (Address 0)) ∷ (kind.Int, Holds (LongValue (pos 1))) ∷ (kind.Int, SecondHalf)
    ∷ (kind.Ref, Holds (IntValue (pos 0))) ∷ (kind.Ref, Holds (LongValue (pos 0))) ∷ (kind.Ref, SecondHalf)
    ∷ (kind.Long, Holds (IntValue (pos 1))) ∷ (kind.Long, Holds NullValue) ∷ (kind.Long, Holds (Address 0)) ∷ (kind.Long, SecondHalf)
    ∷ (kind.SecondHalf, Holds (LongValue (pos 1))) ∷ (kind.SecondHalf, Holds NullValue)
    ∷ []
