-- The kinds of the slots of frames: a frame's locals and operand stack are of the kinds that its method's
-- table has before the instruction at which it stands.
use Rattle.std.specs.Prelude.{ℕ, ◌≡◌, ◌≤◌, true, List, [], ◌∷◌, length, drop, reverse, Option, Some, None, slice_get, ⊤}
use Rattle.std.specs.List.{AllByRecursion}
use Rattle.th_syntax.specs.declared.class_file.ClassFile.{ClassFile}
use Rattle.th_syntax.specs.declared.class_file.Code.{Code}
use Rattle.th_syntax.specs.declared.instr.Instr.{Instr}
use Rattle.th_syntax.specs.declared.kind.SlotKind.{SlotKind}
use Rattle.th_syntax.specs.declared.machine.Value.{Value}
use Rattle.th_syntax.specs.declared.machine.Slot.{Slot}
use Rattle.th_syntax.specs.declared.machine.Frame.{Frame}
use Rattle.th_syntax.specs.declared.machine.Frame.TheVariants.{Code as CodeFrame, Init as InitFrame, Launch as LaunchFrame}
use Rattle.th_syntax.specs.declared.machine.State.{State}
use Rattle.th_syntax.specs.Changes.{FallsThrough}
use Rattle.th_syntax.specs.Flow.{instr_in}
use Rattle.th_syntax.specs.Kinds.{KindsAt, OfKinds}
use Rattle.th_syntax.specs.KindRows.{row_of, result_slots, slots_taken, slots_given, locals_after}
use Rattle.th_syntax.specs.KindTable.{HasKinds}
use Rattle.th_syntax.specs.Program.{Owned, all_classes, fields_of, methods_of, is_launchable}
use Rattle.th_runs.specs.Fitting.{AreOfKinds, IsOfField, IsShaped}

-- a method with code, and the table of its kinds, in which there is no conflict
pub record IsCode (files : List ClassFile) (method : ℕ) : Type 0 where
  pub owned : Owned
  pub numbered : slice_get (methods_of files) method ≡ Some owned
  pub code : Code
  pub has_code : owned.member.code ≡ Some code
  pub table : ℕ → KindsAt
  pub kinds : HasKinds owned.member code table

-- a code frame at an instruction: its locals and its stack are of the kinds before it, and there is room for them
pub record IsAtKinds (files : List ClassFile) (method offset : ℕ) (locals stack : List Slot) : Type 0 where
  pub runs : IsCode files method
  pub local_kinds : List SlotKind
  pub stack_kinds : List SlotKind
  pub known : runs.table offset ≡ OfKinds local_kinds stack_kinds
  pub locals_fit : AreOfKinds local_kinds locals
  pub locals_count : length locals ≡ runs.code.max_locals
  pub stack_fits : AreOfKinds stack_kinds stack
  pub room : length stack ≤ runs.code.max_stack

-- a code frame directly under that of another method, which its instruction called: the arguments are gone
-- from its stack, and the results of that method are what the instruction gives
pub record IsCallingKinds (files : List ClassFile) (called method offset : ℕ) (locals stack : List Slot) : Type 0 where
  pub runs : IsCode files method
  pub local_kinds : List SlotKind
  pub stack_kinds : List SlotKind
  pub known : runs.table offset ≡ OfKinds local_kinds stack_kinds
  pub i : Instr
  pub stands : instr_in runs.code.instrs offset ≡ Some i
  pub falls : FallsThrough i
  pub locals_fit : AreOfKinds (locals_after (row_of i) local_kinds) locals
  pub locals_count : length locals ≡ runs.code.max_locals
  pub stack_fits : AreOfKinds (drop (slots_taken (row_of i)) stack_kinds) stack
  pub callee : Owned
  pub callee_numbered : slice_get (methods_of files) called ≡ Some callee
  pub result : slots_given (row_of i) stack_kinds ≡ reverse (result_slots callee.member.descriptor)

-- a frame that stands at its instruction, or under the code frame of a method
abbrev pub IsFrameOfKinds : List ClassFile → Option ℕ → ℕ → ℕ → List Slot → List Slot → Type 0
IsFrameOfKinds files None method offset locals stack = IsAtKinds files method offset locals stack
IsFrameOfKinds files (Some called) method offset locals stack = IsCallingKinds files called method offset locals stack

-- all frames, under the code frame of a method or under none; a launch is of a launchable class
abbrev pub AreFramesOfKinds : List ClassFile → Option ℕ → List Frame → Type 0
AreFramesOfKinds files over [] = ⊤
AreFramesOfKinds files over (CodeFrame method offset locals stack ∷ below) =
    IsFrameOfKinds files over method.0 offset locals stack × AreFramesOfKinds files (Some method.0) below
AreFramesOfKinds files over (InitFrame class stage ∷ below) = AreFramesOfKinds files None below
AreFramesOfKinds files over (LaunchFrame class stage ∷ below) = (is_launchable files class.0 ≡ true) × AreFramesOfKinds files None below

-- the frames of a state are of the kinds of their instructions, static fields hold values of their kinds,
-- objects have their shapes, and there is a value for each field and a mark for each class
pub record IsOfKinds (files : List ClassFile) (s : State) : Type 0 where
  pub frames : AreFramesOfKinds files None s.frames
  pub statics : (field : ℕ) (v : Value) → slice_get s.statics field ≡ Some v → IsOfField files field v
  pub statics_count : length s.statics ≡ length (fields_of files)
  pub heap : AllByRecursion (IsShaped files) s.heap
  pub marks_count : length s.marks ≡ length (all_classes files)
