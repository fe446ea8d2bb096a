-- Addresses lead to objects: wherever a state holds one, an object stands there in the heap.
use Rattle.std.specs.Prelude.{ℕ, ◌<◌, length, ⊤}
use Rattle.std.specs.List.{AllByRecursion}
use Rattle.th_syntax.specs.declared.machine.Value.{Value}
use Rattle.th_syntax.specs.declared.machine.Value.TheVariants.{Int as IntValue, Long as LongValue, Null as NullValue, Address}
use Rattle.th_syntax.specs.declared.machine.Slot.{Slot}
use Rattle.th_syntax.specs.declared.machine.Slot.TheVariants.{Holds, SecondHalf}
use Rattle.th_syntax.specs.declared.machine.Object.{Object}
use Rattle.th_syntax.specs.declared.machine.LaunchStage.TheVariants.{OpenClass, MakeObject, EndLaunch}
use Rattle.th_syntax.specs.declared.machine.Frame.{Frame}
use Rattle.th_syntax.specs.declared.machine.Frame.TheVariants.{Code as CodeFrame, Init as InitFrame, Launch as LaunchFrame}
use Rattle.th_syntax.specs.declared.machine.Launched.{Launched}
use Rattle.th_syntax.specs.declared.machine.State.{State}
use Rattle.th_syntax.specs.Machine.{parts_of}

-- the value that a slot holds, if any, is such a value
abbrev pub IsOf : (Value → Type 0) → Slot → Type 0
IsOf P (Holds v) = P v
IsOf P SecondHalf = ⊤

-- a value is no address from this one on
abbrev pub IsBelow : ℕ → Value → Type 0
IsBelow end (IntValue n) = ⊤
IsBelow end (LongValue n) = ⊤
IsBelow end NullValue = ⊤
IsBelow end (Address a) = a < end

-- the locals and the operand stack of code, and the object of a launch that ends next
abbrev pub IsFrameBelow : ℕ → Frame → Type 0
IsFrameBelow end (CodeFrame method offset locals stack) = AllByRecursion (IsOf (IsBelow end)) locals × AllByRecursion (IsOf (IsBelow end)) stack
IsFrameBelow end (InitFrame class stage) = ⊤
IsFrameBelow end (LaunchFrame class OpenClass) = ⊤
IsFrameBelow end (LaunchFrame class MakeObject) = ⊤
IsFrameBelow end (LaunchFrame class (EndLaunch object)) = object < end

-- the instance fields of an object, or the elements of an array
abbrev pub IsObjectBelow : ℕ → Object → Type 0
IsObjectBelow end o = AllByRecursion (IsBelow end) (parts_of o)

-- an object that the harness launched
abbrev pub IsLaunchedBelow : ℕ → Launched → Type 0
IsLaunchedBelow end l = l.object < end

-- no address that a state holds is this one or above it
pub record AreBelow (end : ℕ) (s : State) : Type 0 where
  pub frames : AllByRecursion (IsFrameBelow end) s.frames
  pub statics : AllByRecursion (IsBelow end) s.statics
  pub heap : AllByRecursion (IsObjectBelow end) s.heap
  pub launched : AllByRecursion (IsLaunchedBelow end) s.launched

-- at each address that a state holds an object stands
abbrev pub HasObjects : State → Type 0
HasObjects s = AreBelow (length s.heap) s
