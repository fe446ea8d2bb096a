-- What every reachable state of a program keeps that was read, linked and has kinds, in one record.
use Rattle.std.specs.Prelude.{ℕ, ◌≡◌, List, Some, slice_get}
use Rattle.std.specs.List.{AllByRecursion}
use Rattle.th_base.specs.declared.lifecycle.Lifecycle.{Lifecycle}
use Rattle.th_syntax.specs.declared.class_file.ClassFile.{ClassFile}
use Rattle.th_syntax.specs.declared.machine.Object.{Object}
use Rattle.th_syntax.specs.declared.machine.State.{State}
use Rattle.th_syntax.specs.Facts.{IsAtInstruction, KeepsType}
use Rattle.th_syntax.specs.Kept.{IsKept}
use Rattle.th_syntax.specs.Run.{Follows}
use Rattle.th_runs.specs.Addresses.{HasObjects}
use Rattle.th_runs.specs.Entered.{IsEntered}
use Rattle.th_runs.specs.FrameKinds.{IsOfKinds}

-- what the state of any program keeps; code frames stand at instructions; at each address an object stands,
-- which keeps its class or its type in each step and event from here; the classes whose code runs are no
-- untouched ones; and frames, static fields and objects are of their kinds
pub record IsAlways (files : List ClassFile) (s : State) : Type 0 where
  pub kept : IsKept files s
  pub instructions : AllByRecursion (IsAtInstruction files) s.frames
  pub addresses : HasObjects s
  pub types : (lifecycle : Lifecycle) (t : State) (address : ℕ) (o : Object) → Follows lifecycle files s t
      → slice_get s.heap address ≡ Some o → KeepsType o t.heap address
  pub entered : AllByRecursion (IsEntered files s.marks) s.frames
  pub kinds : IsOfKinds files s
