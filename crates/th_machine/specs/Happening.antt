-- What comes of an event.
use Rattle.std.specs.Prelude.{ℕ, ◌≡◌, ◌==◌, Bool, List, [], ◌∷◌, ◌++◌, Option, None, Some, slice_get, slice_set, if◌then◌else◌}
use Rattle.std.specs.Option.{option_and_then}
use Rattle.th_base.specs.declared.built_in.TheConstants.{BUNDLE_NUMBER}
use Rattle.th_base.specs.declared.lifecycle.Lifecycle.{Lifecycle}
use Rattle.th_base.specs.declared.number.ClassId.{ClassId}
use Rattle.th_base.specs.Handlers.{handlers, stage_after}
use Rattle.th_syntax.specs.declared.class_file.ClassFile.{ClassFile}
use Rattle.th_syntax.specs.declared.machine.Frame.{Frame}
use Rattle.th_syntax.specs.declared.machine.Frame.TheVariants.{Launch as LaunchFrame}
use Rattle.th_syntax.specs.declared.machine.Launched.{Launched}
use Rattle.th_syntax.specs.declared.machine.LaunchStage.TheVariants.{OpenClass}
use Rattle.th_syntax.specs.declared.machine.Object.{Object}
use Rattle.th_syntax.specs.declared.machine.State.{State}
use Rattle.th_syntax.specs.Harness.{handled_at, place_of}
use Rattle.th_syntax.specs.Held.{is_full, values_held}
use Rattle.th_syntax.specs.Initial.{new_object}
use Rattle.th_syntax.specs.Machine.{with_frames}
use Rattle.th_syntax.specs.Program.{is_launchable}
use Rattle.th_machine.specs.declared.happening.Happening.{Happening}
use Rattle.th_machine.specs.declared.happening.Came.{Came}
use Rattle.th_machine.specs.declared.happening.Came.TheVariants.{Nothing, Full, Made}

-- what came of an event after which there is this state, if it can happen
abbrev pub came_of : List ClassFile → State → Option State → Came
came_of files s None = Nothing
came_of files s (Some t) = if is_full files s t then Full else Made

-- the state then
abbrev pub state_then : List ClassFile → State → Option State → State
state_then files s None = s
state_then files s (Some t) = if is_full files s t then s else t

-- what comes of an event that leads to this state, if it can happen
pub record IsLed (files : List ClassFile) (s : State) (t : Option State) (h : Happening) : Type 0 where
  pub came : h.came ≡ came_of files s t
  pub state : h.state ≡ state_then files s t
  pub held : h.held ≡ values_held files h.state

-- the stage after a handler by its place, where the lifecycle allows the call
abbrev pub stage_led : Lifecycle → ℕ → ℕ → Option ℕ
stage_led lifecycle handler stage = option_and_then (λ h. stage_after lifecycle h stage) (slice_get handlers handler)

-- where the stage is this one, another
abbrev pub stage_where : ℕ → ℕ → ℕ → Option ℕ
stage_where before after stage = if before == stage then Some after else None

-- the state after a launch of a class, if it is launchable
abbrev pub launch_of : List ClassFile → State → ClassId → Option State
launch_of files s c = if is_launchable files c.0 then Some (with_frames s (LaunchFrame c OpenClass ∷ [])) else None

-- new objects of a call: a Bundle, or none
abbrev pub bundles : List ClassFile → Bool → List Object
bundles files makes = if makes then new_object files BUNDLE_NUMBER ∷ [] else []

-- the state when a handler's method begins, on a launched object that then has this stage
abbrev pub begun : List ClassFile → State → ℕ → Launched → Bool → Frame → State
begun files s place l makes frame = record s {
  heap = s.heap ++ bundles files makes;
  launched = slice_set s.launched place l;
  frames = frame ∷ [];
}

-- the state after a call of a handler, by its place, on a launched object that is counted from 1, if it is allowed
abbrev pub call_of : Lifecycle → List ClassFile → State → ℕ → ℕ → Bool → Option State
call_of lifecycle files s object handler fresh = option_and_then (handled_at lifecycle files s handler fresh) (place_of object)
