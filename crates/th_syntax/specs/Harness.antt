-- The events by which the harness starts code in a state without frames: launches, and calls of
-- handlers on launched objects. All of it is this project's own.
use Rattle.std.specs.Prelude.{ℕ, zero, suc, ◌&&◌, Bool, true, false, not, List, [], ◌∷◌, ◌++◌, length, Option, None, Some, slice_get, slice_set, if◌then◌else◌}
use Rattle.std.specs.Option.{option_and_then, option_map, option_map_or}
use Rattle.th_base.specs.declared.built_in.TheConstants.{BUNDLE_NUMBER}
use Rattle.th_base.specs.declared.lifecycle.Lifecycle.{Lifecycle}
use Rattle.th_base.specs.Hierarchy.{selected_method}
use Rattle.th_syntax.specs.declared.class_file.ClassFile.{ClassFile}
use Rattle.th_syntax.specs.declared.event.Event.{Event}
use Rattle.th_syntax.specs.declared.event.Event.TheVariants.{Launch, Handler}
use Rattle.th_syntax.specs.Machine.{NullValue, Address, Slot, Holds, Object, Frame, LaunchFrame, OpenClass, Launched, State, class_id, class_of, with_frames, ended_state}
use Rattle.th_base.specs.Handlers.{Handler as HandlerMethod, handlers, takes_bundle, stage_after}
use Rattle.th_syntax.specs.Program.{hierarchy_of, is_launchable}
use Rattle.th_syntax.specs.Initial.{new_object}
use Rattle.th_syntax.specs.Effects.{frame_of}

-- the place of a launched object that is counted from 1
abbrev pub place_of : ℕ → Option ℕ
place_of zero = None
place_of (suc place) = Some place

-- nothing runs
abbrev pub is_idle : List Frame → Bool
is_idle [] = true
is_idle (f ∷ fs) = false

-- the method that a handler selects on the object at an address
abbrev pub handler_method : List ClassFile → List Object → ℕ → HandlerMethod → Option ℕ
handler_method files heap a h =
    option_and_then (λ c. option_map (λ id. id.0) (selected_method (hierarchy_of files) c h.name h.descriptor))
    (option_and_then class_of (slice_get heap a))

-- the Bundle that a handler takes, as an argument: null, or the object at an address
abbrev pub bundle_argument : HandlerMethod → Bool → ℕ → List Slot
bundle_argument h fresh a = if takes_bundle h then Holds (if fresh then Address a else NullValue) ∷ [] else []

-- the new objects of a call of a handler
abbrev pub fresh_objects : List ClassFile → HandlerMethod → Bool → List Object
fresh_objects files h fresh = if takes_bundle h && fresh then new_object files BUNDLE_NUMBER ∷ [] else []

-- the state when this frame of a handler's method begins on the launched object at a place, whose stage it sets
abbrev pub handler_begun : List ClassFile → State → ℕ → Launched → HandlerMethod → Bool → ℕ → Frame → State
handler_begun files s place l h fresh stage frame = record s {
  heap = s.heap ++ fresh_objects files h fresh;
  launched = slice_set s.launched place record { object = l.object; stage = stage };
  frames = frame ∷ [];
}

-- a call of a handler; the run ends where no method is selected, or an abstract one
abbrev pub handled : List ClassFile → State → ℕ → Launched → HandlerMethod → Bool → ℕ → State
handled files s place l h fresh stage =
    option_map_or (handler_begun files s place l h fresh stage)
    (option_and_then (λ m. frame_of files m (Holds (Address l.object) ∷ bundle_argument h fresh (length s.heap)))
    (handler_method files s.heap l.object h))
    (ended_state s)

-- a call of a handler, where the lifecycle allows it at the object's stage
abbrev pub handled_by : Lifecycle → List ClassFile → State → ℕ → Bool → Launched → HandlerMethod → Option State
handled_by lifecycle files s place fresh l h = option_map (handled files s place l h fresh) (stage_after lifecycle h l.stage)

-- a call of a handler, by its place, on the launched object at a place
abbrev pub handled_at : Lifecycle → List ClassFile → State → ℕ → Bool → ℕ → Option State
handled_at lifecycle files s handler fresh place =
    option_and_then (λ l. option_and_then (handled_by lifecycle files s place fresh l) (slice_get handlers handler))
    (slice_get s.launched place)

-- a launch of a class, or a call of a handler on a launched object with a fresh Bundle or with null
abbrev pub happened : Lifecycle → List ClassFile → State → Event → Option State
happened lifecycle files s (Launch c) = if is_launchable files c.0 then Some (with_frames s (LaunchFrame c OpenClass ∷ [])) else None
happened lifecycle files s (Handler object handler fresh) = option_and_then (handled_at lifecycle files s handler fresh) (place_of object)

-- the state after an event, in a state without frames that isn't ended; none where the event can't happen
abbrev pub event : Lifecycle → List ClassFile → State → Event → Option State
event lifecycle files s e = if not s.ended && is_idle s.frames then happened lifecycle files s e else None
