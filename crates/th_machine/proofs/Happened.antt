-- What comes of events.
use Rattle.std.proofs.Common.{◌≡◌, ◌==◌, ◌&&◌, ◌≤◌, nat_le, zero, suc, ◌+◌, ℕ, Bool, true, false, List, [], ◌∷◌, length, refl, sym, ap, ◌∙◌, arith, Option, Some, None, if◌then◌else◌}
use Rattle.std.specs.Prelude.{not, slice_get, sum_by}
use Rattle.std.specs.Option.{option_map, option_map_or, option_and_then, option_or}
use Rattle.std.proofs.lemmas.List.Sums.{sum_by-cons, sum_by-append}
use Rattle.th_base.specs.declared.handler.TheConstants.{ON_CREATE, ON_START, ON_RESTART, ON_RESUME, ON_PAUSE, ON_STOP, ON_DESTROY, ON_SAVE_INSTANCE_STATE}
use Rattle.th_base.specs.declared.built_in.TheConstants.{BUILT_IN_COUNT}
use Rattle.th_base.specs.declared.class.ClassInfo.{ClassInfo}
use Rattle.th_base.specs.Launchable.{can_be_made, is_activity, is_launchable}
use Rattle.th_base.specs.declared.lifecycle.Lifecycle.{Lifecycle}
use Rattle.th_base.specs.declared.lifecycle.Lifecycle.TheVariants.{Chart}
use Rattle.th_base.specs.declared.number.ClassId.{ClassId}
use Rattle.th_base.specs.Handlers.{Handler, ChartRow, handlers, row, stage_after, takes_bundle, with_bundle, without_bundle}
use Rattle.th_syntax.specs.declared.class_file.ClassFile.{ClassFile}
use Rattle.th_syntax.specs.declared.class_file.Code.{Code}
use Rattle.th_syntax.specs.declared.event.Event.{Event}
use Rattle.th_syntax.specs.declared.machine.Frame.{Frame}
use Rattle.th_syntax.specs.declared.machine.Frame.TheVariants.{Code as CodeFrame, Launch as LaunchFrame}
use Rattle.th_syntax.specs.declared.machine.Launched.{Launched}
use Rattle.th_syntax.specs.declared.machine.LaunchStage.TheVariants.{OpenClass}
use Rattle.th_syntax.specs.declared.machine.Slot.{Slot}
use Rattle.th_syntax.specs.declared.machine.Slot.TheVariants.{Holds}
use Rattle.th_syntax.specs.declared.machine.State.{State}
use Rattle.th_syntax.specs.declared.machine.Value.TheVariants.{Address, Null as NullValue}
use Rattle.th_syntax.specs.Effects.{frame_of}
use Rattle.th_syntax.specs.Harness.{bundle_argument, event, handled, handled_at, handled_by, handler_begun, handler_method, happened, is_idle, place_of}
use Rattle.th_syntax.specs.Held.{frame_size, object_size, values_held, is_full, is_past_limit}
use Rattle.th_syntax.specs.Machine.{ended_state, method_id, with_frames}
use Rattle.th_syntax.specs.Program.{code_of}
use Rattle.th_syntax.specs.Slots.{locals_with}
use Rattle.th_machine.specs.declared.happening.Happening.{Happening}
use Rattle.th_machine.specs.declared.happening.Came.TheVariants.{Nothing, Full, Made}
use Rattle.th_machine.specs.Happening.{IsLed, begun, bundles, call_of, stage_led, stage_where}
use Rattle.th_machine.specs.Holding.{code_size}
use Rattle.std.proofs.lemmas.Bool.{and_right, le-ltb}

-- ---- the chart

one_row : (r : ChartRow) (b : Bool) → option_map (λ (x : ChartRow). x.after) (if b then Some r else None) ≡ (if b then Some r.after else None)
one_row r true = refl
one_row r false = refl

two_rows : (r q : ChartRow) (b d : Bool)
    → option_map (λ (x : ChartRow). x.after) (if b then Some r else if d then Some q else None) ≡ option_or (if b then Some r.after else None) (if d then Some q.after else None)
two_rows r q true d = refl
two_rows r q false true = refl
two_rows r q false false = refl

pub create_led : (stage : ℕ) → stage_where 0 1 stage ≡ stage_led Chart 0 stage
create_led stage = sym (one_row (row (with_bundle ON_CREATE.now) 0 1) (0 == stage))

pub start_led : (stage : ℕ) → option_or (stage_where 1 2 stage) (stage_where 6 2 stage) ≡ stage_led Chart 1 stage
start_led stage = sym (two_rows (row (without_bundle ON_START.now) 1 2) (row (without_bundle ON_START.now) 6 2) (1 == stage) (6 == stage))

pub restart_led : (stage : ℕ) → stage_where 5 6 stage ≡ stage_led Chart 2 stage
restart_led stage = sym (one_row (row (without_bundle ON_RESTART.now) 5 6) (5 == stage))

pub resume_led : (stage : ℕ) → option_or (stage_where 2 3 stage) (stage_where 4 3 stage) ≡ stage_led Chart 3 stage
resume_led stage = sym (two_rows (row (without_bundle ON_RESUME.now) 2 3) (row (without_bundle ON_RESUME.now) 4 3) (2 == stage) (4 == stage))

pub pause_led : (stage : ℕ) → stage_where 3 4 stage ≡ stage_led Chart 4 stage
pause_led stage = sym (one_row (row (without_bundle ON_PAUSE.now) 3 4) (3 == stage))

pub stop_led : (stage : ℕ) → stage_where 4 5 stage ≡ stage_led Chart 5 stage
stop_led stage = sym (one_row (row (without_bundle ON_STOP.now) 4 5) (4 == stage))

pub destroy_led : (stage : ℕ) → stage_where 5 7 stage ≡ stage_led Chart 6 stage
destroy_led stage = sym (one_row (row (without_bundle ON_DESTROY.now) 5 7) (5 == stage))

pub save_led : (stage : ℕ) → option_or (stage_where 4 4 stage) (stage_where 5 5 stage) ≡ stage_led Chart 7 stage
save_led stage =
    sym (two_rows (row (with_bundle ON_SAVE_INSTANCE_STATE.now) 4 4) (row (with_bundle ON_SAVE_INSTANCE_STATE.now) 5 5) (4 == stage) (5 == stage))

-- ---- room

itself : (n : ℕ) → is_past_limit n n ≡ false
itself n = and_right _ _ (le-ltb n n (omega arith))

pub led_nothing : (files : List ClassFile) (s : State) (h : Happening) (held : ℕ) → held ≡ values_held files s → h.came ≡ Nothing → h.state ≡ s → h.held ≡ held → IsLed files s None h
led_nothing files s h held before came stays holds = record { came = came; state = stays; held = holds ∙ before ∙ ap (values_held files) (sym stays) }

looked : (files : List ClassFile) (s t : State) (held after : ℕ) (b : Bool) → held ≡ values_held files s → after ≡ values_held files t → b ≡ is_past_limit held after → b ≡ is_full files s t
looked files s t held after b before now test = test ∙ ap (λ n. is_past_limit n after) before ∙ ap (is_past_limit (values_held files s)) now

pub led_full : (files : List ClassFile) (s t : State) (h : Happening) (held after : ℕ) → held ≡ values_held files s → after ≡ values_held files t → true ≡ is_past_limit held after
    → h.came ≡ Full → h.state ≡ s → h.held ≡ held → IsLed files s (Some t) h
led_full files s t h held after before now test came stays holds =
    let full : true ≡ is_full files s t = looked files s t held after true before now test in
    record {
      came = came ∙ ap (λ (b : Bool). if b then Full else Made) full;
      state = stays ∙ ap (λ (b : Bool). if b then s else t) full;
      held = holds ∙ before ∙ ap (values_held files) (sym stays);
    }

pub led_made : (files : List ClassFile) (s t : State) (h : Happening) (held after : ℕ) → held ≡ values_held files s → after ≡ values_held files t → false ≡ is_past_limit held after
    → h.came ≡ Made → h.state ≡ t → h.held ≡ after → IsLed files s (Some t) h
led_made files s t h held after before now test came goes holds =
    let full : false ≡ is_full files s t = looked files s t held after false before now test in
    record {
      came = came ∙ ap (λ (b : Bool). if b then Full else Made) full;
      state = goes ∙ ap (λ (b : Bool). if b then s else t) full;
      held = holds ∙ now ∙ ap (values_held files) (sym goes);
    }

-- what makes nothing
pub led_quiet : (files : List ClassFile) (s t : State) (h : Happening) (held : ℕ) → held ≡ values_held files s → held ≡ values_held files t → h.came ≡ Made → h.state ≡ t → h.held ≡ held
    → IsLed files s (Some t) h
led_quiet files s t h held before now came goes holds = led_made files s t h held held before now (sym (itself held)) came goes holds

pub launch_held : (files : List ClassFile) (s : State) (c : ClassId) (held : ℕ) → s.frames ≡ [] → held ≡ values_held files s
    → held ≡ values_held files (with_frames s (LaunchFrame c OpenClass ∷ []))
launch_held files s c held idle before = before ∙ ap (λ (fs : List Frame). sum_by object_size s.heap + sum_by (frame_size files) fs) idle

pub begun_held : (files : List ClassFile) (s : State) (place : ℕ) (l : Launched) (makes : Bool) (frame : Frame) (held size : ℕ) → s.frames ≡ [] → held ≡ values_held files s
    → frame_size files frame ≡ size → held + sum_by object_size (bundles files makes) + size ≡ values_held files (begun files s place l makes frame)
begun_held files s place l makes frame held size idle before is =
    let none : held ≡ sum_by object_size s.heap + 0 = before ∙ ap (λ (fs : List Frame). sum_by object_size s.heap + sum_by (frame_size files) fs) idle in
    omega (arith, sum_by-append object_size s.heap (bundles files makes), sum_by-cons (frame_size files) frame [])

-- a new frame counts what its method's code does
pub new_size : (files : List ClassFile) (m : ℕ) (arguments : List Slot) (frame : Frame) → Some frame ≡ frame_of files m arguments → frame_size files frame ≡ code_size files m
new_size files m arguments frame e = by (code_of files m) e
  where
    by : (k : Option Code) → Some frame ≡ option_map (λ code. CodeFrame (method_id m) 0 (locals_with arguments code.max_locals) []) k → frame_size files frame ≡ code_size files m
    by None e = cc
    by (Some code) e =
        let same : frame ≡ CodeFrame (method_id m) 0 (locals_with arguments code.max_locals) [] = cc in
        ap (frame_size files) same

-- ---- calls of handlers

abbrev arguments_of : ℕ → Bool → Bool → ℕ → List Slot
arguments_of object takes fresh address = Holds (Address object) ∷ (if takes then Holds (if fresh then Address address else NullValue) ∷ [] else [])

pub no_method : (files : List ClassFile) (s : State) (place : ℕ) (l : Launched) (h : Handler) (fresh : Bool) (stage : ℕ) → None ≡ handler_method files s.heap l.object h
    → ended_state s ≡ handled files s place l h fresh stage
no_method files s place l h fresh stage none =
    ap (λ (o : Option ℕ). option_map_or (handler_begun files s place l h fresh stage)
    (option_and_then (λ m. frame_of files m (Holds (Address l.object) ∷ bundle_argument h fresh (length s.heap))) o) (ended_state s)) none

framed : (files : List ClassFile) (s : State) (place : ℕ) (l : Launched) (h : Handler) (fresh : Bool) (stage m : ℕ) (o : Option Frame) (arguments : List Slot)
    → Some m ≡ handler_method files s.heap l.object h → arguments ≡ Holds (Address l.object) ∷ bundle_argument h fresh (length s.heap) → o ≡ frame_of files m arguments
    → option_map_or (handler_begun files s place l h fresh stage) o (ended_state s) ≡ handled files s place l h fresh stage
framed files s place l h fresh stage m o arguments found given is =
    ap (λ (f : Option Frame). option_map_or (handler_begun files s place l h fresh stage) f (ended_state s)) (is ∙ ap (frame_of files m) given)
    ∙ ap (λ (o : Option ℕ). option_map_or (handler_begun files s place l h fresh stage)
    (option_and_then (λ m. frame_of files m (Holds (Address l.object) ∷ bundle_argument h fresh (length s.heap))) o) (ended_state s)) found

pub no_frame : (files : List ClassFile) (s : State) (place : ℕ) (l : Launched) (h : Handler) (fresh : Bool) (stage m : ℕ) (arguments : List Slot)
    → Some m ≡ handler_method files s.heap l.object h → arguments ≡ Holds (Address l.object) ∷ bundle_argument h fresh (length s.heap) → None ≡ frame_of files m arguments
    → ended_state s ≡ handled files s place l h fresh stage
no_frame files s place l h fresh stage m arguments found given none = framed files s place l h fresh stage m None arguments found given none

pub begun_is : (files : List ClassFile) (s : State) (place : ℕ) (l : Launched) (h : Handler) (fresh : Bool) (stage m : ℕ) (frame : Frame) (arguments : List Slot)
    → Some m ≡ handler_method files s.heap l.object h → arguments ≡ Holds (Address l.object) ∷ bundle_argument h fresh (length s.heap) → Some frame ≡ frame_of files m arguments
    → begun files s place record { object = l.object; stage = stage } (takes_bundle h && fresh) frame ≡ handled files s place l h fresh stage
begun_is files s place l h fresh stage m frame arguments found given some = framed files s place l h fresh stage m (Some frame) arguments found given some

-- ---- the event

place_is : (object place : ℕ) → object ≡ suc place → place_of object ≡ Some place
place_is object place is = ap place_of is

-- a call on an object that is launched, of a handler that is there
called : (lifecycle : Lifecycle) (files : List ClassFile) (s : State) (object handler place : ℕ) (fresh : Bool) (o : Option Launched) → object ≡ suc place → o ≡ slice_get s.launched place
    → option_and_then (λ l. option_and_then (handled_by lifecycle files s place fresh l) (slice_get handlers handler)) o ≡ call_of lifecycle files s object handler fresh
called lifecycle files s object handler place fresh o is found =
    ap (λ (l : Option Launched). option_and_then (λ l. option_and_then (handled_by lifecycle files s place fresh l) (slice_get handlers handler)) l) found
    ∙ ap (λ (p : Option ℕ). option_and_then (handled_at lifecycle files s handler fresh) p) (sym (place_is object place is))

pub no_object : (lifecycle : Lifecycle) (files : List ClassFile) (s : State) (object handler place : ℕ) (fresh : Bool) → object ≡ suc place → None ≡ slice_get s.launched place
    → None ≡ call_of lifecycle files s object handler fresh
no_object lifecycle files s object handler place fresh is none = called lifecycle files s object handler place fresh None is none

pub no_handler : (lifecycle : Lifecycle) (files : List ClassFile) (s : State) (object handler place : ℕ) (fresh : Bool) (l : Launched) → object ≡ suc place → Some l ≡ slice_get s.launched place
    → None ≡ slice_get handlers handler → None ≡ call_of lifecycle files s object handler fresh
no_handler lifecycle files s object handler place fresh l is found none =
    ap (λ (o : Option Handler). option_and_then (handled_by lifecycle files s place fresh l) o) none ∙ called lifecycle files s object handler place fresh (Some l) is found

staged : (lifecycle : Lifecycle) (files : List ClassFile) (s : State) (object handler place : ℕ) (fresh : Bool) (l : Launched) (h : Handler) (stage : Option ℕ) → object ≡ suc place
    → Some l ≡ slice_get s.launched place → Some h ≡ slice_get handlers handler → stage ≡ stage_led lifecycle handler l.stage
    → option_map (handled files s place l h fresh) stage ≡ call_of lifecycle files s object handler fresh
staged lifecycle files s object handler place fresh l h stage is found named led =
    ap (option_map (handled files s place l h fresh)) (led ∙ ap (λ (o : Option Handler). option_and_then (λ h. stage_after lifecycle h l.stage) o) (sym named))
    ∙ ap (λ (o : Option Handler). option_and_then (handled_by lifecycle files s place fresh l) o) named ∙ called lifecycle files s object handler place fresh (Some l) is found

pub no_stage : (lifecycle : Lifecycle) (files : List ClassFile) (s : State) (object handler place : ℕ) (fresh : Bool) (l : Launched) (h : Handler) → object ≡ suc place
    → Some l ≡ slice_get s.launched place → Some h ≡ slice_get handlers handler → None ≡ stage_led lifecycle handler l.stage → None ≡ call_of lifecycle files s object handler fresh
no_stage lifecycle files s object handler place fresh l h is found named none = staged lifecycle files s object handler place fresh l h None is found named none

pub call_is : (lifecycle : Lifecycle) (files : List ClassFile) (s : State) (object handler place : ℕ) (fresh : Bool) (l : Launched) (h : Handler) (stage : ℕ) → object ≡ suc place
    → Some l ≡ slice_get s.launched place → Some h ≡ slice_get handlers handler → Some stage ≡ stage_led lifecycle handler l.stage
    → Some (handled files s place l h fresh stage) ≡ call_of lifecycle files s object handler fresh
call_is lifecycle files s object handler place fresh l h stage is found named led = staged lifecycle files s object handler place fresh l h (Some stage) is found named led

-- in a state in which nothing runs an event is what happens
pub event_is : (lifecycle : Lifecycle) (files : List ClassFile) (s : State) (e : Event) → s.ended ≡ false → s.frames ≡ [] → happened lifecycle files s e ≡ event lifecycle files s e
event_is lifecycle files s e running idle =
    sym (ap (λ (b : Bool). if not b && is_idle s.frames then happened lifecycle files s e else None) running
    ∙ ap (λ (fs : List Frame). if is_idle fs then happened lifecycle files s e else None) idle)

-- ---- launches

not_there : {X : Type 0} (xs : List X) (i : ℕ) → length xs ≤ i → slice_get xs i ≡ None
not_there [] i past = refl
not_there (x ∷ xs) zero past = absurd (omega arith)
not_there (x ∷ xs) (suc i) past = not_there xs i (omega arith)

no_third : (a b : Bool) → false ≡ (a && (b && false))
no_third true true = refl
no_third true false = refl
no_third false b = refl

-- a class that isn't there isn't launched
pub absent_class : (classes : List ClassInfo) (c : ℕ) → length classes ≤ c → false ≡ is_launchable classes c
absent_class classes c past =
    no_third (nat_le BUILT_IN_COUNT c) (is_activity classes c)
    ∙ ap (λ (o : Option ClassInfo). nat_le BUILT_IN_COUNT c && (is_activity classes c && option_map_or can_be_made o false)) (sym (not_there classes c past))
