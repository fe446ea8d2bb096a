-- Each step and each event is a change of one of the kinds.
use Rattle.std.proofs.Common.{◌≡◌, ℕ, ◌==◌, ◌&&◌, inl, inr, Bool, true, false, not, List, [], ◌∷◌, ◌++◌, length, Option, None, Some, slice_get, slice_set, codes, refl, sym, ap, subst, ◌∙◌, if◌then◌else◌}
use Rattle.std.specs.Prelude.{option_to_list, replicate}
use Rattle.std.specs.Option.{option_and_then, option_map_or}
use Rattle.th_base.specs.IdSet.{has}
use Rattle.th_base.proofs.Membership.{has_append_right, Contains-from_has}
use Rattle.std.proofs.lemmas.Bool.{eq-eqb, or_left}
use Rattle.th_base.specs.declared.lifecycle.Lifecycle.{Lifecycle}
use Rattle.th_base.specs.declared.number.ClassId.{ClassId}
use Rattle.th_base.specs.declared.number.MethodId.{MethodId}
use Rattle.th_base.specs.declared.class.MethodInfo.{MethodInfo}
use Rattle.th_base.specs.Hierarchy.{superclass_of, declared_method}
use Rattle.th_syntax.specs.declared.class_file.ClassFile.{ClassFile}
use Rattle.th_syntax.specs.declared.class_file.Code.{Code}
use Rattle.th_syntax.specs.declared.event.Event.{Event}
use Rattle.th_syntax.specs.declared.event.Event.TheVariants.{Launch, Handler}
use Rattle.th_syntax.specs.declared.instr.Instr.{Instr}
use Rattle.th_syntax.specs.Flow.{leads_to, instr_in, offset_after, successors_of}
use Rattle.th_syntax.specs.Machine.{Address, Slot, Holds, Array, Mark, Untouched, InProgress, Done, InitStage, OpenSuperclass, CallInitialiser, EndInit, LaunchStage, OpenClass, MakeObject, EndLaunch, Frame, CodeFrame, InitFrame, LaunchFrame, Launched, State, class_id, method_id, with_frames, ended_state}
use Rattle.th_syntax.specs.Slots.{locals_with}
use Rattle.th_base.specs.Handlers.{Handler as HandlerMethod, handlers, stage_after}
use Rattle.th_syntax.specs.Program.{is_launchable, hierarchy_of, code_of, instr_at, next_offset}
use Rattle.th_syntax.specs.Initial.{new_object, default_value}
use Rattle.th_syntax.specs.Effects.{Top, Effect, after, goes_on as goes_behind, returned, opened, opened_where, frame_of}
use Rattle.th_syntax.specs.Arrays.{array_descriptor}
use Rattle.th_syntax.specs.Step.{effect, frame_named, step_init, step_launch, step_frames}
use Rattle.th_syntax.specs.Harness.{is_idle, place_of, handled_at, bundle_argument, handler_begun, handled, handled_by, handler_method, happened}
use Rattle.th_syntax.specs.Run.{Follows}
use Rattle.th_syntax.specs.Changes.{FallsThrough, IsAllowed, stuck, ends, goes_on, jumps, sets_static, sets_object, makes_instance, makes_array, opens, calls, returns, top_at, IsEdge, IsChange, ends_run, moves, sets_a_static, sets_an_object, makes_an_instance, makes_an_array, opens_class, calls_method, returns_to, returns_off, finds_superclass, opens_superclass, calls_initialiser, calls_none, initialised_class, finds_class, opens_launched, makes_launched, launches_object, begins_launch, begins_handler}
use Rattle.th_syntax.proofs.Inverting.{and_then_some, map_some, some_is}
use Rattle.th_syntax.proofs.Allowing.{allowed}

-- ---- edges

-- an instruction of a method's code
pub record IsInCode (files : List ClassFile) (method offset : ℕ) (i : Instr) : Type 0 where
  pub code : Code
  pub is_code : code_of files method ≡ Some code
  pub stands : instr_in code.instrs offset ≡ Some i

pub in_code : (files : List ClassFile) (method offset : ℕ) (i : Instr) → instr_at files method offset ≡ Some i → IsInCode files method offset i
in_code files method offset i e =
    let code = and_then_some (λ (code : Code). instr_in code.instrs offset) (code_of files method) i e in
    record { code = code.0; is_code = code.1; stands = code.2 }

has_last : (front : List ℕ) (next : ℕ) → has (front ++ next ∷ []) next ≡ true
has_last front next = has_append_right front (next ∷ []) next (or_left (next == next) false (eq-eqb next next refl))

-- behind an instruction
pub behind_edge : (files : List ClassFile) (method offset next : ℕ) (i : Instr) → IsInCode files method offset i → FallsThrough i → next_offset files method offset ≡ Some next → IsEdge files method offset next
behind_edge files method offset next i at falls e =
    let after : offset_after at.code.instrs offset ≡ Some next = sym (ap (option_and_then (λ (code : Code). offset_after code.instrs offset)) at.is_code) ∙ e in
    let leads : leads_to (option_to_list (offset_after at.code.instrs offset)) i ≡ falls.0 ++ next ∷ [] = falls.1 (option_to_list (offset_after at.code.instrs offset)) ∙ ap (λ (o : Option ℕ). falls.0 ++ option_to_list o) after in
    record {
      code = at.code;
      is_code = at.is_code;
      i = i;
      stands = at.stands;
      leads = Contains-from_has (successors_of at.code.instrs (offset, i)) next (ap (λ xs. has xs next) leads ∙ has_last falls.0 next);
    }

jump_edge : (files : List ClassFile) (method offset target : ℕ) (i : Instr) → IsInCode files method offset i → ((behind : List ℕ) → has (leads_to behind i) target ≡ true) → IsEdge files method offset target
jump_edge files method offset target i at leads = record {
  code = at.code;
  is_code = at.is_code;
  i = i;
  stands = at.stands;
  leads = Contains-from_has (successors_of at.code.instrs (offset, i)) target (leads (option_to_list (offset_after at.code.instrs offset)));
}

-- ---- code frames

module _ (lifecycle : Lifecycle) (files : List ClassFile) where
  change_is : (s u t : State) → IsChange lifecycle files s u → (let o : Option State = Some u in o) ≡ Some t → IsChange lifecycle files s t
  change_is s u t change e = subst (IsChange lifecycle files s) (some_is u t e) change

  module _ (s : State) (method : MethodId) (offset : ℕ) (locals stack : List Slot) (below : List Frame) (stands : s.frames ≡ CodeFrame method offset locals stack ∷ below) where
    -- the frame on top goes on behind its instruction
    behind : (i : Instr) (u w : State) (locals_after stack_after : List Slot) → IsInCode files method.0 offset i → FallsThrough i
        → ((next : ℕ) → IsEdge files method.0 offset next → IsChange lifecycle files s (with_frames u (CodeFrame method next locals_after stack_after ∷ below)))
        → goes_behind files (top_at s method offset locals stack below) u locals_after stack_after ≡ Some w → IsChange lifecycle files s w
    behind i u w locals_after stack_after at falls change e =
        let m = map_some (λ (next : ℕ). with_frames u (CodeFrame method next locals_after stack_after ∷ below)) (next_offset files method.0 offset) w e in
        subst (IsChange lifecycle files s) m.2 (change m.0 (behind_edge files method.0 offset m.0 i at falls m.1))

    returning : (results : List Slot) (under rest : List Frame) → below ≡ under → returned files results under ≡ Some rest → IsChange lifecycle files s (with_frames s rest)
    returning results [] rest is e =
        subst (λ frames. IsChange lifecycle files s (with_frames s frames)) (some_is [] rest e) (returns_off method offset locals stack [] (stands ∙ ap (λ fs. CodeFrame method offset locals stack ∷ fs) is) tt)
    returning results (CodeFrame caller waiting locals_below stack_below ∷ more) rest is e =
        let m = map_some (λ (next : ℕ). CodeFrame caller next locals_below (results ++ stack_below) ∷ more) (next_offset files caller.0 waiting) rest e in
        subst (λ frames. IsChange lifecycle files s (with_frames s frames)) m.2
        (returns_to method caller offset waiting m.0 locals stack results locals_below stack_below more (stands ∙ ap (λ fs. CodeFrame method offset locals stack ∷ fs) is) m.1)
    returning results (InitFrame c stage ∷ more) rest is e =
        subst (λ frames. IsChange lifecycle files s (with_frames s frames)) (some_is (InitFrame c stage ∷ more) rest e)
        (returns_off method offset locals stack (InitFrame c stage ∷ more) (stands ∙ ap (λ fs. CodeFrame method offset locals stack ∷ fs) is) tt)
    returning results (LaunchFrame c stage ∷ more) rest is e =
        subst (λ frames. IsChange lifecycle files s (with_frames s frames)) (some_is (LaunchFrame c stage ∷ more) rest e)
        (returns_off method offset locals stack (LaunchFrame c stage ∷ more) (stands ∙ ap (λ fs. CodeFrame method offset locals stack ∷ fs) is) tt)

    by_effect : (i : Instr) (e : Effect) (w : State) → instr_at files method.0 offset ≡ Some i → IsAllowed files (top_at s method offset locals stack below) i e → after files (top_at s method offset locals stack below) e ≡ Some w
        → IsChange lifecycle files s w
    by_effect i _ w at stuck h = absurd cc
    by_effect i _ w at ends h = change_is s (ended_state s) w ends_run h
    by_effect i _ w at (goes_on {locals = locals_after} {stack = stack_after} falls) h =
        behind i s w locals_after stack_after (in_code files method.0 offset i at) falls (λ next edge. moves method offset next locals stack locals_after stack_after below stands edge) h
    by_effect i _ w at (jumps {target} {stack = stack_after} leads) h =
        change_is s (with_frames s (CodeFrame method target locals stack_after ∷ below)) w
        (moves method offset target locals stack locals stack_after below stands (jump_edge files method.0 offset target i (in_code files method.0 offset i at) leads)) h
    by_effect i _ w at (sets_static {v} {stack = stack_after} r f is resolves ready) h =
        behind i (record s { statics = slice_set s.statics f.1.id.0 v }) w locals stack_after (in_code files method.0 offset i at) (subst FallsThrough (sym is) ([], λ b. refl))
        (λ next edge. sets_a_static method offset next locals stack stack_after below v r f stands edge (at ∙ ap (λ (x : Instr). let o : Option Instr = Some x in o) is) resolves ready) h
    by_effect i _ w at (sets_object {a} {o} {stack = stack_after} old falls there same) h =
        behind i (record s { heap = slice_set s.heap a o }) w locals stack_after (in_code files method.0 offset i at) falls
        (λ next edge. sets_an_object method offset next locals stack stack_after below a old o stands edge there same) h
    by_effect i _ w at (makes_instance {stack = stack_after} name c is named ready) h =
        behind i (record s { heap = s.heap ++ new_object files c ∷ [] }) w locals (Holds (Address (length s.heap)) ∷ stack_after) (in_code files method.0 offset i at) (subst FallsThrough (sym is) ([], λ b. refl))
        (λ next edge. makes_an_instance method offset next locals stack (Holds (Address (length s.heap)) ∷ stack_after) below name c stands edge (at ∙ ap (λ (x : Instr). let o : Option Instr = Some x in o) is) named ready) h
    by_effect i _ w at (makes_array {stack = stack_after} component count falls) h =
        behind i (record s { heap = s.heap ++ Array (array_descriptor component) (replicate count (default_value component)) ∷ [] }) w locals (Holds (Address (length s.heap)) ∷ stack_after) (in_code files method.0 offset i at) falls
        (λ next edge. makes_an_array method offset next locals stack (Holds (Address (length s.heap)) ∷ stack_after) below component count stands edge) h
    by_effect i _ w at (opens {c} untouched) h = change_is s (opened files s c) w (opens_class c method offset locals stack below stands untouched) h
    by_effect i _ w at (calls {method = taken} {stack = stack_after} code arguments takes has_code) h =
        change_is s (with_frames s (CodeFrame (method_id taken) 0 (locals_with arguments code.max_locals) [] ∷ CodeFrame method offset locals stack_after ∷ below)) w (calls_method method offset taken locals stack stack_after arguments below i code stands at takes has_code) h
    by_effect i _ w at (returns {results}) h =
        let rest = map_some (with_frames s) (returned files results below) w h in
        subst (IsChange lifecycle files s) rest.2 (returning results below rest.0 refl rest.1)

    pub code_step : (w : State) → step_frames files s (CodeFrame method offset locals stack ∷ below) ≡ Some w → IsChange lifecycle files s w
    code_step w e =
        let t : Top = top_at s method offset locals stack below in
        let i = and_then_some (λ (i : Instr). after files t (effect files t i)) (instr_at files method.0 offset) w e in
        by_effect i.0 (effect files t i.0) w i.1 (allowed files t i.0) i.2

  -- ---- initialisations and launches

  opened_or : (s u : State) (mark : Option Mark) (c : ℕ) → slice_get s.marks c ≡ mark → (slice_get s.marks c ≡ Some Untouched → IsChange lifecycle files s (opened files u c))
      → ((slice_get s.marks c ≡ Some Untouched → ⊥) → IsChange lifecycle files s u) → IsChange lifecycle files s (opened_where files u mark c)
  opened_or s u None c is found apart = apart (λ h. let g : (let o : Option Mark = None in o) ≡ Some Untouched = sym is ∙ h in cc)
  opened_or s u (Some Untouched) c is found apart = found is
  opened_or s u (Some InProgress) c is found apart = apart (λ h. let g : (let o : Option Mark = Some InProgress in o) ≡ Some Untouched = sym is ∙ h in cc)
  opened_or s u (Some Done) c is found apart = apart (λ h. let g : (let o : Option Mark = Some Done in o) ≡ Some Untouched = sym is ∙ h in cc)

  superclass_step : (s : State) (c : ClassId) (below : List Frame) (superclass : Option ℕ) → s.frames ≡ InitFrame c OpenSuperclass ∷ below → superclass_of (hierarchy_of files) c.0 ≡ superclass
      → IsChange lifecycle files s (option_map_or (λ k. opened_where files (with_frames s (InitFrame c CallInitialiser ∷ below)) (slice_get s.marks k) k) superclass (with_frames s (InitFrame c CallInitialiser ∷ below)))
  superclass_step s c below None stands is = finds_superclass c below stands (λ k h. absurd (let g : (let o : Option ℕ = None in o) ≡ Some k = sym is ∙ h in cc))
  superclass_step s c below (Some k) stands is =
      opened_or s (with_frames s (InitFrame c CallInitialiser ∷ below)) (slice_get s.marks k) k refl
      (λ untouched. opens_superclass c k below stands is untouched)
      (λ apart. finds_superclass c below stands (λ j h untouched. let same : k ≡ j = some_is k j (sym is ∙ h) in apart (ap (slice_get s.marks) same ∙ untouched)))

  -- a new frame of a declared method
  named_frame : (c : ℕ) (name : List ℕ) (arguments : List Slot) (frame : Frame) → frame_named files c name arguments ≡ Some frame
      → (m : MethodInfo) × (code : Code) × (declared_method (hierarchy_of files) name (codes "()V") c ≡ Some m) × (code_of files m.id.0 ≡ Some code) × (CodeFrame m.id 0 (locals_with arguments code.max_locals) [] ≡ frame)
  named_frame c name arguments frame e =
      let m = and_then_some (λ (m : MethodInfo). frame_of files m.id.0 arguments) (declared_method (hierarchy_of files) name (codes "()V") c) frame e in
      let code = map_some (λ (code : Code). CodeFrame (method_id m.0.id.0) 0 (locals_with arguments code.max_locals) []) (code_of files m.0.id.0) frame m.2 in
      (m.0, code.0, m.1, code.1, code.2)

  initialiser_step : (s : State) (c : ClassId) (below : List Frame) (frame : Option Frame) → s.frames ≡ InitFrame c CallInitialiser ∷ below → frame_named files c.0 (codes "<clinit>") [] ≡ frame
      → IsChange lifecycle files s (with_frames s (option_to_list frame ++ InitFrame c EndInit ∷ below))
  initialiser_step s c below None stands is = calls_none c below stands
  initialiser_step s c below (Some frame) stands is =
      let new = named_frame c.0 (codes "<clinit>") [] frame is in
      subst (λ (f : Frame). IsChange lifecycle files s (with_frames s (f ∷ InitFrame c EndInit ∷ below))) new.4 (calls_initialiser c below new.0 new.1 stands new.2 new.3)

  init_step : (s : State) (c : ClassId) (below : List Frame) (stage : InitStage) → s.frames ≡ InitFrame c stage ∷ below → IsChange lifecycle files s (step_init files s c.0 below stage)
  init_step s c below OpenSuperclass stands = superclass_step s c below (superclass_of (hierarchy_of files) c.0) stands refl
  init_step s c below CallInitialiser stands = initialiser_step s c below (frame_named files c.0 (codes "<clinit>") []) stands refl
  init_step s c below EndInit stands = initialised_class c below stands

  launch_step : (s w : State) (c : ClassId) (below : List Frame) (stage : LaunchStage) → s.frames ≡ LaunchFrame c stage ∷ below → step_launch files s c.0 below stage ≡ Some w → IsChange lifecycle files s w
  launch_step s w c below OpenClass stands e =
      change_is s (opened_where files (with_frames s (LaunchFrame c MakeObject ∷ below)) (slice_get s.marks c.0) c.0) w
      (opened_or s (with_frames s (LaunchFrame c MakeObject ∷ below)) (slice_get s.marks c.0) c.0 refl (λ untouched. opens_launched c below stands untouched) (λ apart. finds_class c below stands apart)) e
  launch_step s w c below MakeObject stands e =
      let arguments : List Slot = Holds (Address (length s.heap)) ∷ [] in
      let m = map_some (λ (frame : Frame). record s { heap = s.heap ++ new_object files c.0 ∷ []; frames = frame ∷ LaunchFrame c (EndLaunch (length s.heap)) ∷ below }) (frame_named files c.0 (codes "<init>") arguments) w e in
      let new = named_frame c.0 (codes "<init>") arguments m.0 m.1 in
      subst (IsChange lifecycle files s) m.2
      (subst (λ (f : Frame). IsChange lifecycle files s (record s { heap = s.heap ++ new_object files c.0 ∷ []; frames = f ∷ LaunchFrame c (EndLaunch (length s.heap)) ∷ below })) new.4
      (makes_launched c below new.0 new.1 stands new.2 new.3))
  launch_step s w c below (EndLaunch object) stands e = change_is s (record s { launched = s.launched ++ record { object = object; stage = 0 } ∷ []; frames = below }) w (launches_object c object below stands) e

  -- ---- steps

  frames_step : (s w : State) (frames : List Frame) → s.frames ≡ frames → step_frames files s frames ≡ Some w → IsChange lifecycle files s w
  frames_step s w [] stands e = absurd cc
  frames_step s w (CodeFrame method offset locals stack ∷ below) stands e = code_step s method offset locals stack below stands w e
  frames_step s w (InitFrame c stage ∷ below) stands e = change_is s (step_init files s c.0 below stage) w (init_step s c below stage stands) e
  frames_step s w (LaunchFrame c stage ∷ below) stands e = launch_step s w c below stage stands e

  ended_step : (s w : State) (ended : Bool) → (if ended then None else step_frames files s s.frames) ≡ Some w → IsChange lifecycle files s w
  ended_step s w true e = absurd cc
  ended_step s w false e = frames_step s w s.frames refl e

  -- ---- events

  idle_is : (frames : List Frame) → is_idle frames ≡ true → frames ≡ []
  idle_is [] e = refl
  idle_is (f ∷ fs) e = absurd cc

  launch_event : (s w : State) (c : ClassId) (launchable : Bool) → s.frames ≡ [] → is_launchable files c.0 ≡ launchable → (if launchable then Some (with_frames s (LaunchFrame c OpenClass ∷ [])) else None) ≡ Some w → IsChange lifecycle files s w
  launch_event s w c true idle is e = change_is s (with_frames s (LaunchFrame c OpenClass ∷ [])) w (begins_launch c idle is) e
  launch_event s w c false idle is e = absurd cc

  handler_event : (s : State) (place number stage : ℕ) (l : Launched) (h : HandlerMethod) (fresh : Bool) (frame : Option Frame) → s.frames ≡ [] → slice_get s.launched place ≡ Some l → slice_get handlers number ≡ Some h
      → stage_after lifecycle h l.stage ≡ Some stage
      → option_and_then (λ m. frame_of files m (Holds (Address l.object) ∷ bundle_argument h fresh (length s.heap))) (handler_method files s.heap l.object h) ≡ frame
      → IsChange lifecycle files s (option_map_or (handler_begun files s place l h fresh stage) frame (ended_state s))
  handler_event s place number stage l h fresh None idle at listed allows is = ends_run
  handler_event s place number stage l h fresh (Some frame) idle at listed allows is =
      let arguments : List Slot = Holds (Address l.object) ∷ bundle_argument h fresh (length s.heap) in
      let m = and_then_some (λ (m : ℕ). frame_of files m arguments) (handler_method files s.heap l.object h) frame is in
      let code = map_some (λ (code : Code). CodeFrame (method_id m.0) 0 (locals_with arguments code.max_locals) []) (code_of files m.0) frame m.2 in
      subst (λ (f : Frame). IsChange lifecycle files s (handler_begun files s place l h fresh stage f)) code.2 (begins_handler place number stage m.0 l h fresh code.0 idle at listed allows m.1 code.1)

  happening : (s w : State) (e : Event) → s.frames ≡ [] → happened lifecycle files s e ≡ Some w → IsChange lifecycle files s w
  happening s w (Launch c) idle e = launch_event s w c (is_launchable files c.0) idle refl e
  happening s w (Handler object number fresh) idle e =
      let place = and_then_some (handled_at lifecycle files s number fresh) (place_of object) w e in
      let l = and_then_some (λ (l : Launched). option_and_then (handled_by lifecycle files s place.0 fresh l) (slice_get handlers number)) (slice_get s.launched place.0) w place.2 in
      let h = and_then_some (handled_by lifecycle files s place.0 fresh l.0) (slice_get handlers number) w l.2 in
      let stage = map_some (handled files s place.0 l.0 h.0 fresh) (stage_after lifecycle h.0 l.0.stage) w h.2 in
      subst (IsChange lifecycle files s) stage.2 (handler_event s place.0 number stage.0 l.0 h.0 fresh _ idle l.1 h.1 stage.1 refl)

  event_is : (s w : State) (e : Event) (ended idle : Bool) → is_idle s.frames ≡ idle → (if not ended && idle then happened lifecycle files s e else None) ≡ Some w → IsChange lifecycle files s w
  event_is s w e true idle is h = absurd cc
  event_is s w e false true is h = happening s w e (idle_is s.frames is) h
  event_is s w e false false is h = absurd cc

  pub changed : (s w : State) → Follows lifecycle files s w → IsChange lifecycle files s w
  changed s w (inl e) = ended_step s w s.ended e
  changed s w (inr h) = event_is s w h.0 s.ended (is_idle s.frames) refl h.1
