-- Runs keep to kinds, and a state with frames has a step.
use Rattle.std.proofs.Common.{◌≡◌, ℕ, suc, ◌⊎◌, inl, inr, ◌&&◌, Bool, true, false, if◌then◌else◌, List, [], ◌∷◌, ◌++◌, None, Some, slice_get, refl, sym, ap, subst, ◌∙◌}
use Rattle.std.specs.Prelude.{⊤, length, map, codes}
use Rattle.std.specs.List.{AllByRecursion}
use Rattle.std.specs.Option.{option_and_then, option_map}
use Rattle.std.proofs.lemmas.List.{length-set, length-map}
use Rattle.th_base.specs.declared.built_in.TheConstants.{BUNDLE_NUMBER, STRING_NUMBER}
use Rattle.th_base.specs.declared.class.MethodInfo.{MethodInfo}
use Rattle.th_base.specs.declared.lifecycle.Lifecycle.{Lifecycle}
use Rattle.th_base.specs.declared.number.ClassId.{ClassId}
use Rattle.th_base.specs.declared.number.MethodId.{MethodId}
use Rattle.th_base.specs.Handlers.{Handler, handlers, takes_bundle}
use Rattle.th_base.specs.Hierarchy.{selected_method}
use Rattle.th_syntax.specs.declared.class_file.ClassFile.{ClassFile}
use Rattle.th_syntax.specs.declared.class_file.Code.{Code}
use Rattle.th_syntax.specs.declared.instr.Instr.{Instr}
use Rattle.th_syntax.specs.declared.machine.Value.TheVariants.{Null as NullValue, Address}
use Rattle.th_syntax.specs.declared.machine.Slot.{Slot}
use Rattle.th_syntax.specs.declared.machine.Slot.TheVariants.{Holds}
use Rattle.th_syntax.specs.declared.machine.Mark.TheVariants.{Untouched, Done}
use Rattle.th_syntax.specs.declared.machine.InitStage.TheVariants.{CallInitialiser}
use Rattle.th_syntax.specs.declared.machine.LaunchStage.{LaunchStage}
use Rattle.th_syntax.specs.declared.machine.LaunchStage.TheVariants.{OpenClass, MakeObject, EndLaunch}
use Rattle.th_syntax.specs.declared.machine.Frame.{Frame}
use Rattle.th_syntax.specs.declared.machine.Frame.TheVariants.{Code as CodeFrame, Init as InitFrame, Launch as LaunchFrame}
use Rattle.th_syntax.specs.declared.machine.State.{State}
use Rattle.th_syntax.specs.Descriptors.{method_type_of, method_at, types_at, type_at, element_at, name_before, base_type, result_at, field_type_of}
use Rattle.th_syntax.specs.KindRows.{ref, parameter_slots}
use Rattle.th_syntax.specs.Facts.{IsReachedInstr, IsOnPath}
use Rattle.th_syntax.specs.Machine.{class_of, with_frames, method_id}
use Rattle.th_syntax.specs.Slots.{locals_with}
use Rattle.th_syntax.specs.Program.{Owned, built_in_classes, fields_of, hierarchy_of, is_launchable}
use Rattle.th_syntax.specs.Strings.{string_constants}
use Rattle.th_syntax.specs.Initial.{default_value, new_object, initial}
use Rattle.th_syntax.specs.Effects.{frame_of, after}
use Rattle.th_syntax.specs.Step.{effect, frame_named, step_launch, step_frames, step}
use Rattle.th_syntax.specs.Harness.{bundle_argument, fresh_objects}
use Rattle.th_syntax.specs.Run.{IsRun, IsReachable}
use Rattle.th_syntax.specs.LinkChecks.{use_of}
use Rattle.th_syntax.specs.Linking.{Stands}
use Rattle.th_syntax.specs.Changes.{top_at, HasNoWaiting, IsChange, ends_run, moves, sets_a_static, sets_an_object, makes_an_instance, makes_an_array, opens_class, calls_method, returns_to, returns_off, finds_superclass, opens_superclass, calls_initialiser, calls_none, initialised_class, finds_class, opens_launched, makes_launched, launches_object, begins_launch, begins_handler}
use Rattle.th_syntax.proofs.Inverting.{some_is, and_then_some, all_append, all_at}
use Rattle.th_syntax.proofs.Origins.{initial_value, on_paths}
use Rattle.th_runs.specs.Fitting.{AreOfKinds, IsOfType, IsShaped}
use Rattle.th_runs.specs.FrameKinds.{AreFramesOfKinds, IsOfKinds}
use Rattle.th_runs.specs.Sound.{IsSound}
use Rattle.th_runs.proofs.Lists.{all_map}
use Rattle.th_runs.proofs.Stepping.{IsCodeStep, stepped, no_code}
use Rattle.th_runs.proofs.Declaring.{declared}
use Rattle.th_runs.proofs.Taking.{selected_is}
use Rattle.th_runs.proofs.Fits.{default_fits}
use Rattle.th_runs.proofs.Shaping.{new_shaped}
use Rattle.th_runs.proofs.Calling.{called}
use Rattle.th_runs.proofs.Going.{opened_kinds, begun_kinds, code_goes}

-- ---- methods that the machine and the harness call

nothing_taken : parameter_slots (codes "()V") ≡ []
unfolding method_type_of method_at types_at type_at element_at name_before base_type result_at field_type_of
nothing_taken = refl

abbrev TakesItsBundle : Handler → Type 0
TakesItsBundle h = parameter_slots h.descriptor ≡ (if takes_bundle h then ref else [])

bundles_taken : AllByRecursion TakesItsBundle handlers
unfolding method_type_of method_at types_at type_at element_at name_before base_type result_at field_type_of
bundles_taken = (refl, (refl, (refl, (refl, (refl, (refl, (refl, (refl, tt))))))))

bundle_fits : (b fresh : Bool) (a : ℕ) → AreOfKinds (if b then ref else []) (if b then Holds (if fresh then Address a else NullValue) ∷ [] else [])
bundle_fits true true a = (inr (a, refl), tt)
bundle_fits true false a = (inl refl, tt)
bundle_fits false fresh a = tt

fresh_shaped : (files : List ClassFile) (b : Bool) → AllByRecursion (IsShaped files) (if b then new_object files BUNDLE_NUMBER ∷ [] else [])
fresh_shaped files true = (new_shaped files BUNDLE_NUMBER, tt)
fresh_shaped files false = tt

-- a mark for each class
marks_many : (cs files : List ClassFile) → length (map (λ (c : ClassFile). Done) cs ++ map (λ (c : ClassFile). Untouched) files) ≡ length (cs ++ files)
marks_many [] files = length-map files (λ (c : ClassFile). Untouched)
marks_many (c ∷ cs) files = ap suc (marks_many cs files)

-- ---- changes where no code frame is on top

module _ (lifecycle : Lifecycle) (files : List ClassFile) (sound : IsSound files) (named : (i : Instr) → IsReachedInstr files i → Stands files (use_of i)) where
  kinds_after : (s w : State) → IsChange lifecycle files s w → HasNoWaiting s.frames → IsOfKinds files s → IsOfKinds files w
  kinds_after s _ ends_run none good = record { frames = good.frames; statics = good.statics; statics_count = good.statics_count; heap = good.heap; marks_count = good.marks_count }
  kinds_after s _ (moves method offset next locals stack locals_after stack_after below is edge) none good = no_code s _ none is (λ h. h)
  kinds_after s _ (sets_a_static method offset next locals stack stack_after below v r f is edge at resolves ready) none good = no_code s _ none is (λ h. h)
  kinds_after s _ (sets_an_object method offset next locals stack stack_after below a old o is edge at same) none good = no_code s _ none is (λ h. h)
  kinds_after s _ (makes_an_instance method offset next locals stack stack_after below name c is edge at its_name ready) none good = no_code s _ none is (λ h. h)
  kinds_after s _ (makes_an_array method offset next locals stack stack_after below component count is edge) none good = no_code s _ none is (λ h. h)
  kinds_after s _ (opens_class c method offset locals stack below is untouched) none good = no_code s _ none is (λ h. h)
  kinds_after s _ (calls_method method offset taken locals stack stack_after arguments below i code is at takes has_code) none good = no_code s _ none is (λ h. h)
  kinds_after s _ (returns_to method caller offset waiting next locals stack results locals_below stack_below below is goes) none good = no_code s _ none is (λ h. h)
  kinds_after s _ (returns_off method offset locals stack below is over) none good = no_code s _ none is (λ h. h)
  kinds_after s _ (finds_superclass c below is ready) none good =
      record { frames = subst (AreFramesOfKinds files None) is good.frames; statics = good.statics; statics_count = good.statics_count; heap = good.heap; marks_count = good.marks_count }
  kinds_after s _ (opens_superclass c k below is above untouched) none good =
      opened_kinds files sound (with_frames s (InitFrame c CallInitialiser ∷ below)) k
      (record { frames = subst (AreFramesOfKinds files None) is good.frames; statics = good.statics; statics_count = good.statics_count; heap = good.heap; marks_count = good.marks_count })
  kinds_after s _ (calls_initialiser c below m code is its_declared has_code) none good =
      let d = declared files c.0 _ _ m its_declared in
      let its = called files m.id.0 code c.0 m true (codes "()V") d.here refl d.descriptor_is (sound.initialisers c.0 m its_declared) has_code in
      record {
        frames = (
          begun_kinds files sound m.id.0 its.owned code [] its.numbered its.has_code (subst (λ ks. AreOfKinds ks []) (sym (its.takes ∙ nothing_taken)) tt),
          subst (AreFramesOfKinds files None) is good.frames,
        );
        statics = good.statics;
        statics_count = good.statics_count;
        heap = good.heap;
        marks_count = good.marks_count;
      }
  kinds_after s _ (calls_none c below is) none good =
      record { frames = subst (AreFramesOfKinds files None) is good.frames; statics = good.statics; statics_count = good.statics_count; heap = good.heap; marks_count = good.marks_count }
  kinds_after s _ (initialised_class c below is) none good = record {
    frames = subst (AreFramesOfKinds files None) is good.frames;
    statics = good.statics;
    statics_count = good.statics_count;
    heap = good.heap;
    marks_count = length-set s.marks c.0 Done ∙ good.marks_count;
  }
  kinds_after s _ (finds_class c below is ready) none good =
      record { frames = subst (AreFramesOfKinds files None) is good.frames; statics = good.statics; statics_count = good.statics_count; heap = good.heap; marks_count = good.marks_count }
  kinds_after s _ (opens_launched c below is untouched) none good =
      opened_kinds files sound (with_frames s (LaunchFrame c MakeObject ∷ below)) c.0
      (record { frames = subst (AreFramesOfKinds files None) is good.frames; statics = good.statics; statics_count = good.statics_count; heap = good.heap; marks_count = good.marks_count })
  kinds_after s _ (makes_launched c below m code is its_declared has_code) none good =
      let at = subst (AreFramesOfKinds files None) is good.frames in
      let d = declared files c.0 _ _ m its_declared in
      let l = sound.launches c.0 at.0 in
      let same : l.0 ≡ m = some_is l.0 m (sym l.2 ∙ its_declared) in
      let instance : m.is_static ≡ false = ap (λ (x : MethodInfo). x.is_static) (sym same) ∙ l.4 in
      let its = called files m.id.0 code c.0 m false (codes "()V") d.here refl d.descriptor_is instance has_code in
      let takes = its.takes ∙ ap (λ ks. ref ++ ks) nothing_taken in
      record {
        frames = (
          begun_kinds files sound m.id.0 its.owned code (Holds (Address (length s.heap)) ∷ []) its.numbered its.has_code
              (subst (λ ks. AreOfKinds ks (Holds (Address (length s.heap)) ∷ [])) (sym takes) (inr (length s.heap, refl), tt)),
          at,
        );
        statics = good.statics;
        statics_count = good.statics_count;
        heap = all_append (IsShaped files) s.heap (new_object files c.0 ∷ []) good.heap (new_shaped files c.0, tt);
        marks_count = good.marks_count;
      }
  kinds_after s _ (launches_object c object below is) none good =
      record { frames = (subst (AreFramesOfKinds files None) is good.frames).1; statics = good.statics; statics_count = good.statics_count; heap = good.heap; marks_count = good.marks_count }
  kinds_after s _ (begins_launch c is launchable) none good =
      record { frames = (launchable, tt); statics = good.statics; statics_count = good.statics_count; heap = good.heap; marks_count = good.marks_count }
  kinds_after s _ (begins_handler place number stage method l h fresh code is at listed allows selected has_code) none good =
      let c = and_then_some (λ (c : ℕ). option_map (λ (id : MethodId). id.0) (selected_method (hierarchy_of files) c h.name h.descriptor)) (option_and_then class_of (slice_get s.heap l.object)) method selected in
      let k = selected_is files sound.linked (λ n. ⊤) (λ a b here above. tt) c.0 h.name h.descriptor method tt c.2 in
      let its = called files method code k.owner k.info false h.descriptor k.here k.number k.descriptor_is k.static_is has_code in
      let takes = its.takes ∙ ap (λ ks. ref ++ ks) (all_at TakesItsBundle handlers number h bundles_taken listed) in
      let arguments : List Slot = Holds (Address l.object) ∷ bundle_argument h fresh (length s.heap) in
      record {
        frames = (
          begun_kinds files sound method its.owned code arguments its.numbered its.has_code
              (subst (λ ks. AreOfKinds ks arguments) (sym takes) (inr (l.object, refl), bundle_fits (takes_bundle h) fresh (length s.heap))),
          tt,
        );
        statics = good.statics;
        statics_count = good.statics_count;
        heap = all_append (IsShaped files) s.heap (fresh_objects files h fresh) good.heap (fresh_shaped files (takes_bundle h && fresh));
        marks_count = good.marks_count;
      }

  -- ---- runs

  on_top : (s : State) (method : MethodId) (offset : ℕ) (locals stack : List Slot) (below : List Frame) → AllByRecursion (IsOnPath files) s.frames → s.frames ≡ CodeFrame method offset locals stack ∷ below → IsOnPath files (CodeFrame method offset locals stack)
  on_top s method offset locals stack below paths is = (subst (AllByRecursion (IsOnPath files)) is paths).0

  code_kinds : (s w : State) → IsCodeStep files s w → AllByRecursion (IsOnPath files) s.frames → IsOfKinds files s → IsOfKinds files w
  code_kinds s w step paths good =
      let goes = code_goes files sound named s step.method step.offset step.locals step.stack step.below good step.runs (on_top s step.method step.offset step.locals step.stack step.below paths step.runs) in
      let same : goes.i ≡ step.i = some_is goes.i step.i (sym goes.stands ∙ step.stands) in
      let t = top_at s step.method step.offset step.locals step.stack step.below in
      let one : goes.next ≡ w = some_is goes.next w (sym goes.gives ∙ ap (λ (i : Instr). after files t (effect files t i)) same ∙ step.gives) in
      subst (IsOfKinds files) one goes.kinds

  kinds_next : (s w : State) → (IsCodeStep files s w ⊎ (HasNoWaiting s.frames × IsChange lifecycle files s w)) → AllByRecursion (IsOnPath files) s.frames → IsOfKinds files s → IsOfKinds files w
  kinds_next s w (inl code) paths good = code_kinds s w code paths good
  kinds_next s w (inr other) paths good = kinds_after s w other.1 other.0 good

  initial_kinds : IsOfKinds files (initial files)
  initial_kinds = record {
    frames = tt;
    statics = λ field v e.
        let from = initial_value (fields_of files) field v e in
        λ o at.
        let same : from.0 ≡ o = some_is from.0 o (sym from.1 ∙ at) in
        subst (λ (x : Owned). IsOfType x.member.descriptor v) same (subst (IsOfType from.0.member.descriptor) (sym from.2) (default_fits from.0.member.descriptor));
    statics_count = length-map (fields_of files) (λ (f : Owned). default_value f.member.descriptor);
    heap = all_map (IsShaped files) (λ (text : List ℕ). new_object files STRING_NUMBER) (string_constants files) (λ text. new_shaped files STRING_NUMBER);
    marks_count = marks_many built_in_classes files;
  }

  run_kinds : (s : State) (before : List State) → IsRun lifecycle files (s ∷ before) → IsOfKinds files s
  run_kinds s [] e = subst (IsOfKinds files) (sym e) initial_kinds
  run_kinds w (s ∷ before) run = kinds_next s w (stepped lifecycle files s w run.0) (on_paths lifecycle files s (before, run.1)) (run_kinds s before run.1)

  pub kinds_kept : (s : State) → IsReachable lifecycle files s → IsOfKinds files s
  kinds_kept s run = run_kinds s run.0 run.1

  -- ---- progress

  launch_steps : (s : State) (c : ClassId) (below : List Frame) (stage : LaunchStage) → is_launchable files c.0 ≡ true → (w : State) × (step_launch files s c.0 below stage ≡ Some w)
  launch_steps s c below OpenClass launchable = (_, refl)
  launch_steps s c below MakeObject launchable =
      let l = sound.launches c.0 launchable in
      let arguments : List Slot = Holds (Address (length s.heap)) ∷ [] in
      let frame : frame_named files c.0 (codes "<init>") arguments ≡ Some (CodeFrame (method_id l.0.id.0) 0 (locals_with arguments l.1.max_locals) []) =
      ap (option_and_then (λ (m : MethodInfo). frame_of files m.id.0 arguments)) l.2
      ∙ ap (option_map (λ (code : Code). CodeFrame (method_id l.0.id.0) 0 (locals_with arguments code.max_locals) [])) l.3 in
      (_, ap (option_map (λ (f : Frame). record s { heap = s.heap ++ new_object files c.0 ∷ []; frames = f ∷ LaunchFrame c (EndLaunch (length s.heap)) ∷ below })) frame)
  launch_steps s c below (EndLaunch object) launchable = (_, refl)

  frames_step : (s : State) (frames : List Frame) → s.frames ≡ frames → (frames ≡ [] → ⊥) → AllByRecursion (IsOnPath files) s.frames → IsOfKinds files s → (w : State) × (step_frames files s frames ≡ Some w)
  frames_step s [] is some paths good = absurd (some refl)
  frames_step s (CodeFrame method offset locals stack ∷ below) is some paths good =
      let goes = code_goes files sound named s method offset locals stack below good is (on_top s method offset locals stack below paths is) in
      let t = top_at s method offset locals stack below in
      (goes.next, ap (option_and_then (λ (i : Instr). after files t (effect files t i))) goes.stands ∙ goes.gives)
  frames_step s (InitFrame c stage ∷ below) is some paths good = (_, refl)
  frames_step s (LaunchFrame c stage ∷ below) is some paths good = launch_steps s c below stage (subst (AreFramesOfKinds files None) is good.frames).0

  step_is : (s w : State) (ended : Bool) → ended ≡ false → step_frames files s s.frames ≡ Some w → (if ended then None else step_frames files s s.frames) ≡ Some w
  step_is s w true going e = absurd cc
  step_is s w false going e = e

  pub steps_on : (s : State) → IsReachable lifecycle files s → s.ended ≡ false → (s.frames ≡ [] → ⊥) → (w : State) × (step files s ≡ Some w)
  steps_on s run going some =
      let w = frames_step s s.frames refl some (on_paths lifecycle files s run) (kinds_kept s run) in
      (w.0, step_is s w.0 s.ended going w.1)
