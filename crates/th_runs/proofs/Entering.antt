-- The classes whose code runs are no untouched ones.
use Rattle.std.proofs.Common.{◌≡◌, ℕ, zero, suc, ◌⊎◌, inl, inr, Bool, true, false, List, [], ◌∷◌, Option, None, Some, slice_get, slice_set, refl, sym, ap, subst, ◌∙◌}
use Rattle.std.specs.List.{AllByRecursion}
use Rattle.std.specs.Option.{option_and_then, option_map, option_to_list}
use Rattle.th_base.specs.declared.class.MethodInfo.{MethodInfo}
use Rattle.th_base.specs.declared.lifecycle.Lifecycle.{Lifecycle}
use Rattle.th_base.specs.declared.number.MethodId.{MethodId}
use Rattle.th_base.specs.Hierarchy.{superclass_of, interfaces_of, direct_supertypes, selected_method}
use Rattle.th_base.specs.IdSet.{has}
use Rattle.th_base.proofs.Membership.{has_append_cases}
use Rattle.th_base.proofs.Orders.{has-cons_cases}
use Rattle.th_syntax.specs.declared.class_file.ClassFile.{ClassFile}
use Rattle.th_syntax.specs.declared.class_file.Code.{Code}
use Rattle.th_syntax.specs.declared.instr.Instr.{Instr}
use Rattle.th_syntax.specs.declared.machine.Value.{Value}
use Rattle.th_syntax.specs.declared.machine.Value.TheVariants.{Int as IntValue, Long as LongValue, Null as NullValue, Address}
use Rattle.th_syntax.specs.declared.machine.Slot.{Slot}
use Rattle.th_syntax.specs.declared.machine.Object.{Object}
use Rattle.th_syntax.specs.declared.machine.Object.TheVariants.{Instance, Array}
use Rattle.th_syntax.specs.declared.machine.Mark.{Mark}
use Rattle.th_syntax.specs.declared.machine.Mark.TheVariants.{Untouched, InProgress, Done}
use Rattle.th_syntax.specs.declared.machine.Frame.{Frame}
use Rattle.th_syntax.specs.declared.machine.Frame.TheVariants.{Code as CodeFrame, Init as InitFrame, Launch as LaunchFrame}
use Rattle.th_syntax.specs.declared.machine.State.{State}
use Rattle.th_syntax.specs.Flags.{is_static}
use Rattle.th_syntax.specs.Machine.{class_of, class_at}
use Rattle.th_syntax.specs.Program.{Owned, methods_of, hierarchy_of, code_of}
use Rattle.th_syntax.specs.Run.{IsRun, IsReachable}
use Rattle.th_syntax.specs.Facts.{IsReachedInstr, IsOnPath}
use Rattle.th_syntax.specs.Kept.{IsTouched, IsOpening}
use Rattle.th_syntax.specs.LinkChecks.{use_of}
use Rattle.th_syntax.specs.Linking.{IsLinked, Stands}
use Rattle.th_syntax.specs.Changes.{top_at, IsInitialised, Takes, IsChange, ends_run, moves, sets_a_static, sets_an_object, makes_an_instance, makes_an_array, opens_class, calls_method, returns_to, returns_off, finds_superclass, opens_superclass, calls_initialiser, calls_none, initialised_class, finds_class, opens_launched, makes_launched, launches_object, begins_launch, begins_handler}
use Rattle.th_syntax.proofs.Inverting.{some_is, and_then_some, all_at}
use Rattle.th_syntax.proofs.Initialising.{IsOfTouched, Marked, initialised_touched, in_progress_apart, done_apart, run_marked}
use Rattle.th_syntax.proofs.Origins.{on_paths}
use Rattle.th_syntax.proofs.Changing.{changed}
use Rattle.th_runs.specs.Entered.{InterfacesRunNoInstance, IsEntered}
use Rattle.th_runs.proofs.Lists.{all_too}
use Rattle.th_runs.proofs.Above.{IsInterface, interfaces_are, super_of_interface}
use Rattle.th_runs.proofs.Declaring.{IsMethodHere, declared}
use Rattle.th_runs.proofs.Taking.{selected_is, taken_is}

-- ---- marks

touched_too : (marks : List Mark) (c : ℕ) (m : Mark) → (m ≡ Untouched → ⊥) → (d : ℕ) → IsTouched marks d → IsTouched (slice_set marks c m) d
touched_too [] c m apart d touched e = touched e
touched_too (x ∷ marks) zero m apart zero touched e = apart (some_is m Untouched e)
touched_too (x ∷ marks) zero m apart (suc d) touched e = touched e
touched_too (x ∷ marks) (suc c) m apart zero touched e = touched e
touched_too (x ∷ marks) (suc c) m apart (suc d) touched e = touched_too marks c m apart d touched e

frame_too : (files : List ClassFile) (marks : List Mark) (c : ℕ) (m : Mark) → (m ≡ Untouched → ⊥) → (f : Frame) → IsEntered files marks f → IsEntered files (slice_set marks c m) f
frame_too files marks c m apart (CodeFrame method offset locals stack) entered = λ o e. touched_too marks c m apart o.owner (entered o e)
frame_too files marks c m apart (InitFrame d stage) entered = tt
frame_too files marks c m apart (LaunchFrame d stage) entered = tt

frames_too : (files : List ClassFile) (marks : List Mark) (c : ℕ) (m : Mark) → (m ≡ Untouched → ⊥) → (frames : List Frame) → AllByRecursion (IsEntered files marks) frames → AllByRecursion (IsEntered files (slice_set marks c m)) frames
frames_too files marks c m apart = all_too (IsEntered files marks) (IsEntered files (slice_set marks c m)) (frame_too files marks c m apart)

-- ---- upwards

abbrev IsTouchedOrInterface : List ClassFile → List Mark → ℕ → Type 0
IsTouchedOrInterface files marks c = IsTouched marks c ⊎ IsInterface files c

listed_is : (o : Option ℕ) (d : ℕ) → has (option_to_list o) d ≡ true → o ≡ Some d
listed_is None d h = absurd cc
listed_is (Some k) d h = elim (has-cons_cases k [] d h) [ inl same ↦ ap (λ (n : ℕ). Some n) same | inr none ↦ absurd cc ]

module _ (files : List ClassFile) (linked : IsLinked files) (marks : List Mark) (frames : List Frame) (heap : List Object) (good : Marked files marks frames heap) (idle : (c : ℕ) → IsOpening frames c → ⊥) where
  super_touched : (c d : ℕ) → IsTouched marks c → superclass_of (hierarchy_of files) c ≡ Some d → IsTouched marks d
  super_touched c d touched e = elim (good.above c d e touched) [ inl over ↦ over | inr opening ↦ absurd (idle c opening) ]

  object_touched : IsTouched marks 0
  object_touched = super_touched 8 0 good.bundle refl

  super_by : (c d : ℕ) → IsTouchedOrInterface files marks c → superclass_of (hierarchy_of files) c ≡ Some d → IsTouchedOrInterface files marks d
  super_by c d (inl touched) e = inl (super_touched c d touched e)
  super_by c d (inr it) e = inl (subst (IsTouched marks) (sym (super_of_interface files c d linked.ordered.supertypes it e)) object_touched)

  upwards : (c d : ℕ) → IsTouchedOrInterface files marks c → has (direct_supertypes (hierarchy_of files) c) d ≡ true → IsTouchedOrInterface files marks d
  upwards c d here h =
      elim (has_append_cases (interfaces_of (hierarchy_of files) c) (option_to_list (superclass_of (hierarchy_of files) c)) d h) [
        | inl front ↦ inr (interfaces_are files c d linked.ordered.supertypes front)
        | inr last ↦ super_by c d here (listed_is (superclass_of (hierarchy_of files) c) d last)
      ]

-- a method with code that isn't static, of a class that is touched or an interface, is of one that is touched
not_of_interface : (files : List ClassFile) (marks : List Mark) (owner method : ℕ) (info : MethodInfo) (code : Code) → InterfacesRunNoInstance files → IsMethodHere files owner info → info.id.0 ≡ method → info.is_static ≡ false → code_of files method ≡ Some code
    → IsTouchedOrInterface files marks owner → IsTouched marks owner
not_of_interface files marks owner method info code plain here number instance has_code (inl touched) = touched
not_of_interface files marks owner method info code plain here number instance has_code (inr it) =
    absurd (
    let o : Owned = record { owner = owner; member = here.member } in
    let at : slice_get (methods_of files) method ≡ Some o = ap (slice_get (methods_of files)) (sym number) ∙ here.numbered in
    let code_is : here.member.code ≡ Some code = ap (option_and_then (λ (x : Owned). x.member.code)) (sym at) ∙ has_code in
    let static_one : is_static here.member ≡ true = plain method o it.class code at it.stands it.is code_is in
    let same : is_static here.member ≡ info.is_static = ap (λ (m : MethodInfo). m.is_static) here.same in
    let none : true ≡ false = sym static_one ∙ same ∙ instance in cc)

-- the class that declares a method is the one under its number
owner_of : (files : List ClassFile) (marks : List Mark) (owner method : ℕ) (info : MethodInfo) → IsMethodHere files owner info → info.id.0 ≡ method → IsTouched marks owner → (o : Owned) → slice_get (methods_of files) method ≡ Some o → IsTouched marks o.owner
owner_of files marks owner method info here number touched o e =
    let at : slice_get (methods_of files) method ≡ Some record { owner = owner; member = here.member } = ap (slice_get (methods_of files)) (sym number) ∙ here.numbered in
    subst (λ (x : Owned). IsTouched marks x.owner) (some_is _ o (sym at ∙ e)) touched

object_class : (marks : List Mark) (o : Object) (c : ℕ) → IsOfTouched marks o → class_of o ≡ Some c → IsTouched marks c
object_class marks (Instance class fields) c touched e = subst (IsTouched marks) (some_is class.0 c e) touched
object_class marks (Array descriptor elements) c touched e = absurd cc

heap_class : (marks : List Mark) (heap : List Object) (a c : ℕ) → AllByRecursion (IsOfTouched marks) heap → option_and_then class_of (slice_get heap a) ≡ Some c → IsTouched marks c
heap_class marks heap a c all e =
    let o = and_then_some class_of (slice_get heap a) c e in
    object_class marks o.0 c (all_at (IsOfTouched marks) heap a o.0 all o.1) o.2

receiver_class : (marks : List Mark) (heap : List Object) (v : Value) (c : ℕ) → AllByRecursion (IsOfTouched marks) heap → class_at heap v ≡ Some c → IsTouched marks c
receiver_class marks heap (IntValue n) c all e = absurd cc
receiver_class marks heap (LongValue n) c all e = absurd cc
receiver_class marks heap NullValue c all e = absurd cc
receiver_class marks heap (Address a) c all e = heap_class marks heap a c all e

-- ---- changes

module _ (lifecycle : Lifecycle) (files : List ClassFile) (linked : IsLinked files) (plain : InterfacesRunNoInstance files) (named : (i : Instr) → IsReachedInstr files i → Stands files (use_of i)) where
  called_by : (s : State) (taken : ℕ) (code : Code) (owner : ℕ) (info : MethodInfo) (static_one : Bool) → code_of files taken ≡ Some code → IsMethodHere files owner info → info.id.0 ≡ taken → info.is_static ≡ static_one
      → IsTouchedOrInterface files s.marks owner → (static_one ≡ true → IsInitialised s owner) → IsTouched s.marks owner
  called_by s taken code owner info true has_code here number static_is holds ready = initialised_touched s owner (ready refl)
  called_by s taken code owner info false has_code here number static_is holds ready = not_of_interface files s.marks owner taken info code plain here number static_is has_code holds

  called : (s : State) (method : MethodId) (offset taken : ℕ) (locals stack : List Slot) (below : List Frame) (i : Instr) (code : Code) → Marked files s.marks (CodeFrame method offset locals stack ∷ below) s.heap
      → IsEntered files s.marks (CodeFrame method offset locals stack) → Stands files (use_of i) → Takes files (top_at s method offset locals stack below) i taken → code_of files taken ≡ Some code → (o : Owned) → slice_get (methods_of files) taken ≡ Some o → IsTouched s.marks o.owner
  called s method offset taken locals stack below i code good entered stands takes has_code =
      let k = taken_is files linked (IsTouchedOrInterface files s.marks) (upwards files linked s.marks (CodeFrame method offset locals stack ∷ below) s.heap good (λ c opening. opening)) (top_at s method offset locals stack below)
      (λ v c e. inl (receiver_class s.marks s.heap v c good.objects e)) (λ o e. inl (entered o e)) (λ c ready. inl (initialised_touched s c ready)) i taken takes stands in
      owner_of files s.marks k.2.owner taken k.2.info k.2.here k.2.number (called_by s taken code k.2.owner k.2.info k.1 has_code k.2.here k.2.number k.2.static_is k.2.holds k.3)

  entered_after : (s w : State) → IsChange lifecycle files s w → Marked files s.marks s.frames s.heap → AllByRecursion (IsOnPath files) s.frames → AllByRecursion (IsEntered files s.marks) s.frames → AllByRecursion (IsEntered files w.marks) w.frames
  entered_after s _ ends_run good paths all = all
  entered_after s _ (moves method offset next locals stack locals_after stack_after below is edge) good paths all = subst (AllByRecursion (IsEntered files s.marks)) is all
  entered_after s _ (sets_a_static method offset next locals stack stack_after below v r f is edge at resolves ready) good paths all = subst (AllByRecursion (IsEntered files s.marks)) is all
  entered_after s _ (sets_an_object method offset next locals stack stack_after below a old o is edge at same) good paths all = subst (AllByRecursion (IsEntered files s.marks)) is all
  entered_after s _ (makes_an_instance method offset next locals stack stack_after below name c is edge at its_name ready) good paths all = subst (AllByRecursion (IsEntered files s.marks)) is all
  entered_after s _ (makes_an_array method offset next locals stack stack_after below component count is edge) good paths all = subst (AllByRecursion (IsEntered files s.marks)) is all
  entered_after s _ (opens_class c method offset locals stack below is untouched) good paths all = (tt, frames_too files s.marks c InProgress in_progress_apart s.frames all)
  entered_after s _ (calls_method method offset taken locals stack stack_after arguments below i code is at takes has_code) good paths all =
      let here = subst (AllByRecursion (IsEntered files s.marks)) is all in
      let path = (subst (AllByRecursion (IsOnPath files)) is paths).0 in
      let marked = subst (λ (fs : List Frame). Marked files s.marks fs s.heap) is good in
      let stands = named i (record { method = method.0; offset = offset; stands = at; reached = path }) in
      (called s method offset taken locals stack below i code marked here.0 stands takes has_code, here)
  entered_after s _ (returns_to method caller offset waiting next locals stack results locals_below stack_below below is goes) good paths all = (subst (AllByRecursion (IsEntered files s.marks)) is all).1
  entered_after s _ (returns_off method offset locals stack below is over) good paths all = (subst (AllByRecursion (IsEntered files s.marks)) is all).1
  entered_after s _ (finds_superclass c below is ready) good paths all = subst (AllByRecursion (IsEntered files s.marks)) is all
  entered_after s _ (opens_superclass c k below is above untouched) good paths all =
      (tt, (tt, frames_too files s.marks k InProgress in_progress_apart below (subst (AllByRecursion (IsEntered files s.marks)) is all).1))
  entered_after s _ (calls_initialiser c below m code is its_declared has_code) good paths all =
      let marked = subst (λ (fs : List Frame). Marked files s.marks fs s.heap) is good in
      (owner_of files s.marks c.0 m.id.0 m (declared files c.0 _ _ m its_declared).here refl marked.ready.0, (tt, (subst (AllByRecursion (IsEntered files s.marks)) is all).1))
  entered_after s _ (calls_none c below is) good paths all = subst (AllByRecursion (IsEntered files s.marks)) is all
  entered_after s _ (initialised_class c below is) good paths all = frames_too files s.marks c.0 Done done_apart below (subst (AllByRecursion (IsEntered files s.marks)) is all).1
  entered_after s _ (finds_class c below is ready) good paths all = subst (AllByRecursion (IsEntered files s.marks)) is all
  entered_after s _ (opens_launched c below is untouched) good paths all =
      (tt, (tt, frames_too files s.marks c.0 InProgress in_progress_apart below (subst (AllByRecursion (IsEntered files s.marks)) is all).1))
  entered_after s _ (makes_launched c below m code is its_declared has_code) good paths all =
      let marked = subst (λ (fs : List Frame). Marked files s.marks fs s.heap) is good in
      (owner_of files s.marks c.0 m.id.0 m (declared files c.0 _ _ m its_declared).here refl marked.ready.0, (tt, (subst (AllByRecursion (IsEntered files s.marks)) is all).1))
  entered_after s _ (launches_object c object below is) good paths all = (subst (AllByRecursion (IsEntered files s.marks)) is all).1
  entered_after s _ (begins_launch c is launchable) good paths all = (tt, tt)
  entered_after s _ (begins_handler place number stage method l h fresh code is at listed allows selected has_code) good paths all =
      let marked = subst (λ (fs : List Frame). Marked files s.marks fs s.heap) is good in
      let c = and_then_some (λ (c : ℕ). option_map (λ (id : MethodId). id.0) (selected_method (hierarchy_of files) c h.name h.descriptor)) (option_and_then class_of (slice_get s.heap l.object)) method selected in
      let k = selected_is files linked (IsTouchedOrInterface files s.marks) (upwards files linked s.marks [] s.heap marked (λ d opening. opening)) c.0 h.name h.descriptor method (inl (heap_class s.marks s.heap l.object c.0 good.objects c.1)) c.2 in
      (owner_of files s.marks k.owner method k.info k.here k.number (not_of_interface files s.marks k.owner method k.info code plain k.here k.number k.static_is has_code k.holds), tt)

  run_entered : (s : State) (before : List State) → IsRun lifecycle files (s ∷ before) → AllByRecursion (IsEntered files s.marks) s.frames
  run_entered s [] e = subst (λ (t : State). AllByRecursion (IsEntered files t.marks) t.frames) (sym e) tt
  run_entered w (s ∷ before) run =
      entered_after s w (changed lifecycle files s w run.0) (run_marked lifecycle files s before run.1) (on_paths lifecycle files s (before, run.1)) (run_entered s before run.1)

  pub all_entered : (s : State) → IsReachable lifecycle files s → AllByRecursion (IsEntered files s.marks) s.frames
  all_entered s run = run_entered s run.0 run.1
