-- How far classes are initialised in every run: which classes aren't untouched, and that each class in
-- progress has its initialisation among the frames.
use Rattle.std.proofs.Common.{◌≡◌, ℕ, zero, suc, ◌⊎◌, inl, inr, Bool, true, false, ◌&&◌, List, [], ◌∷◌, ◌++◌, Option, None, Some, slice_get, slice_set, refl, sym, ap, subst, ◌∙◌, if◌then◌else◌}
use Rattle.std.specs.Prelude.{⊤, ◌+◌, length, map, replicate}
use Rattle.std.specs.List.{AllByRecursion}
use Rattle.th_base.specs.declared.built_in.TheConstants.{BUNDLE_NUMBER, STRING_NUMBER}
use Rattle.th_base.specs.declared.lifecycle.Lifecycle.{Lifecycle}
use Rattle.th_base.specs.declared.number.ClassId.{ClassId}
use Rattle.th_base.specs.Handlers.{takes_bundle}
use Rattle.th_base.specs.Hierarchy.{superclass_of}
use Rattle.th_syntax.specs.declared.class_file.ClassFile.{ClassFile}
use Rattle.th_syntax.specs.Machine.{Object, Instance, Array, Mark, Untouched, InProgress, Done, OpenSuperclass, CallInitialiser, OpenClass, MakeObject, EndLaunch, Frame, CodeFrame, InitFrame, LaunchFrame, State, class_id}
use Rattle.th_syntax.specs.Program.{hierarchy_of, class_infos, built_in_classes}
use Rattle.th_syntax.specs.Strings.{string_constants}
use Rattle.th_syntax.specs.Initial.{default_value, new_object, initial}
use Rattle.th_syntax.specs.Arrays.{array_descriptor}
use Rattle.th_syntax.specs.Harness.{fresh_objects}
use Rattle.th_syntax.specs.Run.{IsRun}
use Rattle.th_syntax.specs.Kept.{IsTouched, IsPastOpening, OpensOnTop, IsOpening}
use Rattle.th_syntax.specs.Changes.{AreOfOneType, IsInitialised, IsChange, ends_run, moves, sets_a_static, sets_an_object, makes_an_instance, makes_an_array, opens_class, calls_method, returns_to, returns_off, finds_superclass, opens_superclass, calls_initialiser, calls_none, initialised_class, finds_class, opens_launched, makes_launched, launches_object, begins_launch, begins_handler}
use Rattle.th_syntax.proofs.Inverting.{some_is, set_cases, all_append, all_at}
use Rattle.th_syntax.proofs.Changing.{changed}
use Rattle.th_syntax.proofs.Origins.{all_set}

-- ---- marks

mark_cases : (marks : List Mark) (c d : ℕ) (m : Mark) → IsTouched (slice_set marks c m) d → (c ≡ d) ⊎ IsTouched marks d
mark_cases [] c d m touched = inr touched
mark_cases (x ∷ marks) zero zero m touched = inl refl
mark_cases (x ∷ marks) zero (suc d) m touched = inr touched
mark_cases (x ∷ marks) (suc c) zero m touched = inr touched
mark_cases (x ∷ marks) (suc c) (suc d) m touched = elim (mark_cases marks c d m touched) [ inl same ↦ inl (ap suc same) | inr old ↦ inr old ]

pub touched_here : (marks : List Mark) (c : ℕ) (m : Mark) → (m ≡ Untouched → ⊥) → IsTouched (slice_set marks c m) c
touched_here [] c m apart e = absurd cc
touched_here (x ∷ marks) zero m apart e = apart (some_is m Untouched e)
touched_here (x ∷ marks) (suc c) m apart e = touched_here marks c m apart e

touched_too : (marks : List Mark) (c : ℕ) (m : Mark) → (m ≡ Untouched → ⊥) → (d : ℕ) → IsTouched marks d → IsTouched (slice_set marks c m) d
touched_too [] c m apart d touched e = touched e
touched_too (x ∷ marks) zero m apart zero touched e = apart (some_is m Untouched e)
touched_too (x ∷ marks) zero m apart (suc d) touched e = touched e
touched_too (x ∷ marks) (suc c) m apart zero touched e = touched e
touched_too (x ∷ marks) (suc c) m apart (suc d) touched e = touched_too marks c m apart d touched e

pub in_progress_apart : InProgress ≡ Untouched → ⊥
in_progress_apart e = cc

pub done_apart : Done ≡ Untouched → ⊥
done_apart e = cc

-- after a class is done it isn't in progress
not_in_progress : (marks : List Mark) (c : ℕ) → slice_get (slice_set marks c Done) c ≡ Some InProgress → ⊥
not_in_progress [] c e = cc
not_in_progress (x ∷ marks) zero e = cc
not_in_progress (x ∷ marks) (suc c) e = not_in_progress marks c e

marked_as : (marks : List Mark) (c : ℕ) (m : Mark) → (m ≡ Untouched → ⊥) → slice_get marks c ≡ Some m → IsTouched marks c
marked_as marks c m apart is e = apart (some_is m Untouched (sym is ∙ e))

-- ---- what every state keeps

abbrev pub IsOfTouched : List Mark → Object → Type 0
IsOfTouched marks (Instance c fields) = IsTouched marks c.0
IsOfTouched marks (Array descriptor elements) = ⊤

-- the class of an initialisation isn't untouched, nor that of a launch whose object is made next
abbrev pub IsReady : List Mark → Frame → Type 0
IsReady marks (CodeFrame method offset locals stack) = ⊤
IsReady marks (InitFrame c stage) = IsTouched marks c.0
IsReady marks (LaunchFrame c OpenClass) = ⊤
IsReady marks (LaunchFrame c MakeObject) = IsTouched marks c.0
IsReady marks (LaunchFrame c (EndLaunch object)) = ⊤

-- an initialisation of the class is among the frames
abbrev pub HasInit : List Frame → ℕ → Type 0
HasInit [] c = ⊥
HasInit (CodeFrame method offset locals stack ∷ below) c = HasInit below c
HasInit (InitFrame d stage ∷ below) c = (d.0 ≡ c) ⊎ HasInit below c
HasInit (LaunchFrame d stage ∷ below) c = HasInit below c

abbrev pub AreOpenAbove : List ClassFile → List Mark → List Frame → Type 0
AreOpenAbove files marks frames = (c k : ℕ) → superclass_of (hierarchy_of files) c ≡ Some k → IsTouched marks c → IsTouched marks k ⊎ IsOpening frames c

abbrev pub HaveInits : List Mark → List Frame → Type 0
HaveInits marks frames = (c : ℕ) → slice_get marks c ≡ Some InProgress → HasInit frames c

pub record Marked (files : List ClassFile) (marks : List Mark) (frames : List Frame) (heap : List Object) : Type 0 where
  pub bundle : IsTouched marks BUNDLE_NUMBER
  pub opening : OpensOnTop frames
  pub above : AreOpenAbove files marks frames
  pub objects : AllByRecursion (IsOfTouched marks) heap
  pub ready : AllByRecursion (IsReady marks) frames
  pub inits : HaveInits marks frames

all_too : {A : Type 0} (P Q : A → Type 0) → ((x : A) → P x → Q x) → (xs : List A) → AllByRecursion P xs → AllByRecursion Q xs
all_too P Q f [] all = tt
all_too P Q f (x ∷ xs) all = (f x all.0, all_too P Q f xs all.1)

object_too : (marks : List Mark) (c : ℕ) (m : Mark) → (m ≡ Untouched → ⊥) → (o : Object) → IsOfTouched marks o → IsOfTouched (slice_set marks c m) o
object_too marks c m apart (Instance d fields) touched = touched_too marks c m apart d.0 touched
object_too marks c m apart (Array descriptor elements) touched = tt

frame_too : (marks : List Mark) (c : ℕ) (m : Mark) → (m ≡ Untouched → ⊥) → (f : Frame) → IsReady marks f → IsReady (slice_set marks c m) f
frame_too marks c m apart (CodeFrame method offset locals stack) ready = tt
frame_too marks c m apart (InitFrame d stage) ready = touched_too marks c m apart d.0 ready
frame_too marks c m apart (LaunchFrame d OpenClass) ready = tt
frame_too marks c m apart (LaunchFrame d MakeObject) ready = touched_too marks c m apart d.0 ready
frame_too marks c m apart (LaunchFrame d (EndLaunch object)) ready = tt

objects_too : (marks : List Mark) (c : ℕ) (m : Mark) → (m ≡ Untouched → ⊥) → (heap : List Object) → AllByRecursion (IsOfTouched marks) heap → AllByRecursion (IsOfTouched (slice_set marks c m)) heap
objects_too marks c m apart = all_too (IsOfTouched marks) (IsOfTouched (slice_set marks c m)) (object_too marks c m apart)

frames_too : (marks : List Mark) (c : ℕ) (m : Mark) → (m ≡ Untouched → ⊥) → (frames : List Frame) → AllByRecursion (IsReady marks) frames → AllByRecursion (IsReady (slice_set marks c m)) frames
frames_too marks c m apart = all_too (IsReady marks) (IsReady (slice_set marks c m)) (frame_too marks c m apart)

past_top : (frames : List Frame) → AllByRecursion IsPastOpening frames → OpensOnTop frames
past_top [] all = tt
past_top (f ∷ frames) all = all.1

-- a class is opened: these frames are then below its initialisation
opened_marked : (files : List ClassFile) (marks : List Mark) (frames under : List Frame) (heap : List Object) (c : ℕ) → Marked files marks frames heap
    → AllByRecursion IsPastOpening under → AllByRecursion (IsReady (slice_set marks c InProgress)) under → ((d : ℕ) → HasInit frames d → HasInit under d)
    → ((d k : ℕ) → superclass_of (hierarchy_of files) d ≡ Some k → IsOpening frames d → IsTouched (slice_set marks c InProgress) k)
    → Marked files (slice_set marks c InProgress) (InitFrame (class_id c) OpenSuperclass ∷ under) heap
opened_marked files marks frames under heap c good past ready inits opens = record {
  bundle = touched_too marks c InProgress in_progress_apart BUNDLE_NUMBER good.bundle;
  opening = past;
  above = λ d k super touched.
      elim (mark_cases marks c d InProgress touched) [
        | inl same ↦ inr same
        | inr old ↦ elim (good.above d k super old) [
          | inl over ↦ inl (touched_too marks c InProgress in_progress_apart k over)
          | inr opening ↦ inl (opens d k super opening)
        ]
      ];
  objects = objects_too marks c InProgress in_progress_apart heap good.objects;
  ready = (touched_here marks c InProgress in_progress_apart, ready);
  inits = λ d e. elim (set_cases marks c d InProgress InProgress e) [ inl same ↦ inl same | inr old ↦ inr (inits d (good.inits d old)) ];
}

one_type_too : (marks : List Mark) (old o : Object) → AreOfOneType old o → IsOfTouched marks old → IsOfTouched marks o
one_type_too marks (Instance c fields) (Instance d others) same touched = subst (λ (k : ClassId). IsTouched marks k.0) same touched
one_type_too marks (Instance c fields) (Array descriptor elements) same touched = tt
one_type_too marks (Array descriptor elements) (Instance c fields) same touched = absurd same
one_type_too marks (Array descriptor elements) (Array other more) same touched = tt

pub initialised_touched : (s : State) (c : ℕ) → IsInitialised s c → IsTouched s.marks c
initialised_touched s c ready =
    elim ready [ inl is ↦ marked_as s.marks c InProgress in_progress_apart is | inr is ↦ marked_as s.marks c Done done_apart is ]

fresh_touched : (files : List ClassFile) (marks : List Mark) (b : Bool) → IsTouched marks BUNDLE_NUMBER → AllByRecursion (IsOfTouched marks) (if b then new_object files BUNDLE_NUMBER ∷ [] else [])
fresh_touched files marks true bundle = (bundle, tt)
fresh_touched files marks false bundle = tt

-- ---- changes

module _ (lifecycle : Lifecycle) (files : List ClassFile) where
  abbrev IsMarked : State → Type 0
  IsMarked s = Marked files s.marks s.frames s.heap

  at : (s : State) (frames : List Frame) → IsMarked s → s.frames ≡ frames → Marked files s.marks frames s.heap
  at s frames good is = subst (λ (fs : List Frame). Marked files s.marks fs s.heap) is good

  marked_after : (s w : State) → IsChange lifecycle files s w → IsMarked s → IsMarked w
  marked_after s _ ends_run good =
      record { bundle = good.bundle; opening = good.opening; above = good.above; objects = good.objects; ready = good.ready; inits = good.inits }
  marked_after s _ (moves method offset next locals stack locals_after stack_after below is edge) good =
      let g = at s _ good is in
      record { bundle = g.bundle; opening = g.opening; above = g.above; objects = g.objects; ready = g.ready; inits = g.inits }
  marked_after s _ (sets_a_static method offset next locals stack stack_after below v r f is edge stands resolves ready) good =
      let g = at s _ good is in
      record { bundle = g.bundle; opening = g.opening; above = g.above; objects = g.objects; ready = g.ready; inits = g.inits }
  marked_after s _ (sets_an_object method offset next locals stack stack_after below a old o is edge there same) good =
      let g = at s _ good is in
      record {
        bundle = g.bundle;
        opening = g.opening;
        above = g.above;
        objects = all_set (IsOfTouched s.marks) s.heap a o g.objects (one_type_too s.marks old o same (all_at (IsOfTouched s.marks) s.heap a old g.objects there));
        ready = g.ready;
        inits = g.inits;
      }
  marked_after s _ (makes_an_instance method offset next locals stack stack_after below name c is edge stands named ready) good =
      let g = at s _ good is in
      record {
        bundle = g.bundle;
        opening = g.opening;
        above = g.above;
        objects = all_append (IsOfTouched s.marks) s.heap (new_object files c ∷ []) g.objects (initialised_touched s c ready, tt);
        ready = g.ready;
        inits = g.inits;
      }
  marked_after s _ (makes_an_array method offset next locals stack stack_after below component count is edge) good =
      let g = at s _ good is in
      record {
        bundle = g.bundle;
        opening = g.opening;
        above = g.above;
        objects = all_append (IsOfTouched s.marks) s.heap (Array (array_descriptor component) (replicate count (default_value component)) ∷ []) g.objects (tt, tt);
        ready = g.ready;
        inits = g.inits;
      }
  marked_after s _ (opens_class c method offset locals stack below is untouched) good =
      let g = at s _ good is in
      opened_marked files s.marks s.frames s.frames s.heap c good
      (subst (AllByRecursion IsPastOpening) (sym is) (tt, g.opening)) (frames_too s.marks c InProgress in_progress_apart s.frames good.ready) (λ d here. here)
      (λ d k super opening. absurd (let none : ⊥ = subst (λ (fs : List Frame). IsOpening fs d) is opening in none))
  marked_after s _ (calls_method method offset taken locals stack stack_after arguments below i code is stands takes has_code) good =
      let g = at s _ good is in
      record { bundle = g.bundle; opening = (tt, g.opening); above = g.above; objects = g.objects; ready = (tt, g.ready); inits = g.inits }
  marked_after s _ (returns_to method caller offset waiting next locals stack results locals_below stack_below below is goes) good =
      let g = at s _ good is in
      record { bundle = g.bundle; opening = g.opening.1; above = g.above; objects = g.objects; ready = g.ready.1; inits = g.inits }
  marked_after s _ (returns_off method offset locals stack below is none) good =
      let g = at s _ good is in
      record {
        bundle = g.bundle;
        opening = past_top below g.opening;
        above = λ c k super touched. elim (g.above c k super touched) [ inl over ↦ inl over | inr opening ↦ absurd opening ];
        objects = g.objects;
        ready = g.ready.1;
        inits = g.inits;
      }
  marked_after s _ (finds_superclass c below is ready) good =
      let g = at s _ good is in
      record {
        bundle = g.bundle;
        opening = g.opening;
        above = λ d k super touched.
            elim (g.above d k super touched) [
              | inl over ↦ inl over
              | inr same ↦ inl (ready k (subst (λ (n : ℕ). superclass_of (hierarchy_of files) n ≡ Some k) (sym same) super))
            ];
        objects = g.objects;
        ready = g.ready;
        inits = g.inits;
      }
  marked_after s _ (opens_superclass c k below is super_is untouched) good =
      let g = at s _ good is in
      opened_marked files s.marks (InitFrame c OpenSuperclass ∷ below) (InitFrame c CallInitialiser ∷ below) s.heap k g
      (tt, g.opening) (frames_too s.marks k InProgress in_progress_apart (InitFrame c CallInitialiser ∷ below) g.ready) (λ d here. here)
      (λ d j super same.
      let one : k ≡ j = some_is k j (sym super_is ∙ subst (λ (n : ℕ). superclass_of (hierarchy_of files) n ≡ Some j) (sym same) super) in
      subst (IsTouched (slice_set s.marks k InProgress)) one (touched_here s.marks k InProgress in_progress_apart))
  marked_after s _ (calls_initialiser c below m code is declared has_code) good =
      let g = at s _ good is in
      record { bundle = g.bundle; opening = (tt, g.opening); above = g.above; objects = g.objects; ready = (tt, g.ready); inits = g.inits }
  marked_after s _ (calls_none c below is) good =
      let g = at s _ good is in
      record { bundle = g.bundle; opening = g.opening; above = g.above; objects = g.objects; ready = g.ready; inits = g.inits }
  marked_after s _ (initialised_class c below is) good =
      let g = at s _ good is in
      record {
        bundle = touched_too s.marks c.0 Done done_apart BUNDLE_NUMBER g.bundle;
        opening = past_top below g.opening;
        above = λ d k super touched.
            let before : IsTouched s.marks d =
            elim (mark_cases s.marks c.0 d Done touched) [ inl same ↦ subst (IsTouched s.marks) same g.ready.0 | inr old ↦ old ] in
            elim (g.above d k super before) [ inl over ↦ inl (touched_too s.marks c.0 Done done_apart k over) | inr opening ↦ absurd opening ];
        objects = objects_too s.marks c.0 Done done_apart s.heap g.objects;
        ready = frames_too s.marks c.0 Done done_apart below g.ready.1;
        inits = λ d e.
            let other : c.0 ≡ d → ⊥ = λ same. not_in_progress s.marks c.0 (subst (λ (n : ℕ). slice_get (slice_set s.marks c.0 Done) n ≡ Some InProgress) (sym same) e) in
            elim (set_cases s.marks c.0 d Done InProgress e) [
              | inl same ↦ absurd (other same)
              | inr old ↦ elim (g.inits d old) [ inl same ↦ absurd (other same) | inr more ↦ more ]
            ];
      }
  marked_after s _ (finds_class c below is apart) good =
      let g = at s _ good is in
      record { bundle = g.bundle; opening = g.opening; above = g.above; objects = g.objects; ready = (apart, g.ready.1); inits = g.inits }
  marked_after s _ (opens_launched c below is untouched) good =
      let g = at s _ good is in
      opened_marked files s.marks (LaunchFrame c OpenClass ∷ below) (LaunchFrame c MakeObject ∷ below) s.heap c.0 g
      (tt, g.opening) (touched_here s.marks c.0 InProgress in_progress_apart, frames_too s.marks c.0 InProgress in_progress_apart below g.ready.1) (λ d here. here)
      (λ d k super opening. absurd opening)
  marked_after s _ (makes_launched c below m code is declared has_code) good =
      let g = at s _ good is in
      record {
        bundle = g.bundle;
        opening = (tt, g.opening);
        above = g.above;
        objects = all_append (IsOfTouched s.marks) s.heap (new_object files c.0 ∷ []) g.objects (g.ready.0, tt);
        ready = (tt, (tt, g.ready.1));
        inits = g.inits;
      }
  marked_after s _ (launches_object c object below is) good =
      let g = at s _ good is in
      record {
        bundle = g.bundle;
        opening = past_top below g.opening;
        above = λ d k super touched. elim (g.above d k super touched) [ inl over ↦ inl over | inr opening ↦ absurd opening ];
        objects = g.objects;
        ready = g.ready.1;
        inits = g.inits;
      }
  marked_after s _ (begins_launch c is launchable) good =
      let g = at s _ good is in
      record { bundle = g.bundle; opening = tt; above = g.above; objects = g.objects; ready = (tt, tt); inits = g.inits }
  marked_after s _ (begins_handler place number stage method l h fresh code is stands listed allows selected has_code) good =
      let g = at s _ good is in
      record {
        bundle = g.bundle;
        opening = tt;
        above = g.above;
        objects = all_append (IsOfTouched s.marks) s.heap (fresh_objects files h fresh) g.objects (fresh_touched files s.marks (takes_bundle h && fresh) g.bundle);
        ready = (tt, tt);
        inits = g.inits;
      }

-- ---- runs

-- a class of the files that has a superclass is untouched at first
untouched_at : (all : List ClassFile) (field method : ℕ) (cs : List ClassFile) (n k : ℕ) → superclass_of (class_infos all field method cs) n ≡ Some k
    → slice_get (map (λ (c : ClassFile). Untouched) cs) n ≡ Some Untouched
untouched_at all field method [] n k e = absurd cc
untouched_at all field method (c ∷ cs) zero k e = refl
untouched_at all field method (c ∷ cs) (suc n) k e = untouched_at all (field + length c.fields) (method + length c.methods) cs n k e

initial_marks : List ClassFile → List Mark
initial_marks files = (initial files).marks

done_super : (marks : List Mark) (j k : ℕ) → (let o : Option ℕ = Some j in o) ≡ Some k → slice_get marks j ≡ Some Done → IsTouched marks k
done_super marks j k e is = subst (IsTouched marks) (some_is j k e) (marked_as marks j Done done_apart is)

no_super : (k : ℕ) → (let o : Option ℕ = None in o) ≡ Some k → ⊥
no_super k e = cc

initial_above : (files : List ClassFile) (c k : ℕ) → superclass_of (hierarchy_of files) c ≡ Some k → IsTouched (initial files).marks c → IsTouched (initial files).marks k
initial_above files zero k e touched = absurd (no_super k e)
initial_above files (suc zero) k e touched = done_super (initial files).marks 0 k e refl
initial_above files (suc (suc zero)) k e touched = done_super (initial files).marks 0 k e refl
initial_above files (suc (suc (suc zero))) k e touched = done_super (initial files).marks 2 k e refl
initial_above files (suc (suc (suc (suc zero)))) k e touched = done_super (initial files).marks 3 k e refl
initial_above files (suc (suc (suc (suc (suc zero))))) k e touched = done_super (initial files).marks 2 k e refl
initial_above files (suc (suc (suc (suc (suc (suc zero)))))) k e touched = done_super (initial files).marks 0 k e refl
initial_above files (suc (suc (suc (suc (suc (suc (suc zero))))))) k e touched = done_super (initial files).marks 0 k e refl
initial_above files (suc (suc (suc (suc (suc (suc (suc (suc zero)))))))) k e touched = done_super (initial files).marks 0 k e refl
initial_above files (suc (suc (suc (suc (suc (suc (suc (suc (suc zero))))))))) k e touched = done_super (initial files).marks 0 k e refl
initial_above files (suc (suc (suc (suc (suc (suc (suc (suc (suc (suc zero)))))))))) k e touched = done_super (initial files).marks 9 k e refl
initial_above files (suc (suc (suc (suc (suc (suc (suc (suc (suc (suc (suc n))))))))))) k e touched = absurd (touched (untouched_at files 0 17 files n k e))

strings_touched : (files : List ClassFile) (marks : List Mark) (texts : List (List ℕ)) → IsTouched marks STRING_NUMBER → AllByRecursion (IsOfTouched marks) (map (λ text. new_object files STRING_NUMBER) texts)
strings_touched files marks [] touched = tt
strings_touched files marks (text ∷ texts) touched = (touched, strings_touched files marks texts touched)

-- no class is in progress at first
none_started : (cs files : List ClassFile) (c : ℕ) → slice_get (map (λ (c : ClassFile). Done) cs ++ map (λ (c : ClassFile). Untouched) files) c ≡ Some InProgress → ⊥
none_started [] [] c e = cc
none_started [] (x ∷ files) zero e = cc
none_started [] (x ∷ files) (suc c) e = none_started [] files c e
none_started (x ∷ cs) files zero e = cc
none_started (x ∷ cs) files (suc c) e = none_started cs files c e

initial_marked : (files : List ClassFile) → Marked files (initial files).marks (initial files).frames (initial files).heap
initial_marked files = record {
  bundle = marked_as (initial files).marks BUNDLE_NUMBER Done done_apart refl;
  opening = tt;
  above = λ c k super touched. inl (initial_above files c k super touched);
  objects = strings_touched files (initial files).marks (string_constants files) (marked_as (initial files).marks STRING_NUMBER Done done_apart refl);
  ready = tt;
  inits = λ c e. none_started built_in_classes files c e;
}

pub run_marked : (lifecycle : Lifecycle) (files : List ClassFile) (s : State) (before : List State) → IsRun lifecycle files (s ∷ before) → Marked files s.marks s.frames s.heap
run_marked lifecycle files s [] e = subst (λ (t : State). Marked files t.marks t.frames t.heap) (sym e) (initial_marked files)
run_marked lifecycle files w (s ∷ before) run = marked_after lifecycle files s w (changed lifecycle files s w run.0) (run_marked lifecycle files s before run.1)
