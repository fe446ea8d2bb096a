-- Where the values of static fields and the objects of Activity classes come from, and where code
-- frames stand, in every run. Each kind of change keeps it.
use Rattle.std.proofs.Common.{◌≡◌, ℕ, zero, suc, ◌==◌, ◌&&◌, ◌⊎◌, inl, inr, Bool, true, false, List, [], ◌∷◌, Option, None, Some, slice_get, slice_set, refl, sym, subst, ◌∙◌, if◌then◌else◌}
use Rattle.std.specs.Prelude.{⊤, map, replicate}
use Rattle.std.specs.List.{AllByRecursion}
use Rattle.std.specs.Option.{option_map_or}
use Rattle.th_base.specs.declared.built_in.TheConstants.{BUNDLE_NUMBER, STRING_NUMBER}
use Rattle.th_base.specs.declared.lifecycle.Lifecycle.{Lifecycle}
use Rattle.th_base.specs.declared.number.ClassId.{ClassId}
use Rattle.th_base.specs.declared.number.FieldId.{FieldId}
use Rattle.th_syntax.specs.declared.class_file.ClassFile.{ClassFile}
use Rattle.th_syntax.specs.declared.class_file.Code.{Code}
use Rattle.th_syntax.specs.declared.class_file.Constant.{Constant}
use Rattle.th_syntax.specs.declared.instr.Instr.{Instr}
use Rattle.th_syntax.specs.Flow.{IsReached, start, onward}
use Rattle.th_syntax.specs.Flags.{is_static}
use Rattle.th_syntax.specs.Machine.{Value, Object, Instance, Array, CallInitialiser, MakeObject, Frame, CodeFrame, InitFrame, LaunchFrame, State, with_frames}
use Rattle.th_base.specs.Handlers.{takes_bundle}
use Rattle.th_syntax.specs.Program.{is_launchable, Owned, fields_of, code_of, instr_at, is_activity}
use Rattle.th_syntax.specs.Strings.{string_constants}
use Rattle.th_syntax.specs.Initial.{default_value, constant_value, new_object, initial}
use Rattle.th_syntax.specs.Effects.{Top, opened_value, opened_statics, opened}
use Rattle.th_syntax.specs.Arrays.{array_descriptor}
use Rattle.th_syntax.specs.Harness.{fresh_objects}
use Rattle.th_syntax.specs.Run.{IsRun, IsReachable}
use Rattle.th_syntax.specs.Facts.{IsReachedIn, IsOriginal, IsStoredInto, IsMade, IsOnPath, IsAtInstruction, EveryPathStands}
use Rattle.th_syntax.specs.Changes.{FallsThrough, AreOfOneType, Takes, by_virtual, by_special, by_interface, by_static, IsEdge, IsChange, ends_run, moves, sets_a_static, sets_an_object, makes_an_instance, makes_an_array, opens_class, calls_method, returns_to, returns_off, finds_superclass, opens_superclass, calls_initialiser, calls_none, initialised_class, finds_class, opens_launched, makes_launched, launches_object, begins_launch, begins_handler}
use Rattle.th_syntax.proofs.Inverting.{some_is, set_cases, all_append, all_at}
use Rattle.th_syntax.proofs.Changing.{in_code, behind_edge, changed}

-- ---- what every state keeps

-- an object of an Activity class is of a class that is made
abbrev pub IsProper : List ClassFile → Object → Type 0
IsProper files (Instance c fields) = is_activity files c.0 ≡ true → IsMade files c.0
IsProper files (Array descriptor elements) = ⊤

-- code stands where a path leads, and a launch is of a launchable class
abbrev pub IsFine : List ClassFile → Frame → Type 0
IsFine files (CodeFrame method offset locals stack) = IsReachedIn files method.0 offset
IsFine files (InitFrame c stage) = ⊤
IsFine files (LaunchFrame c stage) = is_launchable files c.0 ≡ true

-- the frame under a code frame, if it is one of code, waits at an instruction behind which it can go on
abbrev pub WaitsAtCall : List ClassFile → List Frame → Type 0
WaitsAtCall files [] = ⊤
WaitsAtCall files (CodeFrame method offset locals stack ∷ below) = (i : Instr) × (instr_at files method.0 offset ≡ Some i) × FallsThrough i
WaitsAtCall files (InitFrame c stage ∷ below) = ⊤
WaitsAtCall files (LaunchFrame c stage ∷ below) = ⊤

abbrev pub AreStacked : List ClassFile → List Frame → Type 0
AreStacked files [] = ⊤
AreStacked files (CodeFrame method offset locals stack ∷ below) = WaitsAtCall files below × AreStacked files below
AreStacked files (InitFrame c stage ∷ below) = AreStacked files below
AreStacked files (LaunchFrame c stage ∷ below) = AreStacked files below

-- each value has its origin
abbrev pub AreExplained : List ClassFile → List Value → Type 0
AreExplained files statics = (k : ℕ) (v : Value) → slice_get statics k ≡ Some v → IsOriginal files k v ⊎ IsStoredInto files k

pub record Good (files : List ClassFile) (s : State) : Type 0 where
  pub heap : AllByRecursion (IsProper files) s.heap
  pub frames : AllByRecursion (IsFine files) s.frames
  pub stacked : AreStacked files s.frames
  pub statics : AreExplained files s.statics

-- ---- paths

along_edge : (files : List ClassFile) (method offset next : ℕ) → IsReachedIn files method offset → IsEdge files method offset next → IsReachedIn files method next
along_edge files method offset next here edge =
    let same : here.code ≡ edge.code = some_is here.code edge.code (sym here.is_code ∙ edge.is_code) in
    record {
      code = edge.code;
      is_code = edge.is_code;
      reached = onward (subst (λ (code : Code). IsReached code.instrs offset) same here.reached) edge.stands edge.leads;
    }

entry_of : (files : List ClassFile) (method : ℕ) (code : Code) → code_of files method ≡ Some code → IsReachedIn files method 0
entry_of files method code e = record { code = code; is_code = e; reached = start }

call_falls : (files : List ClassFile) {i : Instr} {method : ℕ} {t : Top} → Takes files t i method → FallsThrough i
call_falls files (by_virtual r m e on) = ([], λ b. refl)
call_falls files (by_special r m e on) = ([], λ b. refl)
call_falls files (by_interface r m e on) = ([], λ b. refl)
call_falls files (by_static r m e ready) = ([], λ b. refl)

-- ---- opening a class

pub record IsOpenedFrom (files : List ClassFile) (c : ℕ) (fs : List Owned) (vs : List Value) (k : ℕ) (v : Value) : Type 0 where
  pub field : Owned
  pub old : Value
  pub numbered : slice_get fs k ≡ Some field
  pub held : slice_get vs k ≡ Some old
  pub value : v ≡ opened_value files c field old

pub opened_from : (files : List ClassFile) (c : ℕ) (fs : List Owned) (vs : List Value) (k : ℕ) (v : Value) → slice_get (opened_statics files c fs vs) k ≡ Some v → IsOpenedFrom files c fs vs k v
opened_from files c [] vs k v e = absurd cc
opened_from files c (f ∷ fs) [] k v e = absurd cc
opened_from files c (f ∷ fs) (w ∷ vs) zero v e = record { field = f; old = w; numbered = refl; held = refl; value = sym (some_is (opened_value files c f w) v e) }
opened_from files c (f ∷ fs) (w ∷ vs) (suc k) v e =
    let rest = opened_from files c fs vs k v e in
    record { field = rest.field; old = rest.old; numbered = rest.numbered; held = rest.held; value = rest.value }

opened_explained : (files : List ClassFile) (k : ℕ) (v w : Value) (f : Owned) (here : Bool) (constant : Option Constant) → slice_get (fields_of files) k ≡ Some f → f.member.constant ≡ constant
    → v ≡ (if here then option_map_or (constant_value files) constant w else w) → IsOriginal files k w ⊎ IsStoredInto files k → IsOriginal files k v ⊎ IsStoredInto files k
opened_explained files k v w f true None numbered is e old = subst (λ x. IsOriginal files k x ⊎ IsStoredInto files k) (sym e) old
opened_explained files k v w f true (Some c) numbered is e old = inl (record { declared = f; numbered = numbered; value = inr (c, is, e) })
opened_explained files k v w f false constant numbered is e old = subst (λ x. IsOriginal files k x ⊎ IsStoredInto files k) (sym e) old

opened_good : (files : List ClassFile) (s : State) (c : ℕ) → Good files s → Good files (opened files s c)
opened_good files s c good = record {
  heap = good.heap;
  frames = (tt, good.frames);
  stacked = good.stacked;
  statics = λ k v e.
      let from = opened_from files c (fields_of files) s.statics k v e in
      opened_explained files k v from.old from.field (from.field.owner == c && is_static from.field.member) from.field.member.constant from.numbered refl from.value
      (good.statics k from.old from.held);
}

-- ---- heaps and statics

set_explained : (files : List ClassFile) (statics : List Value) (field : ℕ) (v : Value) → IsStoredInto files field → AreExplained files statics → AreExplained files (slice_set statics field v)
set_explained files statics field v stored old k w e =
    elim (set_cases statics field k v w e) [ inl same ↦ inr (subst (IsStoredInto files) same stored) | inr other ↦ old k w other ]

pub all_set : {A : Type 0} (P : A → Type 0) (xs : List A) (k : ℕ) (x : A) → AllByRecursion P xs → P x → AllByRecursion P (slice_set xs k x)
all_set P [] k x all here = all
all_set P (y ∷ xs) zero x all here = (here, all.1)
all_set P (y ∷ xs) (suc k) x all here = (all.0, all_set P xs k x all.1 here)

proper_too : (files : List ClassFile) (old o : Object) → AreOfOneType old o → IsProper files old → IsProper files o
proper_too files (Instance c fields) (Instance d others) same proper = subst (λ (k : ClassId). is_activity files k.0 ≡ true → IsMade files k.0) same proper
proper_too files (Instance c fields) (Array descriptor elements) same proper = tt
proper_too files (Array descriptor elements) (Instance c fields) same proper = absurd same
proper_too files (Array descriptor elements) (Array other more) same proper = tt

bundle_proper : (files : List ClassFile) → IsProper files (new_object files BUNDLE_NUMBER)
bundle_proper files activity = absurd (let h : false ≡ true = activity in cc)

fresh_proper : (files : List ClassFile) (b : Bool) → AllByRecursion (IsProper files) (if b then new_object files BUNDLE_NUMBER ∷ [] else [])
fresh_proper files true = (bundle_proper files, tt)
fresh_proper files false = tt

-- ---- changes

module _ (lifecycle : Lifecycle) (files : List ClassFile) where
  -- what is known of the frames of a state, where they are these
  frames_are : (s : State) (frames : List Frame) → Good files s → s.frames ≡ frames → AllByRecursion (IsFine files) frames × AreStacked files frames
  frames_are s frames good is = (subst (AllByRecursion (IsFine files)) is good.frames, subst (AreStacked files) is good.stacked)

  good_after : (s w : State) → IsChange lifecycle files s w → Good files s → Good files w
  good_after s _ ends_run good = record { heap = good.heap; frames = good.frames; stacked = good.stacked; statics = good.statics }
  good_after s _ (moves method offset next locals stack locals_after stack_after below is edge) good =
      let at = frames_are s _ good is in
      record { heap = good.heap; frames = (along_edge files method.0 offset next at.0.0 edge, at.0.1); stacked = at.1; statics = good.statics }
  good_after s _ (sets_a_static method offset next locals stack stack_after below v r f is edge stands resolves ready) good =
      let at = frames_are s _ good is in
      record {
        heap = good.heap;
        frames = (along_edge files method.0 offset next at.0.0 edge, at.0.1);
        stacked = at.1;
        statics = set_explained files s.statics f.1.id.0 v
            (record { reference = r; stored = record { method = method.0; offset = offset; stands = stands; reached = at.0.0 }; resolved = f; resolves = resolves; numbered = refl }) good.statics;
      }
  good_after s _ (sets_an_object method offset next locals stack stack_after below a old o is edge there same) good =
      let at = frames_are s _ good is in
      record {
        heap = all_set (IsProper files) s.heap a o good.heap (proper_too files old o same (all_at (IsProper files) s.heap a old good.heap there));
        frames = (along_edge files method.0 offset next at.0.0 edge, at.0.1);
        stacked = at.1;
        statics = good.statics;
      }
  good_after s _ (makes_an_instance method offset next locals stack stack_after below name c is edge stands named ready) good =
      let at = frames_are s _ good is in
      record {
        heap = all_append (IsProper files) s.heap (new_object files c ∷ []) good.heap
            ((λ activity. inr (record { name = name; created = record { method = method.0; offset = offset; stands = stands; reached = at.0.0 }; names = named })), tt);
        frames = (along_edge files method.0 offset next at.0.0 edge, at.0.1);
        stacked = at.1;
        statics = good.statics;
      }
  good_after s _ (makes_an_array method offset next locals stack stack_after below component count is edge) good =
      let at = frames_are s _ good is in
      record {
        heap = all_append (IsProper files) s.heap (Array (array_descriptor component) (replicate count (default_value component)) ∷ []) good.heap (tt, tt);
        frames = (along_edge files method.0 offset next at.0.0 edge, at.0.1);
        stacked = at.1;
        statics = good.statics;
      }
  good_after s _ (opens_class c method offset locals stack below is untouched) good = opened_good files s c good
  good_after s _ (calls_method method offset taken locals stack stack_after arguments below i code is stands takes has_code) good =
      let at = frames_are s _ good is in
      record { heap = good.heap; frames = (entry_of files taken code has_code, at.0); stacked = ((i, stands, call_falls files takes), at.1); statics = good.statics }
  good_after s _ (returns_to method caller offset waiting next locals stack results locals_below stack_below below is goes) good =
      let at = frames_are s _ good is in
      record {
        heap = good.heap;
        frames = (along_edge files caller.0 waiting next at.0.1.0 (behind_edge files caller.0 waiting next at.1.0.0 (in_code files caller.0 waiting at.1.0.0 at.1.0.1) at.1.0.2 goes), at.0.1.1);
        stacked = at.1.1;
        statics = good.statics;
      }
  good_after s _ (returns_off method offset locals stack below is none) good =
      let at = frames_are s _ good is in record { heap = good.heap; frames = at.0.1; stacked = at.1.1; statics = good.statics }
  good_after s _ (finds_superclass c below is ready) good =
      let at = frames_are s _ good is in record { heap = good.heap; frames = (tt, at.0.1); stacked = at.1; statics = good.statics }
  good_after s _ (opens_superclass c k below is above untouched) good =
      let at = frames_are s _ good is in
      opened_good files (with_frames s (InitFrame c CallInitialiser ∷ below)) k (record { heap = good.heap; frames = (tt, at.0.1); stacked = at.1; statics = good.statics })
  good_after s _ (calls_initialiser c below m code is declared has_code) good =
      let at = frames_are s _ good is in record { heap = good.heap; frames = (entry_of files m.id.0 code has_code, (tt, at.0.1)); stacked = (tt, at.1); statics = good.statics }
  good_after s _ (calls_none c below is) good =
      let at = frames_are s _ good is in record { heap = good.heap; frames = (tt, at.0.1); stacked = at.1; statics = good.statics }
  good_after s _ (initialised_class c below is) good =
      let at = frames_are s _ good is in record { heap = good.heap; frames = at.0.1; stacked = at.1; statics = good.statics }
  good_after s _ (finds_class c below is ready) good =
      let at = frames_are s _ good is in record { heap = good.heap; frames = (at.0.0, at.0.1); stacked = at.1; statics = good.statics }
  good_after s _ (opens_launched c below is untouched) good =
      let at = frames_are s _ good is in
      opened_good files (with_frames s (LaunchFrame c MakeObject ∷ below)) c.0 (record { heap = good.heap; frames = (at.0.0, at.0.1); stacked = at.1; statics = good.statics })
  good_after s _ (makes_launched c below m code is declared has_code) good =
      let at = frames_are s _ good is in
      record {
        heap = all_append (IsProper files) s.heap (new_object files c.0 ∷ []) good.heap ((λ activity. inl at.0.0), tt);
        frames = (entry_of files m.id.0 code has_code, (at.0.0, at.0.1));
        stacked = (tt, at.1);
        statics = good.statics;
      }
  good_after s _ (launches_object c object below is) good =
      let at = frames_are s _ good is in record { heap = good.heap; frames = at.0.1; stacked = at.1; statics = good.statics }
  good_after s _ (begins_launch c is launchable) good = record { heap = good.heap; frames = (launchable, tt); stacked = tt; statics = good.statics }
  good_after s _ (begins_handler place number stage method l h fresh code is at listed allows selected has_code) good = record {
    heap = all_append (IsProper files) s.heap (fresh_objects files h fresh) good.heap (fresh_proper files (takes_bundle h && fresh));
    frames = (entry_of files method code has_code, tt);
    stacked = (tt, tt);
    statics = good.statics;
  }

-- ---- runs

strings_proper : (files : List ClassFile) (texts : List (List ℕ)) → AllByRecursion (IsProper files) (map (λ text. new_object files STRING_NUMBER) texts)
strings_proper files [] = tt
strings_proper files (text ∷ texts) = ((λ activity. absurd (let h : false ≡ true = activity in cc)), strings_proper files texts)

pub initial_value : (fs : List Owned) (k : ℕ) (v : Value) → slice_get (map (λ f. default_value f.member.descriptor) fs) k ≡ Some v → (f : Owned) × (slice_get fs k ≡ Some f) × (v ≡ default_value f.member.descriptor)
initial_value [] k v e = absurd cc
initial_value (f ∷ fs) zero v e = (f, refl, sym (some_is (default_value f.member.descriptor) v e))
initial_value (f ∷ fs) (suc k) v e = initial_value fs k v e

initial_good : (files : List ClassFile) → Good files (initial files)
initial_good files = record {
  heap = strings_proper files (string_constants files);
  frames = tt;
  stacked = tt;
  statics = λ k v e. let from = initial_value (fields_of files) k v e in inl (record { declared = from.0; numbered = from.1; value = inl from.2 });
}

run_good : (lifecycle : Lifecycle) (files : List ClassFile) (s : State) (before : List State) → IsRun lifecycle files (s ∷ before) → Good files s
run_good lifecycle files s [] e = subst (Good files) (sym e) (initial_good files)
run_good lifecycle files w (s ∷ before) run = good_after lifecycle files s w (changed lifecycle files s w run.0) (run_good lifecycle files s before run.1)

pub explained : (lifecycle : Lifecycle) (files : List ClassFile) (s : State) → IsReachable lifecycle files s → AreExplained files s.statics
explained lifecycle files s run = (run_good lifecycle files s run.0 run.1).statics

pub made : (lifecycle : Lifecycle) (files : List ClassFile) (s : State) (a : ℕ) (c : ClassId) (fields : List (FieldId × Value)) → IsReachable lifecycle files s → slice_get s.heap a ≡ Some (Instance c fields) → is_activity files c.0 ≡ true → IsMade files c.0
made lifecycle files s a c fields run stands activity = all_at (IsProper files) s.heap a (Instance c fields) (run_good lifecycle files s run.0 run.1).heap stands activity

fine_on_path : (files : List ClassFile) (frames : List Frame) → AllByRecursion (IsFine files) frames → AllByRecursion (IsOnPath files) frames
fine_on_path files [] all = tt
fine_on_path files (CodeFrame method offset locals stack ∷ below) all = (all.0, fine_on_path files below all.1)
fine_on_path files (InitFrame c stage ∷ below) all = (tt, fine_on_path files below all.1)
fine_on_path files (LaunchFrame c stage ∷ below) all = (tt, fine_on_path files below all.1)

pub on_paths : (lifecycle : Lifecycle) (files : List ClassFile) (s : State) → IsReachable lifecycle files s → AllByRecursion (IsOnPath files) s.frames
on_paths lifecycle files s run = fine_on_path files s.frames (run_good lifecycle files s run.0 run.1).frames

path_stands : (files : List ClassFile) (frames : List Frame) → EveryPathStands files → AllByRecursion (IsOnPath files) frames → AllByRecursion (IsAtInstruction files) frames
path_stands files [] whole all = tt
path_stands files (CodeFrame method offset locals stack ∷ below) whole all = (whole method.0 offset all.0, path_stands files below whole all.1)
path_stands files (InitFrame c stage ∷ below) whole all = (tt, path_stands files below whole all.1)
path_stands files (LaunchFrame c stage ∷ below) whole all = (tt, path_stands files below whole all.1)

pub frames_all_stand : (lifecycle : Lifecycle) (files : List ClassFile) (s : State) → EveryPathStands files → IsReachable lifecycle files s → AllByRecursion (IsAtInstruction files) s.frames
frames_all_stand lifecycle files s whole run = path_stands files s.frames whole (on_paths lifecycle files s run)
