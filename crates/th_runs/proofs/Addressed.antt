-- At each address that a reachable state holds an object stands.
use Rattle.std.proofs.Common.{◌≡◌, ℕ, ℤ, suc, ◌+◌, ◌<◌, ◌≤◌, ◌⊎◌, inl, inr, ◌&&◌, Bool, true, false, cond, if◌then◌else◌, List, [], ◌∷◌, ◌++◌, Option, None, Some, slice_get, slice_set, refl, sym, subst, arith, length-append}
use Rattle.std.specs.Prelude.{length}
use Rattle.std.specs.List.{AllByRecursion, position_from}
use Rattle.std.specs.Option.{option_map_or, unwrap_or}
use Rattle.std.specs.Str.{bytes_eq}
use Rattle.std.proofs.lemmas.List.{length-set}
use Rattle.std.proofs.lemmas.Option.{slice_get_within}
use Rattle.th_base.specs.declared.built_in.TheConstants.{BUNDLE_NUMBER, STRING_NUMBER}
use Rattle.th_base.specs.declared.lifecycle.Lifecycle.{Lifecycle}
use Rattle.th_base.specs.declared.number.MethodId.{MethodId}
use Rattle.th_base.specs.Handlers.{takes_bundle}
use Rattle.th_syntax.specs.declared.class_file.ClassFile.{ClassFile}
use Rattle.th_syntax.specs.declared.class_file.Constant.{Constant}
use Rattle.th_syntax.specs.declared.class_file.Constant.TheVariants as constant
use Rattle.th_syntax.specs.declared.machine.Value.{Value}
use Rattle.th_syntax.specs.declared.machine.Value.TheVariants.{Int as IntValue, Long as LongValue, Null as NullValue, Address}
use Rattle.th_syntax.specs.declared.machine.Slot.{Slot}
use Rattle.th_syntax.specs.declared.machine.Slot.TheVariants.{Holds, SecondHalf}
use Rattle.th_syntax.specs.declared.machine.Object.{Object}
use Rattle.th_syntax.specs.declared.machine.InitStage.TheVariants.{CallInitialiser}
use Rattle.th_syntax.specs.declared.machine.LaunchStage.TheVariants.{OpenClass, MakeObject, EndLaunch}
use Rattle.th_syntax.specs.declared.machine.Frame.{Frame}
use Rattle.th_syntax.specs.declared.machine.Frame.TheVariants.{Code as CodeFrame, Init as InitFrame, Launch as LaunchFrame}
use Rattle.th_syntax.specs.declared.machine.Launched.{Launched}
use Rattle.th_syntax.specs.declared.machine.State.{State}
use Rattle.th_syntax.specs.Machine.{parts_of, with_frames}
use Rattle.th_syntax.specs.Slots.{locals_with}
use Rattle.th_syntax.specs.Program.{Owned, fields_of, next_offset}
use Rattle.th_syntax.specs.Strings.{string_constants, string_number_of}
use Rattle.th_syntax.specs.Initial.{default_value, constant_value, string_constant, new_object, initial}
use Rattle.th_syntax.specs.Effects.{Effect, Stuck, Ends, GoesOn, Jumps, SetsStatic, SetsObject, Makes, Opens, Calls, Returns, after, goes_on, returned, opened, opened_statics}
use Rattle.th_syntax.specs.Step.{effect}
use Rattle.th_syntax.specs.Harness.{bundle_argument, fresh_objects}
use Rattle.th_syntax.specs.Run.{IsRun, IsReachable}
use Rattle.th_syntax.specs.Changes.{top_at, HasNoWaiting, IsChange, ends_run, moves, sets_a_static, sets_an_object, makes_an_instance, makes_an_array, opens_class, calls_method, returns_to, returns_off, finds_superclass, opens_superclass, calls_initialiser, calls_none, initialised_class, finds_class, opens_launched, makes_launched, launches_object, begins_launch, begins_handler}
use Rattle.th_syntax.proofs.Inverting.{some_is, map_some, all_append, all_at}
use Rattle.th_syntax.proofs.Keeping.{strings_kept}
use Rattle.th_syntax.proofs.Origins.{all_set}
use Rattle.th_runs.specs.Addresses.{IsOf, IsBelow, IsFrameBelow, IsObjectBelow, IsLaunchedBelow, AreBelow, HasObjects}
use Rattle.th_runs.proofs.Lists.{all_too, all_map}
use Rattle.th_runs.proofs.Moving.{InSlots, InEffect, default_in, new_in, begun, moved}
use Rattle.th_runs.proofs.Stepping.{IsCodeStep, stepped, no_code}

-- ---- more objects

value_grows : (n m : ℕ) → n ≤ m → (v : Value) → IsBelow n v → IsBelow m v
value_grows n m more (IntValue k) here = tt
value_grows n m more (LongValue k) here = tt
value_grows n m more NullValue here = tt
value_grows n m more (Address a) here = omega arith

slot_grows : (n m : ℕ) → n ≤ m → (slot : Slot) → IsOf (IsBelow n) slot → IsOf (IsBelow m) slot
slot_grows n m more (Holds v) here = value_grows n m more v here
slot_grows n m more SecondHalf here = tt

slots_grow : (n m : ℕ) → n ≤ m → (slots : List Slot) → InSlots (IsBelow n) slots → InSlots (IsBelow m) slots
slots_grow n m more = all_too (IsOf (IsBelow n)) (IsOf (IsBelow m)) (slot_grows n m more)

frame_grows : (n m : ℕ) → n ≤ m → (f : Frame) → IsFrameBelow n f → IsFrameBelow m f
frame_grows n m more (CodeFrame method offset locals stack) here = (slots_grow n m more locals here.0, slots_grow n m more stack here.1)
frame_grows n m more (InitFrame c stage) here = tt
frame_grows n m more (LaunchFrame c OpenClass) here = tt
frame_grows n m more (LaunchFrame c MakeObject) here = tt
frame_grows n m more (LaunchFrame c (EndLaunch object)) here = omega arith

frames_grow : (n m : ℕ) → n ≤ m → (frames : List Frame) → AllByRecursion (IsFrameBelow n) frames → AllByRecursion (IsFrameBelow m) frames
frames_grow n m more = all_too (IsFrameBelow n) (IsFrameBelow m) (frame_grows n m more)

values_grow : (n m : ℕ) → n ≤ m → (vs : List Value) → AllByRecursion (IsBelow n) vs → AllByRecursion (IsBelow m) vs
values_grow n m more = all_too (IsBelow n) (IsBelow m) (value_grows n m more)

object_grows : (n m : ℕ) → n ≤ m → (o : Object) → IsObjectBelow n o → IsObjectBelow m o
object_grows n m more o = values_grow n m more (parts_of o)

heap_grows : (n m : ℕ) → n ≤ m → (heap : List Object) → AllByRecursion (IsObjectBelow n) heap → AllByRecursion (IsObjectBelow m) heap
heap_grows n m more = all_too (IsObjectBelow n) (IsObjectBelow m) (object_grows n m more)

launched_grow : (n m : ℕ) → n ≤ m → (ls : List Launched) → AllByRecursion (IsLaunchedBelow n) ls → AllByRecursion (IsLaunchedBelow m) ls
launched_grow n m more = all_too (IsLaunchedBelow n) (IsLaunchedBelow m) (λ l here. omega arith)

-- the same objects at the front of a longer heap
pub longer : {A : Type 0} (xs ys : List A) → length xs ≤ length (xs ++ ys)
longer xs ys = omega (arith, length-append xs ys)

pub one_longer : {A : Type 0} (xs : List A) (y : A) → length xs < length (xs ++ y ∷ [])
one_longer xs y = omega (arith, length-append xs (y ∷ []))

-- ---- constants

at_by : {A : Type 0} (p : A → Bool) (n k : ℕ) (x : A) (xs : List A) (b : Bool) → cond b (Some n) (position_from p (n + 1) xs) ≡ Some k → (position_from p (n + 1) xs ≡ Some k → (j : ℕ) × (k ≡ (n + 1) + j) × (y : A) × (slice_get xs j ≡ Some y))
    → (j : ℕ) × (k ≡ n + j) × (y : A) × (slice_get (x ∷ xs) j ≡ Some y)
at_by p n k x xs true e rest = (0, (let same : n ≡ k = some_is n k e in omega arith), x, refl)
at_by p n k x xs false e rest = let found = rest e in (suc found.0, (let same = found.1 in omega (arith, same)), found.2, found.3)

pub at_position : {A : Type 0} (p : A → Bool) (n k : ℕ) (xs : List A) → position_from p n xs ≡ Some k → (j : ℕ) × (k ≡ n + j) × (y : A) × (slice_get xs j ≡ Some y)
at_position p n k [] e = absurd cc
at_position p n k (x ∷ xs) e = at_by p n k x xs (p x) e (at_position p (n + 1) k xs)

abbrev StringsBelow : List ClassFile → ℕ → Type 0
StringsBelow files end = (text : List ℕ) (v : Value) → string_constant files text ≡ Some v → IsBelow end v

strings_below : (lifecycle : Lifecycle) (files : List ClassFile) (s : State) → IsReachable lifecycle files s → StringsBelow files (length s.heap)
strings_below lifecycle files s run text v e =
    let k = map_some Address (string_number_of files text) v e in
    let found = at_position (bytes_eq text) 0 k.0 (string_constants files) k.1 in
    let same : found.0 ≡ k.0 = let level = found.1 in omega (arith, level) in
    let string = strings_kept lifecycle files s found.0 found.2 run found.3 in
    subst (IsBelow (length s.heap)) k.2 (subst (λ a. a < length s.heap) same (slice_get_within s.heap found.0 _ string.stands))

text_by : (end : ℕ) (o : Option Value) → ((v : Value) → o ≡ Some v → IsBelow end v) → IsBelow end (unwrap_or o NullValue)
text_by end None each = tt
text_by end (Some v) each = each v refl

constant_below : (files : List ClassFile) (end : ℕ) → StringsBelow files end → (c : Constant) → IsBelow end (constant_value files c)
constant_below files end strings (constant.Int n) = tt
constant_below files end strings (constant.Long n) = tt
constant_below files end strings (constant.Str text) = text_by end (string_constant files text) (strings text)

opened_by : (files : List ClassFile) (end : ℕ) → StringsBelow files end → (b : Bool) (c : Option Constant) (v : Value) → IsBelow end v → IsBelow end (if b then option_map_or (constant_value files) c v else v)
opened_by files end strings true None v here = here
opened_by files end strings true (Some c) v here = constant_below files end strings c
opened_by files end strings false c v here = here

opened_below : (files : List ClassFile) (end c : ℕ) → StringsBelow files end → (fs : List Owned) (vs : List Value) → AllByRecursion (IsBelow end) vs → AllByRecursion (IsBelow end) (opened_statics files c fs vs)
opened_below files end c strings [] vs all = tt
opened_below files end c strings (f ∷ fs) [] all = tt
opened_below files end c strings (f ∷ fs) (v ∷ vs) all = (opened_by files end strings _ f.member.constant v all.0, opened_below files end c strings fs vs all.1)

opened_in : (files : List ClassFile) (s : State) (c : ℕ) → StringsBelow files (length s.heap) → HasObjects s → HasObjects (opened files s c)
opened_in files s c strings good =
    record { frames = (tt, good.frames); statics = opened_below files (length s.heap) c strings (fields_of files) s.statics good.statics; heap = good.heap; launched = good.launched }

-- ---- effects

all_ints : (n : ℕ) (k : ℤ) → IsBelow n (IntValue k)
all_ints n k = tt

all_longs : (n : ℕ) (k : ℤ) → IsBelow n (LongValue k)
all_longs n k = tt

fresh_below : (n : ℕ) (files : List ClassFile) (c : ℕ) → IsObjectBelow n (new_object files c)
fresh_below n files c = new_in (IsBelow n) (all_ints n) (all_longs n) tt files c

begun_below : (n : ℕ) (arguments : List Slot) (count : ℕ) → InSlots (IsBelow n) arguments → InSlots (IsBelow n) (locals_with arguments count)
begun_below n arguments count all = begun (IsBelow n) (all_ints n) (all_longs n) tt arguments count all

returned_below : (files : List ClassFile) (n : ℕ) (results : List Slot) (below rest : List Frame) → InSlots (IsBelow n) results → AllByRecursion (IsFrameBelow n) below → returned files results below ≡ Some rest → AllByRecursion (IsFrameBelow n) rest
returned_below files n results [] rest all here e = subst (AllByRecursion (IsFrameBelow n)) (some_is _ rest e) tt
returned_below files n results (CodeFrame method offset locals stack ∷ below) rest all here e =
    let m = map_some (λ (next : ℕ). CodeFrame method next locals (results ++ stack) ∷ below) (next_offset files method.0 offset) rest e in
    subst (AllByRecursion (IsFrameBelow n)) m.2 ((here.0.0, all_append (IsOf (IsBelow n)) results stack all here.0.1), here.1)
returned_below files n results (InitFrame c stage ∷ below) rest all here e = subst (AllByRecursion (IsFrameBelow n)) (some_is _ rest e) here
returned_below files n results (LaunchFrame c stage ∷ below) rest all here e = subst (AllByRecursion (IsFrameBelow n)) (some_is _ rest e) here

module _ (files : List ClassFile) (s : State) (method : MethodId) (offset : ℕ) (locals stack : List Slot) (below : List Frame)
    (strings : StringsBelow files (length s.heap)) (good : HasObjects s) (runs : s.frames ≡ CodeFrame method offset locals stack ∷ below) where
  here : AllByRecursion (IsFrameBelow (length s.heap)) (CodeFrame method offset locals stack ∷ below)
  here = subst (AllByRecursion (IsFrameBelow (length s.heap))) runs good.frames

  -- the frame on top goes on in this state
  behind : (u w : State) (locals_after stack_after : List Slot) → ((next : ℕ) → HasObjects (with_frames u (CodeFrame method next locals_after stack_after ∷ below)))
      → goes_on files (top_at s method offset locals stack below) u locals_after stack_after ≡ Some w → HasObjects w
  behind u w locals_after stack_after each e =
      let m = map_some (λ (next : ℕ). with_frames u (CodeFrame method next locals_after stack_after ∷ below)) (next_offset files method.0 offset) w e in
      subst HasObjects m.2 (each m.0)

  below_after : (e : Effect) (w : State) → InEffect (IsBelow (length s.heap)) e → after files (top_at s method offset locals stack below) e ≡ Some w → HasObjects w
  below_after Stuck w inside e = absurd cc
  below_after Ends w inside e = subst HasObjects (some_is _ w e) (record { frames = good.frames; statics = good.statics; heap = good.heap; launched = good.launched })
  below_after (GoesOn locals_after stack_after) w inside e =
      behind s w locals_after stack_after (λ next. record { frames = (inside, here.1); statics = good.statics; heap = good.heap; launched = good.launched }) e
  below_after (Jumps target stack_after) w inside e =
      subst HasObjects (some_is _ w e) (record { frames = ((here.0.0, inside), here.1); statics = good.statics; heap = good.heap; launched = good.launched })
  below_after (SetsStatic field v stack_after) w inside e =
      behind (record s { statics = slice_set s.statics field v }) w locals stack_after
      (λ next. record { frames = ((here.0.0, inside.1), here.1); statics = all_set (IsBelow (length s.heap)) s.statics field v good.statics inside.0; heap = good.heap; launched = good.launched }) e
  below_after (SetsObject a o stack_after) w inside e =
      behind (record s { heap = slice_set s.heap a o }) w locals stack_after
      (λ next. subst (λ n. AreBelow n (record s { heap = slice_set s.heap a o; frames = CodeFrame method next locals stack_after ∷ below })) (sym (length-set s.heap a o))
      (record { frames = ((here.0.0, inside.1), here.1); statics = good.statics; heap = all_set (IsObjectBelow (length s.heap)) s.heap a o good.heap inside.0; launched = good.launched })) e
  below_after (Makes o stack_after) w inside e =
      let n : ℕ = length s.heap in let m : ℕ = length (s.heap ++ o ∷ []) in let more : n ≤ m = longer s.heap (o ∷ []) in
      behind (record s { heap = s.heap ++ o ∷ [] }) w locals (Holds (Address n) ∷ stack_after)
      (λ next. record {
        frames = ((slots_grow n m more locals here.0.0, (one_longer s.heap o, slots_grow n m more stack_after inside.1)), frames_grow n m more below here.1);
        statics = values_grow n m more s.statics good.statics;
        heap = all_append (IsObjectBelow m) s.heap (o ∷ []) (heap_grows n m more s.heap good.heap) (object_grows n m more o inside.0, tt);
        launched = launched_grow n m more s.launched good.launched;
      }) e
  below_after (Opens c) w inside e = subst HasObjects (some_is _ w e) (opened_in files s c strings good)
  below_after (Calls taken locals_in stack_after) w inside e =
      subst HasObjects (some_is _ w e)
      (record { frames = ((inside.0, tt), ((here.0.0, inside.1), here.1)); statics = good.statics; heap = good.heap; launched = good.launched })
  below_after (Returns results) w inside e =
      let rest = map_some (with_frames s) (returned files results below) w e in
      subst HasObjects rest.2
      (record { frames = returned_below files (length s.heap) results below rest.0 inside here.1 rest.1; statics = good.statics; heap = good.heap; launched = good.launched })

code_below : (files : List ClassFile) (s w : State) → StringsBelow files (length s.heap) → HasObjects s → IsCodeStep files s w → HasObjects w
code_below files s w strings good step =
    let t = top_at s step.method step.offset step.locals step.stack step.below in
    let n : ℕ = length s.heap in
    let mine = here files s step.method step.offset step.locals step.stack step.below strings good step.runs in
    below_after files s step.method step.offset step.locals step.stack step.below strings good step.runs (effect files t step.i) w
    (moved (IsBelow n) (all_ints n) (all_longs n) tt files t strings mine.0.0 mine.0.1 good.statics good.heap step.i) step.gives

-- ---- other changes

bundle_below : (n m : ℕ) (b f : Bool) → n < m → InSlots (IsBelow m) (if b then Holds (if f then Address n else NullValue) ∷ [] else [])
bundle_below n m true true less = (less, tt)
bundle_below n m true false less = (tt, tt)
bundle_below n m false f less = tt

-- the address of a fresh Bundle is only an argument where there is one
bundle_within : (files : List ClassFile) (heap : List Object) (b f : Bool)
    → InSlots (IsBelow (length (heap ++ (if b && f then new_object files BUNDLE_NUMBER ∷ [] else [])))) (if b then Holds (if f then Address (length heap) else NullValue) ∷ [] else [])
bundle_within files heap true true = (one_longer heap (new_object files BUNDLE_NUMBER), tt)
bundle_within files heap true false = (tt, tt)
bundle_within files heap false f = tt

fresh_all : (files : List ClassFile) (n : ℕ) (b : Bool) → AllByRecursion (IsObjectBelow n) (if b then new_object files BUNDLE_NUMBER ∷ [] else [])
fresh_all files n true = (fresh_below n files BUNDLE_NUMBER, tt)
fresh_all files n false = tt

module _ (lifecycle : Lifecycle) (files : List ClassFile) where
  objects_after : (s w : State) → IsChange lifecycle files s w → HasNoWaiting s.frames → StringsBelow files (length s.heap) → HasObjects s → HasObjects w
  objects_after s _ ends_run none strings good = record { frames = good.frames; statics = good.statics; heap = good.heap; launched = good.launched }
  objects_after s _ (moves method offset next locals stack locals_after stack_after below is edge) none strings good = no_code s _ none is (λ h. h)
  objects_after s _ (sets_a_static method offset next locals stack stack_after below v r f is edge at resolves ready) none strings good = no_code s _ none is (λ h. h)
  objects_after s _ (sets_an_object method offset next locals stack stack_after below a old o is edge at same) none strings good = no_code s _ none is (λ h. h)
  objects_after s _ (makes_an_instance method offset next locals stack stack_after below name c is edge at named ready) none strings good = no_code s _ none is (λ h. h)
  objects_after s _ (makes_an_array method offset next locals stack stack_after below component count is edge) none strings good = no_code s _ none is (λ h. h)
  objects_after s _ (opens_class c method offset locals stack below is untouched) none strings good = no_code s _ none is (λ h. h)
  objects_after s _ (calls_method method offset taken locals stack stack_after arguments below i code is at takes has_code) none strings good = no_code s _ none is (λ h. h)
  objects_after s _ (returns_to method caller offset waiting next locals stack results locals_below stack_below below is goes) none strings good = no_code s _ none is (λ h. h)
  objects_after s _ (returns_off method offset locals stack below is over) none strings good = no_code s _ none is (λ h. h)
  objects_after s _ (finds_superclass c below is ready) none strings good =
      record { frames = (tt, (subst (AllByRecursion (IsFrameBelow (length s.heap))) is good.frames).1); statics = good.statics; heap = good.heap; launched = good.launched }
  objects_after s _ (opens_superclass c k below is above untouched) none strings good =
      opened_in files (with_frames s (InitFrame c CallInitialiser ∷ below)) k strings
      (record { frames = (tt, (subst (AllByRecursion (IsFrameBelow (length s.heap))) is good.frames).1); statics = good.statics; heap = good.heap; launched = good.launched })
  objects_after s _ (calls_initialiser c below m code is declared has_code) none strings good =
      record { frames = ((begun_below (length s.heap) [] code.max_locals tt, tt), (tt, (subst (AllByRecursion (IsFrameBelow (length s.heap))) is good.frames).1)); statics = good.statics; heap = good.heap; launched = good.launched }
  objects_after s _ (calls_none c below is) none strings good =
      record { frames = (tt, (subst (AllByRecursion (IsFrameBelow (length s.heap))) is good.frames).1); statics = good.statics; heap = good.heap; launched = good.launched }
  objects_after s _ (initialised_class c below is) none strings good =
      record { frames = (subst (AllByRecursion (IsFrameBelow (length s.heap))) is good.frames).1; statics = good.statics; heap = good.heap; launched = good.launched }
  objects_after s _ (finds_class c below is ready) none strings good =
      record { frames = (tt, (subst (AllByRecursion (IsFrameBelow (length s.heap))) is good.frames).1); statics = good.statics; heap = good.heap; launched = good.launched }
  objects_after s _ (opens_launched c below is untouched) none strings good =
      opened_in files (with_frames s (LaunchFrame c MakeObject ∷ below)) c.0 strings
      (record { frames = (tt, (subst (AllByRecursion (IsFrameBelow (length s.heap))) is good.frames).1); statics = good.statics; heap = good.heap; launched = good.launched })
  objects_after s _ (makes_launched c below m code is declared has_code) none strings good =
      let o : Object = new_object files c.0 in
      let n : ℕ = length s.heap in let k : ℕ = length (s.heap ++ o ∷ []) in let more : n ≤ k = longer s.heap (o ∷ []) in
      record {
        frames = (
          (begun_below k (Holds (Address n) ∷ []) code.max_locals (one_longer s.heap o, tt), tt),
          (one_longer s.heap o, frames_grow n k more below (subst (AllByRecursion (IsFrameBelow (length s.heap))) is good.frames).1),
        );
        statics = values_grow n k more s.statics good.statics;
        heap = all_append (IsObjectBelow k) s.heap (o ∷ []) (heap_grows n k more s.heap good.heap) (fresh_below k files c.0, tt);
        launched = launched_grow n k more s.launched good.launched;
      }
  objects_after s _ (launches_object c object below is) none strings good =
      let at = subst (AllByRecursion (IsFrameBelow (length s.heap))) is good.frames in
      record { frames = at.1; statics = good.statics; heap = good.heap; launched = all_append (IsLaunchedBelow (length s.heap)) s.launched _ good.launched (at.0, tt) }
  objects_after s _ (begins_launch c is launchable) none strings good = record { frames = (tt, tt); statics = good.statics; heap = good.heap; launched = good.launched }
  objects_after s _ (begins_handler place number stage method l h fresh code is at listed allows selected has_code) none strings good =
      let news : List Object = fresh_objects files h fresh in
      let n : ℕ = length s.heap in let k : ℕ = length (s.heap ++ news) in let more : n ≤ k = longer s.heap news in
      let object : l.object < n = all_at (IsLaunchedBelow n) s.launched place l good.launched at in
      record {
        frames = ((begun_below k (Holds (Address l.object) ∷ bundle_argument h fresh n) code.max_locals ((let there : l.object < k = omega arith in there), bundle_within files s.heap (takes_bundle h) fresh), tt), tt);
        statics = values_grow n k more s.statics good.statics;
        heap = all_append (IsObjectBelow k) s.heap news (heap_grows n k more s.heap good.heap) (fresh_all files k (takes_bundle h && fresh));
        launched = launched_grow n k more (slice_set s.launched place record { object = l.object; stage = stage }) (all_set (IsLaunchedBelow n) s.launched place record { object = l.object; stage = stage } good.launched object);
      }

  objects_next : (s w : State) → (IsCodeStep files s w ⊎ (HasNoWaiting s.frames × IsChange lifecycle files s w)) → StringsBelow files (length s.heap) → HasObjects s → HasObjects w
  objects_next s w (inl code) strings good = code_below files s w strings good code
  objects_next s w (inr other) strings good = objects_after s w other.1 other.0 strings good

  run_objects : (s : State) (before : List State) → IsRun lifecycle files (s ∷ before) → HasObjects s
  run_objects s [] e =
      let n : ℕ = length (initial files).heap in
      subst HasObjects (sym e)
      (record {
        frames = tt;
        statics = all_map (IsBelow n) (λ (f : Owned). default_value f.member.descriptor) (fields_of files) (λ f. default_in (IsBelow n) (all_ints n) (all_longs n) tt f.member.descriptor);
        heap = all_map (IsObjectBelow n) (λ (text : List ℕ). new_object files STRING_NUMBER) (string_constants files) (λ text. fresh_below n files STRING_NUMBER);
        launched = tt;
      })
  run_objects w (s ∷ before) run =
      objects_next s w (stepped lifecycle files s w run.0) (strings_below lifecycle files s (before, run.1)) (run_objects s before run.1)

pub objects_are_there : (lifecycle : Lifecycle) (files : List ClassFile) (s : State) → IsReachable lifecycle files s → HasObjects s
objects_are_there lifecycle files s run = run_objects lifecycle files s run.0 run.1
