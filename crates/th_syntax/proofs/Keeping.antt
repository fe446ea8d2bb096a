-- Objects keep their types in every run, so the String constants stay.
use Rattle.std.proofs.Common.{◌≡◌, ℕ, zero, suc, List, [], ◌∷◌, ◌++◌, Some, slice_get, slice_set, refl, sym, subst, ◌∙◌}
use Rattle.std.specs.Prelude.{map, replicate}
use Rattle.th_base.specs.declared.built_in.TheConstants.{STRING_NUMBER}
use Rattle.th_base.specs.declared.lifecycle.Lifecycle.{Lifecycle}
use Rattle.th_syntax.specs.declared.class_file.ClassFile.{ClassFile}
use Rattle.th_syntax.specs.Machine.{Object, Instance, Array, State, class_id}
use Rattle.th_syntax.specs.Strings.{string_constants}
use Rattle.th_syntax.specs.Initial.{default_value, new_object}
use Rattle.th_syntax.specs.Arrays.{array_descriptor}
use Rattle.th_syntax.specs.Harness.{fresh_objects}
use Rattle.th_syntax.specs.Run.{Follows, IsRun, IsReachable}
use Rattle.th_syntax.specs.Facts.{KeepsType, IsString}
use Rattle.th_syntax.specs.Changes.{AreOfOneType, IsChange, ends_run, moves, sets_a_static, sets_an_object, makes_an_instance, makes_an_array, opens_class, calls_method, returns_to, returns_off, finds_superclass, opens_superclass, calls_initialiser, calls_none, initialised_class, finds_class, opens_launched, makes_launched, launches_object, begins_launch, begins_handler}
use Rattle.th_syntax.proofs.Inverting.{some_is}
use Rattle.th_syntax.proofs.Changing.{changed}

-- ---- heaps

same_type : (o : Object) → AreOfOneType o o
same_type (Instance c fields) = refl
same_type (Array descriptor elements) = refl

kept : (heap : List Object) (a : ℕ) (o : Object) → slice_get heap a ≡ Some o → KeepsType o heap a
kept heap a o stands = record { now = o; stands = stands; same = same_type o }

kept_where_set : (heap : List Object) (b : ℕ) (old new : Object) (a : ℕ) (o : Object) → slice_get heap b ≡ Some old → AreOfOneType old new → slice_get heap a ≡ Some o → KeepsType o (slice_set heap b new) a
kept_where_set [] b old new a o at same stands = absurd cc
kept_where_set (x ∷ heap) zero old new zero o at same stands =
    let is : old ≡ o = sym (some_is x old at) ∙ some_is x o stands in
    record { now = new; stands = refl; same = subst (λ (p : Object). AreOfOneType p new) is same }
kept_where_set (x ∷ heap) zero old new (suc a) o at same stands = record { now = o; stands = stands; same = same_type o }
kept_where_set (x ∷ heap) (suc b) old new zero o at same stands = record { now = o; stands = stands; same = same_type o }
kept_where_set (x ∷ heap) (suc b) old new (suc a) o at same stands =
    let rest = kept_where_set heap b old new a o at same stands in record { now = rest.now; stands = rest.stands; same = rest.same }

kept_before : (heap more : List Object) (a : ℕ) (o : Object) → slice_get heap a ≡ Some o → KeepsType o (heap ++ more) a
kept_before [] more a o stands = absurd cc
kept_before (x ∷ heap) more zero o stands = record { now = o; stands = stands; same = same_type o }
kept_before (x ∷ heap) more (suc a) o stands =
    let rest = kept_before heap more a o stands in record { now = rest.now; stands = rest.stands; same = rest.same }

-- ---- changes

module _ (lifecycle : Lifecycle) (files : List ClassFile) (a : ℕ) (o : Object) where
  kept_after : (s w : State) → IsChange lifecycle files s w → slice_get s.heap a ≡ Some o → KeepsType o w.heap a
  kept_after s _ ends_run stands = kept s.heap a o stands
  kept_after s _ (moves method offset next locals stack locals_after stack_after below is edge) stands = kept s.heap a o stands
  kept_after s _ (sets_a_static method offset next locals stack stack_after below v r f is edge at resolves ready) stands = kept s.heap a o stands
  kept_after s _ (sets_an_object method offset next locals stack stack_after below b old new is edge at same) stands =
      kept_where_set s.heap b old new a o at same stands
  kept_after s _ (makes_an_instance method offset next locals stack stack_after below name c is edge at named ready) stands =
      kept_before s.heap (new_object files c ∷ []) a o stands
  kept_after s _ (makes_an_array method offset next locals stack stack_after below component count is edge) stands =
      kept_before s.heap (Array (array_descriptor component) (replicate count (default_value component)) ∷ []) a o stands
  kept_after s _ (opens_class c method offset locals stack below is untouched) stands = kept s.heap a o stands
  kept_after s _ (calls_method method offset taken locals stack stack_after arguments below i code is at takes has_code) stands = kept s.heap a o stands
  kept_after s _ (returns_to method caller offset waiting next locals stack results locals_below stack_below below is goes) stands = kept s.heap a o stands
  kept_after s _ (returns_off method offset locals stack below is none) stands = kept s.heap a o stands
  kept_after s _ (finds_superclass c below is ready) stands = kept s.heap a o stands
  kept_after s _ (opens_superclass c k below is above untouched) stands = kept s.heap a o stands
  kept_after s _ (calls_initialiser c below m code is declared has_code) stands = kept s.heap a o stands
  kept_after s _ (calls_none c below is) stands = kept s.heap a o stands
  kept_after s _ (initialised_class c below is) stands = kept s.heap a o stands
  kept_after s _ (finds_class c below is ready) stands = kept s.heap a o stands
  kept_after s _ (opens_launched c below is untouched) stands = kept s.heap a o stands
  kept_after s _ (makes_launched c below m code is declared has_code) stands = kept_before s.heap (new_object files c.0 ∷ []) a o stands
  kept_after s _ (launches_object c object below is) stands = kept s.heap a o stands
  kept_after s _ (begins_launch c is launchable) stands = kept s.heap a o stands
  kept_after s _ (begins_handler place number stage method l h fresh code is at listed allows selected has_code) stands =
      kept_before s.heap (fresh_objects files h fresh) a o stands

pub types_kept : (lifecycle : Lifecycle) (files : List ClassFile) (s t : State) (a : ℕ) (o : Object) → Follows lifecycle files s t → slice_get s.heap a ≡ Some o → KeepsType o t.heap a
types_kept lifecycle files s t a o follows = kept_after lifecycle files a o s t (changed lifecycle files s t follows)

-- ---- String constants

string_first : (files : List ClassFile) (texts : List (List ℕ)) (a : ℕ) (text : List ℕ) → slice_get texts a ≡ Some text
    → slice_get (map (λ text. new_object files STRING_NUMBER) texts) a ≡ Some (new_object files STRING_NUMBER)
string_first files [] a text e = absurd cc
string_first files (t ∷ texts) zero text e = refl
string_first files (t ∷ texts) (suc a) text e = string_first files texts a text e

string_too : (heap : List Object) (a : ℕ) (o p : Object) → AreOfOneType (Instance (class_id STRING_NUMBER) []) o → AreOfOneType o p → slice_get heap a ≡ Some p → IsString heap a
string_too heap a (Instance c fields) (Instance d others) string same stands =
    record { fields = others; stands = subst (λ k. slice_get heap a ≡ Some (Instance k others)) (sym (string ∙ same)) stands }
string_too heap a (Instance c fields) (Array descriptor elements) string same stands = absurd same
string_too heap a (Array descriptor elements) p string same stands = absurd string

string_after : (lifecycle : Lifecycle) (files : List ClassFile) (s t : State) (a : ℕ) → Follows lifecycle files s t → IsString s.heap a → IsString t.heap a
string_after lifecycle files s t a follows here =
    let after = types_kept lifecycle files s t a (Instance (class_id STRING_NUMBER) here.fields) follows here.stands in
    string_too t.heap a (Instance (class_id STRING_NUMBER) here.fields) after.now refl after.same after.stands

run_string : (lifecycle : Lifecycle) (files : List ClassFile) (a : ℕ) (text : List ℕ) (s : State) (before : List State) → IsRun lifecycle files (s ∷ before)
    → slice_get (string_constants files) a ≡ Some text → IsString s.heap a
run_string lifecycle files a text s [] e constant =
    subst (λ (t : State). IsString t.heap a) (sym e) (record { fields = _; stands = string_first files (string_constants files) a text constant })
run_string lifecycle files a text w (s ∷ before) run constant =
    string_after lifecycle files s w a run.0 (run_string lifecycle files a text s before run.1 constant)

pub strings_kept : (lifecycle : Lifecycle) (files : List ClassFile) (s : State) (a : ℕ) (text : List ℕ) → IsReachable lifecycle files s → slice_get (string_constants files) a ≡ Some text → IsString s.heap a
strings_kept lifecycle files s a text run constant = run_string lifecycle files a text s run.0 run.1 constant
