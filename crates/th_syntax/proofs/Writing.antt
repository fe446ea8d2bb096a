-- No static field of an untouched class was ever written.
use Rattle.std.proofs.Common.{◌≡◌, ℕ, zero, suc, ◌==◌, ◌&&◌, inl, inr, Bool, true, false, List, [], ◌∷◌, ◌++◌, Option, None, Some, slice_get, slice_set, refl, sym, ap, subst, ◌∙◌, if◌then◌else◌, arith}
use Rattle.std.specs.Prelude.{◌+◌, length, map, find}
use Rattle.std.proofs.lemmas.Bool.{eqb-true}
use Rattle.std.specs.Option.{option_map, option_map_or, option_or}
use Rattle.std.specs.Str.{bytes_eq}
use Rattle.th_base.specs.declared.class.ClassInfo.{ClassInfo}
use Rattle.th_base.specs.declared.class.FieldInfo.{FieldInfo}
use Rattle.th_base.specs.declared.lifecycle.Lifecycle.{Lifecycle}
use Rattle.th_base.specs.Hierarchy.{first_some, declared_field, resolved_field, supertypes_of}
use Rattle.th_syntax.specs.declared.class_file.ClassFile.{ClassFile}
use Rattle.th_syntax.specs.declared.class_file.Member.{Member}
use Rattle.th_syntax.specs.declared.instr.MemberRef.{MemberRef}
use Rattle.th_syntax.specs.Flags.{is_static}
use Rattle.th_syntax.specs.Machine.{Value, Mark, Untouched, InProgress, Done, State}
use Rattle.th_syntax.specs.Program.{Owned, owned_from, all_classes, fields_of, field_infos, class_infos, hierarchy_of, number_named}
use Rattle.th_syntax.specs.Initial.{default_value, constant_value, initial}
use Rattle.th_syntax.specs.Effects.{opened_statics}
use Rattle.th_syntax.specs.Fields.{field_resolved}
use Rattle.th_syntax.specs.Run.{IsRun, IsReachable}
use Rattle.th_syntax.specs.Changes.{IsInitialised, IsChange, ends_run, moves, sets_a_static, sets_an_object, makes_an_instance, makes_an_array, opens_class, calls_method, returns_to, returns_off, finds_superclass, opens_superclass, calls_initialiser, calls_none, initialised_class, finds_class, opens_launched, makes_launched, launches_object, begins_launch, begins_handler}
use Rattle.th_syntax.proofs.Inverting.{and_then_some, map_some, some_is, set_cases}
use Rattle.th_syntax.proofs.Changing.{changed}
use Rattle.th_syntax.proofs.Origins.{opened_from, initial_value}
use Rattle.th_syntax.proofs.Initialising.{touched_here, in_progress_apart, done_apart, initialised_touched}

-- ---- the number of a field is its place, and its owner is the class that declares it

first_or : {X Y : Type 0} (f : X → Option Y) (xs : List X) (x : X) (y : Y) (o : Option Y) → f x ≡ o → (first_some f xs ≡ Some y → (z : X) × (f z ≡ Some y))
    → option_or o (first_some f xs) ≡ Some y → (z : X) × (f z ≡ Some y)
first_or f xs x y None is rest e = rest e
first_or f xs x y (Some z) is rest e = (x, is ∙ e)

first_found : {X Y : Type 0} (f : X → Option Y) (xs : List X) (y : Y) → first_some f xs ≡ Some y → (x : X) × (f x ≡ Some y)
first_found f [] y e = absurd cc
first_found f (x ∷ xs) y e = first_or f xs x y (f x) refl (first_found f xs y) e

found_or : {X : Type 0} (p : X → Bool) (y : X) (xs : List X) (x : X) (b : Bool) → (find p xs ≡ Some x → (n : ℕ) × (slice_get xs n ≡ Some x)) → (if b then Some y else find p xs) ≡ Some x
    → (n : ℕ) × (slice_get (y ∷ xs) n ≡ Some x)
found_or p y xs x true rest e = (0, e)
found_or p y xs x false rest e = let more = rest e in (suc more.0, more.1)

found_at : {X : Type 0} (p : X → Bool) (xs : List X) (x : X) → find p xs ≡ Some x → (n : ℕ) × (slice_get xs n ≡ Some x)
found_at p [] x e = absurd cc
found_at p (y ∷ xs) x e = found_or p y xs x (p y) (found_at p xs x) e

info_at : (n : ℕ) (ms : List Member) (k : ℕ) (g : FieldInfo) → slice_get (field_infos n ms) k ≡ Some g → (m : Member) × (slice_get ms k ≡ Some m) × (g.id.0 ≡ n + k)
info_at n [] k g e = absurd cc
info_at n (m ∷ ms) zero g e =
    let same : n ≡ g.id.0 = ap (λ (x : FieldInfo). x.id.0) (some_is _ g e) in
    let here : n ≡ n + 0 = omega arith in (m, refl, sym same ∙ here)
info_at n (m ∷ ms) (suc k) g e =
    let rest = info_at (n + 1) ms k g e in
    let there : n + 1 + k ≡ n + suc k = omega arith in (rest.0, rest.1, rest.2 ∙ there)

owned_at : (owner : ℕ) (ms : List Member) (more : List Owned) (k : ℕ) (m : Member) → slice_get ms k ≡ Some m
    → slice_get (map (λ (m : Member). let o : Owned = record { owner = owner; member = m } in o) ms ++ more) k ≡ Some (record { owner = owner; member = m })
owned_at owner [] more k m e = absurd cc
owned_at owner (x ∷ ms) more zero m e = ap (λ (o : Option Member). option_map (λ (m : Member). let o : Owned = record { owner = owner; member = m } in o) o) e
owned_at owner (x ∷ ms) more (suc k) m e = owned_at owner ms more k m e

owned_behind : (owner : ℕ) (ms : List Member) (more : List Owned) (k : ℕ)
    → slice_get (map (λ (m : Member). let o : Owned = record { owner = owner; member = m } in o) ms ++ more) (length ms + k) ≡ slice_get more k
owned_behind owner [] more k = let here : 0 + k ≡ k = omega arith in ap (slice_get more) here
owned_behind owner (x ∷ ms) more k =
    let step : suc (length ms) + k ≡ suc (length ms + k) = omega arith in
    ap (slice_get (map (λ (m : Member). let o : Owned = record { owner = owner; member = m } in o) (x ∷ ms) ++ more)) step ∙ owned_behind owner ms more k

-- the field stands at this place, and is declared by this class
pub record StandsAt (os : List Owned) (place class : ℕ) : Type 0 where
  pub field : Owned
  pub stands : slice_get os place ≡ Some field
  pub owner : field.owner ≡ class

stands_at : (all : List ClassFile) (field method : ℕ) (cs : List ClassFile) (owner k n : ℕ) (info : ClassInfo) (g : FieldInfo) → slice_get (class_infos all field method cs) k ≡ Some info
    → slice_get info.fields n ≡ Some g → (place : ℕ) × (g.id.0 ≡ field + place) × StandsAt (owned_from (λ c. c.fields) owner cs) place (owner + k)
stands_at all field method [] owner k n info g at e = absurd cc
stands_at all field method (c ∷ cs) owner zero n info g at e =
    let fields : field_infos field c.fields ≡ info.fields = ap (λ (i : ClassInfo). i.fields) (some_is _ info at) in
    let m = info_at field c.fields n g (ap (λ xs. slice_get xs n) fields ∙ e) in
    let here : owner ≡ owner + 0 = omega arith in
    (n, m.2, record { field = record { owner = owner; member = m.0 }; stands = owned_at owner c.fields (owned_from (λ c. c.fields) (owner + 1) cs) n m.0 m.1; owner = here })
stands_at all field method (c ∷ cs) owner (suc k) n info g at e =
    let rest = stands_at all (field + length c.fields) (method + length c.methods) cs (owner + 1) k n info g at e in
    let place : field + length c.fields + rest.0 ≡ field + (length c.fields + rest.0) = omega arith in
    let class : owner + 1 + k ≡ owner + suc k = omega arith in (
      length c.fields + rest.0,
      rest.1 ∙ place,
      record {
        field = rest.2.field;
        stands = owned_behind owner c.fields (owned_from (λ c. c.fields) (owner + 1) cs) rest.0 ∙ rest.2.stands;
        owner = rest.2.owner ∙ class;
      },
    )

moved_to : (os : List Owned) (a b c d : ℕ) → StandsAt os a c → a ≡ b → c ≡ d → StandsAt os b d
moved_to os a b c d at place class =
    record { field = at.field; stands = subst (λ (n : ℕ). slice_get os n ≡ Some at.field) place at.stands; owner = at.owner ∙ class }

resolved_stands : (files : List ClassFile) (r : MemberRef) (f : ℕ × FieldInfo) → field_resolved files r ≡ Some f → StandsAt (fields_of files) f.1.id.0 f.0
resolved_stands files r f e =
    let c = and_then_some (λ c. resolved_field (hierarchy_of files) c r.name r.descriptor) (number_named files r.owner) f e in
    let k = first_found (λ k. option_map (λ (g : FieldInfo). let x : ℕ × FieldInfo = (k, g) in x) (declared_field (hierarchy_of files) r.name r.descriptor k)) (supertypes_of (hierarchy_of files) c.0) f c.2 in
    let g = map_some (λ (g : FieldInfo). let x : ℕ × FieldInfo = (k.0, g) in x) (declared_field (hierarchy_of files) r.name r.descriptor k.0) f k.1 in
    let info = and_then_some (λ (i : ClassInfo). find (λ (x : FieldInfo). bytes_eq x.name r.name && bytes_eq x.descriptor r.descriptor) i.fields) (slice_get (hierarchy_of files) k.0) g.0 g.1 in
    let n = found_at (λ (x : FieldInfo). bytes_eq x.name r.name && bytes_eq x.descriptor r.descriptor) info.0.fields g.0 info.2 in
    let at = stands_at files 0 0 (all_classes files) 0 k.0 n.0 info.0 g.0 info.1 n.1 in
    let same_place : at.0 ≡ 0 + at.0 = omega arith in
    let same_class : 0 + k.0 ≡ k.0 = omega arith in
    let stands : StandsAt (fields_of files) g.0.id.0 k.0 = moved_to (fields_of files) at.0 g.0.id.0 (0 + k.0) k.0 at.2 (same_place ∙ sym at.1) same_class in
    subst (λ (x : ℕ × FieldInfo). StandsAt (fields_of files) x.1.id.0 x.0) g.2 stands

-- ---- untouched classes

abbrev pub AreUnwritten : List ClassFile → List Mark → List Value → Type 0
AreUnwritten files marks statics = (k : ℕ) (f : Owned) (v : Value) → slice_get (fields_of files) k ≡ Some f → slice_get marks f.owner ≡ Some Untouched
    → slice_get statics k ≡ Some v → v ≡ default_value f.member.descriptor

-- a class that is untouched after a mark is set was so before, and is another
was_untouched : (marks : List Mark) (c d : ℕ) (m : Mark) → (m ≡ Untouched → ⊥) → slice_get (slice_set marks c m) d ≡ Some Untouched → ((c ≡ d) → ⊥) × (slice_get marks d ≡ Some Untouched)
was_untouched marks c d m apart e =
    let other : c ≡ d → ⊥ = λ same. touched_here marks c m apart (subst (λ (n : ℕ). slice_get (slice_set marks c m) n ≡ Some Untouched) (sym same) e) in
    (other, elim (set_cases marks c d m Untouched e) [ inl same ↦ absurd (other same) | inr old ↦ old ])

opened_same : (files : List ClassFile) (c : ℕ) (f : Owned) (old : Value) (here static : Bool) → (f.owner == c) ≡ here → (c ≡ f.owner → ⊥)
    → (if here && static then option_map_or (constant_value files) f.member.constant old else old) ≡ old
opened_same files c f old true static is other = absurd (other (sym (eqb-true f.owner c is)))
opened_same files c f old false static is other = refl

opened_unwritten : (files : List ClassFile) (marks : List Mark) (statics : List Value) (c : ℕ) → AreUnwritten files marks statics
    → AreUnwritten files (slice_set marks c InProgress) (opened_statics files c (fields_of files) statics)
opened_unwritten files marks statics c good k f v numbered untouched e =
    let before = was_untouched marks c f.owner InProgress in_progress_apart untouched in
    let from = opened_from files c (fields_of files) statics k v e in
    let same : from.field ≡ f = some_is from.field f (sym from.numbered ∙ numbered) in
    let other : c ≡ from.field.owner → ⊥ = λ is. before.0 (is ∙ ap (λ (o : Owned). o.owner) same) in
    from.value ∙ opened_same files c from.field from.old (from.field.owner == c) (is_static from.field.member) refl other ∙ good k f from.old numbered before.1 from.held

set_unwritten : (files : List ClassFile) (s : State) (r : MemberRef) (f : ℕ × FieldInfo) (v : Value) → field_resolved files r ≡ Some f → IsInitialised s f.0 → AreUnwritten files s.marks s.statics
    → AreUnwritten files s.marks (slice_set s.statics f.1.id.0 v)
set_unwritten files s r f v resolves ready good k o w numbered untouched e =
    elim (set_cases s.statics f.1.id.0 k v w e) [
      | inl same ↦ absurd (
          let at = resolved_stands files r f resolves in
          let one : at.field ≡ o = some_is at.field o (sym at.stands ∙ ap (slice_get (fields_of files)) same ∙ numbered) in
          let owner : o.owner ≡ f.0 = sym (ap (λ (x : Owned). x.owner) one) ∙ at.owner in
          initialised_touched s f.0 ready (subst (λ (n : ℕ). slice_get s.marks n ≡ Some Untouched) owner untouched))
      | inr old ↦ good k o w numbered untouched old
    ]

module _ (lifecycle : Lifecycle) (files : List ClassFile) where
  unwritten_after : (s w : State) → IsChange lifecycle files s w → AreUnwritten files s.marks s.statics → AreUnwritten files w.marks w.statics
  unwritten_after s _ ends_run good = good
  unwritten_after s _ (moves method offset next locals stack locals_after stack_after below is edge) good = good
  unwritten_after s _ (sets_a_static method offset next locals stack stack_after below v r f is edge stands resolves ready) good = set_unwritten files s r f v resolves ready good
  unwritten_after s _ (sets_an_object method offset next locals stack stack_after below a old o is edge there same) good = good
  unwritten_after s _ (makes_an_instance method offset next locals stack stack_after below name c is edge stands named ready) good = good
  unwritten_after s _ (makes_an_array method offset next locals stack stack_after below component count is edge) good = good
  unwritten_after s _ (opens_class c method offset locals stack below is untouched) good = opened_unwritten files s.marks s.statics c good
  unwritten_after s _ (calls_method method offset taken locals stack stack_after arguments below i code is stands takes has_code) good = good
  unwritten_after s _ (returns_to method caller offset waiting next locals stack results locals_below stack_below below is goes) good = good
  unwritten_after s _ (returns_off method offset locals stack below is none) good = good
  unwritten_after s _ (finds_superclass c below is ready) good = good
  unwritten_after s _ (opens_superclass c k below is super_is untouched) good = opened_unwritten files s.marks s.statics k good
  unwritten_after s _ (calls_initialiser c below m code is declared has_code) good = good
  unwritten_after s _ (calls_none c below is) good = good
  unwritten_after s _ (initialised_class c below is) good = λ k f v numbered untouched e. good k f v numbered (was_untouched s.marks c.0 f.owner Done done_apart untouched).1 e
  unwritten_after s _ (finds_class c below is apart) good = good
  unwritten_after s _ (opens_launched c below is untouched) good = opened_unwritten files s.marks s.statics c.0 good
  unwritten_after s _ (makes_launched c below m code is declared has_code) good = good
  unwritten_after s _ (launches_object c object below is) good = good
  unwritten_after s _ (begins_launch c is launchable) good = good
  unwritten_after s _ (begins_handler place number stage method l h fresh code is stands listed allows selected has_code) good = good

initial_unwritten : (files : List ClassFile) → AreUnwritten files (initial files).marks (initial files).statics
initial_unwritten files k f v numbered untouched e =
    let from = initial_value (fields_of files) k v e in
    let same : from.0 ≡ f = some_is from.0 f (sym from.1 ∙ numbered) in
    from.2 ∙ ap (λ (o : Owned). default_value o.member.descriptor) same

run_unwritten : (lifecycle : Lifecycle) (files : List ClassFile) (s : State) (before : List State) → IsRun lifecycle files (s ∷ before) → AreUnwritten files s.marks s.statics
run_unwritten lifecycle files s [] e = subst (λ (t : State). AreUnwritten files t.marks t.statics) (sym e) (initial_unwritten files)
run_unwritten lifecycle files w (s ∷ before) run = unwritten_after lifecycle files s w (changed lifecycle files s w run.0) (run_unwritten lifecycle files s before run.1)

pub unwritten : (lifecycle : Lifecycle) (files : List ClassFile) (s : State) → IsReachable lifecycle files s → AreUnwritten files s.marks s.statics
unwritten lifecycle files s run = run_unwritten lifecycle files s run.0 run.1
