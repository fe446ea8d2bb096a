-- Members of linked class files: one of each name and descriptor, and initialisers that are static; and the
-- methods of the built-in classes, which only return.
use Rattle.std.proofs.Common.{◌≡◌, ℕ, zero, suc, ◌+◌, ◌<◌, ◌⊎◌, inl, inr, ◌&&◌, ◌||◌, not, Bool, true, false, cond, if◌then◌else◌, List, [], ◌∷◌, ◌++◌, Option, None, Some, refl, sym, ap, subst, ◌∙◌, arith}
use Rattle.std.specs.Prelude.{slice_get, map, codes, find, is_some, nat_le}
use Rattle.std.specs.List.{AllByRecursion, list_any}
use Rattle.std.specs.Option.{option_and_then, option_map_or}
use Rattle.std.specs.Str.{bytes_eq}
use Rattle.std.proofs.lemmas.Slice.Eq.{bytes_eq-Decides}
use Rattle.th_base.specs.declared.built_in.TheConstants.{CONSTRUCTOR}
use Rattle.th_base.specs.declared.handler.TheConstants.{TAKES_NOTHING}
use Rattle.th_base.specs.declared.class.ClassInfo.{ClassInfo}
use Rattle.th_base.specs.declared.class.MethodInfo.{MethodInfo}
use Rattle.th_base.specs.Handlers.{Handler, handlers, takes_bundle}
use Rattle.th_base.specs.Hierarchy.{declared_method}
use Rattle.th_base.specs.Launchable as of_classes
use Rattle.th_syntax.specs.declared.class_file.ClassFile.{ClassFile}
use Rattle.th_syntax.specs.declared.class_file.Code.{Code}
use Rattle.th_syntax.specs.declared.class_file.Member.{Member}
use Rattle.th_syntax.specs.declared.instr.Instr.TheVariants.{Return}
use Rattle.th_syntax.specs.Flags.{is_static}
use Rattle.th_syntax.specs.LinkChecks.{found_along, has_member, is_code_fit, is_initialiser_fit, field_refusals, method_refusals, member_refusals}
use Rattle.th_syntax.specs.WellFormed.{is_class_initialiser}
use Rattle.th_syntax.specs.Program.{built_in_classes, all_classes, empty_method, empty_constructor, empty_handler, Owned, owned_from, hierarchy_of, is_launchable, code_of}
use Rattle.th_syntax.proofs.Inverting.{some_is, both}
use Rattle.th_runs.proofs.Above.{nil_left, nil_right, unless_nil, nil_at}
use Rattle.th_runs.proofs.Declaring.{declared, method_here, contains_at, same_text}
use Rattle.th_runs.proofs.Shaping.{IsIn, in_left}

-- ---- where members stand

pub at_append : {A : Type 0} (xs ys : List A) (k : ℕ) (z : A) → slice_get (xs ++ ys) k ≡ Some z → IsIn xs z ⊎ ((j : ℕ) × (slice_get ys j ≡ Some z))
at_append [] ys k z e = inr (k, e)
at_append (x ∷ xs) ys zero z e = inl (zero, e)
at_append (x ∷ xs) ys (suc k) z e = elim (at_append xs ys k z e) [ inl front ↦ inl (suc front.0, front.1) | inr behind ↦ inr behind ]

mapped_in : {A B : Type 0} (f : A → B) (xs : List A) (y : B) → IsIn (map f xs) y → (x : A) × IsIn xs x × (f x ≡ y)
mapped_in f [] y (j, e) = absurd cc
mapped_in f (x ∷ xs) y (zero, e) = (x, (zero, refl), some_is (f x) y e)
mapped_in f (x ∷ xs) y (suc j, e) = let rest = mapped_in f xs y (j, e) in (rest.0, (suc rest.1.0, rest.1.1), rest.2)

-- a member of a class of a list, whose classes are numbered from n
pub record IsOwned (members : ClassFile → List Member) (n : ℕ) (cs : List ClassFile) (o : Owned) : Type 0 where
  pub place : ℕ
  pub class : ClassFile
  pub stands : slice_get cs place ≡ Some class
  pub declared_in : IsIn (members class) o.member
  pub owner : o.owner ≡ n + place

pub owned_in : (members : ClassFile → List Member) (n : ℕ) (cs : List ClassFile) (k : ℕ) (o : Owned) → slice_get (owned_from members n cs) k ≡ Some o → IsOwned members n cs o
owned_in members n [] k o e = absurd cc
owned_in members n (c ∷ cs) k o e =
    elim (at_append (map (λ (m : Member). let x : Owned = record { owner = n; member = m } in x) (members c)) (owned_from members (n + 1) cs) k o e) [
      | inl front ↦
          let m = mapped_in (λ (m : Member). let x : Owned = record { owner = n; member = m } in x) (members c) o front in
          let level : n ≡ n + 0 = omega arith in
          record { place = 0; class = c; stands = refl; declared_in = subst (λ (x : Owned). IsIn (members c) x.member) m.2 m.1; owner = ap (λ (x : Owned). x.owner) (sym m.2) ∙ level }
      | inr behind ↦
          let rest = owned_in members (n + 1) cs behind.0 o behind.1 in
          let level : (n + 1) + rest.place ≡ n + suc rest.place = omega arith in
          record { place = suc rest.place; class = rest.class; stands = rest.stands; declared_in = rest.declared_in; owner = rest.owner ∙ level }
    ]

-- what holds of all members of all classes holds of each
pub all_in : {A : Type 0} (P : A → Type 0) (xs : List A) (x : A) → AllByRecursion P xs → IsIn xs x → P x
all_in P [] x all (j, e) = absurd cc
all_in P (y ∷ xs) x all (zero, e) = subst P (some_is y x e) all.0
all_in P (y ∷ xs) x all (suc j, e) = all_in P xs x all.1 (j, e)

-- ---- checks of members

abbrev IsNamedSo : List ℕ → List ℕ → Member → Bool
IsNamedSo name descriptor m = bytes_eq m.name name && bytes_eq m.descriptor descriptor

any_in : (p : Member → Bool) (xs : List Member) (x : Member) → IsIn xs x → p x ≡ true → list_any p xs ≡ true
any_in p [] x (j, e) here = absurd cc
any_in p (y ∷ xs) x (zero, e) here = any_first (p y) (list_any p xs) (ap p (some_is y x e) ∙ here)
  where
    any_first : (a b : Bool) → a ≡ true → (a || b) ≡ true
    any_first true b e = refl
    any_first false b e = absurd cc
any_in p (y ∷ xs) x (suc j, e) here = any_later (p y) (list_any p xs) (any_in p xs x (j, e) here)
  where
    any_later : (a b : Bool) → b ≡ true → (a || b) ≡ true
    any_later true b e = refl
    any_later false b e = e

named_same : (x y : Member) → x.name ≡ y.name → x.descriptor ≡ y.descriptor → (bytes_eq x.name y.name && bytes_eq x.descriptor y.descriptor) ≡ true
named_same x y name descriptor =
    let one = (bytes_eq-Decides x.name y.name).1 name in let two = (bytes_eq-Decides x.descriptor y.descriptor).1 descriptor in
    ap (λ b. b && bytes_eq x.descriptor y.descriptor) one ∙ two

not_both : (b : Bool) → b ≡ true → not b ≡ true → ⊥
not_both true e f = cc
not_both false e f = cc

-- what a method that isn't refused passes
record IsPassed (c : ClassFile) (before : List Member) (m : Member) : Type 0 where
  apart : not (has_member before m.name m.descriptor) ≡ true
  initialiser : is_initialiser_fit m ≡ true

passed : (c : ClassFile) (before : List Member) (m : Member) → method_refusals c before m ≡ [] → IsPassed c before m
passed c before m e =
    let all = unless_nil (not (has_member before m.name m.descriptor) && is_code_fit m && is_initialiser_fit m) _ e in
    let two = both (not (has_member before m.name m.descriptor) && is_code_fit m) (is_initialiser_fit m) all in
    let one = both (not (has_member before m.name m.descriptor)) (is_code_fit m) two.0 in
    record { apart = one.0; initialiser = two.1 }

fit_along : (c : ClassFile) (before xs : List Member) (j : ℕ) (m : Member) → found_along (method_refusals c) before xs ≡ [] → slice_get xs j ≡ Some m → is_initialiser_fit m ≡ true
fit_along c before [] j m e at = absurd cc
fit_along c before (x ∷ xs) zero m e at = ap is_initialiser_fit (sym (some_is x m at)) ∙ (passed c before x (nil_left (method_refusals c before x) (found_along (method_refusals c) (before ++ x ∷ []) xs) e)).initialiser
fit_along c before (x ∷ xs) (suc j) m e at = fit_along c (before ++ x ∷ []) xs j m (nil_right (method_refusals c before x) (found_along (method_refusals c) (before ++ x ∷ []) xs) e) at

apart_from : (c : ClassFile) (before xs : List Member) (b : Member) (j : ℕ) (m : Member) → found_along (method_refusals c) before xs ≡ [] → IsIn before b → slice_get xs j ≡ Some m → b.name ≡ m.name → b.descriptor ≡ m.descriptor → ⊥
apart_from c before [] b j m e is at name descriptor = absurd cc
apart_from c before (x ∷ xs) b zero m e is at name descriptor =
    let p = passed c before x (nil_left (method_refusals c before x) (found_along (method_refusals c) (before ++ x ∷ []) xs) e) in
    let same : x ≡ m = some_is x m at in
    let here : has_member before x.name x.descriptor ≡ true =
    any_in (λ (y : Member). bytes_eq y.name x.name && bytes_eq y.descriptor x.descriptor) before b is (named_same b x (name ∙ ap (λ (y : Member). y.name) (sym same)) (descriptor ∙ ap (λ (y : Member). y.descriptor) (sym same))) in
    not_both (has_member before x.name x.descriptor) here p.apart
apart_from c before (x ∷ xs) b (suc j) m e is at name descriptor =
    apart_from c (before ++ x ∷ []) xs b j m (nil_right (method_refusals c before x) (found_along (method_refusals c) (before ++ x ∷ []) xs) e) (in_left before (x ∷ []) b is) at name descriptor

last_in : (before : List Member) (x : Member) → IsIn (before ++ x ∷ []) x
last_in [] x = (zero, refl)
last_in (y ∷ before) x = let rest = last_in before x in (suc rest.0, rest.1)

apart_before : (c : ClassFile) (before xs : List Member) (i j : ℕ) (x y : Member) → found_along (method_refusals c) before xs ≡ [] → slice_get xs i ≡ Some x → slice_get xs j ≡ Some y → i < j → x.name ≡ y.name → x.descriptor ≡ y.descriptor → ⊥
apart_before c before [] i j x y e at there less name descriptor = absurd cc
apart_before c before (z ∷ xs) i zero x y e at there less name descriptor = absurd (omega arith)
apart_before c before (z ∷ xs) zero (suc j) x y e at there less name descriptor =
    apart_from c (before ++ z ∷ []) xs x j y (nil_right (method_refusals c before z) (found_along (method_refusals c) (before ++ z ∷ []) xs) e)
    (subst (IsIn (before ++ z ∷ [])) (some_is z x at) (last_in before z)) there name descriptor
apart_before c before (z ∷ xs) (suc i) (suc j) x y e at there less name descriptor =
    apart_before c (before ++ z ∷ []) xs i j x y (nil_right (method_refusals c before z) (found_along (method_refusals c) (before ++ z ∷ []) xs) e) at there (omega arith) name descriptor

in_order : (i j : ℕ) → (i < j) ⊎ ((i ≡ j) ⊎ (j < i))
in_order zero zero = inr (inl refl)
in_order zero (suc j) = inl (omega arith)
in_order (suc i) zero = inr (inr (omega arith))
in_order (suc i) (suc j) =
    elim (in_order i j) [
      | inl less ↦ inl (omega arith)
      | inr more ↦ elim more [ inl same ↦ inr (inl (ap suc same)) | inr over ↦ inr (inr (omega arith)) ]
    ]

-- two methods of a class of one name and descriptor are one
one_method : (c : ClassFile) (i j : ℕ) (x y : Member) → found_along (method_refusals c) [] c.methods ≡ [] → slice_get c.methods i ≡ Some x → slice_get c.methods j ≡ Some y → x.name ≡ y.name → x.descriptor ≡ y.descriptor → x ≡ y
one_method c i j x y e at there name descriptor =
    elim (in_order i j) [
      | inl less ↦ absurd (apart_before c [] c.methods i j x y e at there less name descriptor)
      | inr more ↦ elim more [
        | inl same ↦ some_is x y (sym at ∙ ap (slice_get c.methods) same ∙ there)
        | inr over ↦ absurd (apart_before c [] c.methods j i y x e there at over (sym name) (sym descriptor))
      ]
    ]

-- the checks of a class of the files
pub checked : (files : List ClassFile) (n : ℕ) (c : ClassFile) → member_refusals files ≡ [] → slice_get files n ≡ Some c → found_along (method_refusals c) [] c.methods ≡ []
checked files n c none at = nil_right (found_along (field_refusals c) [] c.fields) (found_along (method_refusals c) [] c.methods) (nil_at (λ (x : ClassFile). found_along (field_refusals x) [] x.fields ++ found_along (method_refusals x) [] x.methods) files n c none at)

-- ---- initialisers

static_of : (a b d e : Bool) → (not a || (b && d && e)) ≡ true → a ≡ true → b ≡ true
static_of true true d e h one = refl
static_of true false d e h one = absurd cc
static_of false b d e h one = absurd cc

-- a method of a class of the files that is named `<clinit>` is static
pub initialiser_static : (files : List ClassFile) (n : ℕ) (c : ClassFile) (m : Member) → member_refusals files ≡ [] → slice_get files n ≡ Some c → IsIn c.methods m → is_class_initialiser m.name ≡ true → is_static m ≡ true
initialiser_static files n c m none at is name = static_of (is_class_initialiser m.name) (is_static m) _ _ (fit_along c [] c.methods is.0 m (checked files n c none at) is.1) name

behind_built_in : ℕ → ℕ
behind_built_in n = suc (suc (suc (suc (suc (suc (suc (suc (suc (suc (suc n))))))))))

file_initialiser : (files : List ClassFile) (n c : ℕ) (m : MethodInfo) → member_refusals files ≡ [] → ((k : ClassFile) → slice_get (all_classes files) c ≡ Some k → slice_get files n ≡ Some k) → declared_method (hierarchy_of files) (codes "<clinit>") (codes "()V") c ≡ Some m
    → m.is_static ≡ true
file_initialiser files n c m none there e =
    let d = declared files c (codes "<clinit>") (codes "()V") m e in
    let name : d.here.member.name ≡ codes "<clinit>" = ap (λ (x : MethodInfo). x.name) d.here.same ∙ d.name_is in
    let is : is_class_initialiser d.here.member.name ≡ true = ap is_class_initialiser name in
    ap (λ (x : MethodInfo). x.is_static) (sym d.here.same)
    ∙ initialiser_static files n d.here.class d.here.member none (there d.here.class d.here.stands) (d.here.place, d.here.declared) is

pub initialisers_are : (files : List ClassFile) (c : ℕ) (m : MethodInfo) → member_refusals files ≡ [] → declared_method (hierarchy_of files) (codes "<clinit>") (codes "()V") c ≡ Some m → m.is_static ≡ true
initialisers_are files zero m none e = absurd cc
initialisers_are files (suc zero) m none e = absurd cc
initialisers_are files (suc (suc zero)) m none e = absurd cc
initialisers_are files (suc (suc (suc zero))) m none e = absurd cc
initialisers_are files (suc (suc (suc (suc zero)))) m none e = absurd cc
initialisers_are files (suc (suc (suc (suc (suc zero))))) m none e = absurd cc
initialisers_are files (suc (suc (suc (suc (suc (suc zero)))))) m none e = absurd cc
initialisers_are files (suc (suc (suc (suc (suc (suc (suc zero))))))) m none e = absurd cc
initialisers_are files (suc (suc (suc (suc (suc (suc (suc (suc zero)))))))) m none e = absurd cc
initialisers_are files (suc (suc (suc (suc (suc (suc (suc (suc (suc zero))))))))) m none e = absurd cc
initialisers_are files (suc (suc (suc (suc (suc (suc (suc (suc (suc (suc zero)))))))))) m none e = absurd cc
initialisers_are files (suc (suc (suc (suc (suc (suc (suc (suc (suc (suc (suc n))))))))))) m none e =
    file_initialiser files n (suc (suc (suc (suc (suc (suc (suc (suc (suc (suc (suc n))))))))))) m none (λ k at. at) e

-- ---- launches

any_by : {A : Type 0} (p : A → Bool) (x : A) (xs : List A) (b : Bool) → p x ≡ b → (b || list_any p xs) ≡ true → (list_any p xs ≡ true → (y : A) × IsIn xs y × (p y ≡ true)) → (y : A) × IsIn (x ∷ xs) y × (p y ≡ true)
any_by p x xs true is h rest = (x, (zero, refl), is)
any_by p x xs false is h rest = let more = rest h in (more.0, (suc more.1.0, more.1.1), more.2)

any_at : {A : Type 0} (p : A → Bool) (xs : List A) → list_any p xs ≡ true → (x : A) × IsIn xs x × (p x ≡ true)
any_at p [] e = absurd cc
any_at p (x ∷ xs) e = any_by p x xs (p x) refl e (any_at p xs)

-- what is found where something passes
find_by : {A : Type 0} (p : A → Bool) (x : A) (xs : List A) (b : Bool) → (b ≡ false → (y : A) × (find p xs ≡ Some y)) → (y : A) × (cond b (Some x) (find p xs) ≡ Some y)
find_by p x xs true rest = (x, refl)
find_by p x xs false rest = rest refl

found_where : {A : Type 0} (p : A → Bool) (xs : List A) (x : A) → IsIn xs x → p x ≡ true → (y : A) × (find p xs ≡ Some y)
found_where p [] x (j, e) here = absurd cc
found_where p (z ∷ xs) x (zero, e) here = find_by p z xs (p z) (λ no_match. absurd (let h : false ≡ true = sym no_match ∙ ap p (some_is z x e) ∙ here in cc))
found_where p (z ∷ xs) x (suc j, e) here = find_by p z xs (p z) (λ no_match. found_where p xs x (j, e) here)

false_of : (b : Bool) → not b ≡ true → b ≡ false
false_of true e = absurd cc
false_of false e = refl

record IsConstructor (m : MethodInfo) : Type 0 where
  named : (bytes_eq m.name (codes "<init>") && bytes_eq m.descriptor (codes "()V")) ≡ true
  name_is : m.name ≡ codes "<init>"
  descriptor_is : m.descriptor ≡ codes "()V"
  instance : m.is_static ≡ false
  concrete : m.is_abstract ≡ false

constructor_is : (m : MethodInfo) → of_classes.is_launch_constructor m ≡ true → IsConstructor m
constructor_is m e =
    let a = both (bytes_eq m.name CONSTRUCTOR.now) (bytes_eq m.descriptor TAKES_NOTHING.now && (not m.is_static && not m.is_abstract)) e in
    let b = both (bytes_eq m.descriptor TAKES_NOTHING.now) (not m.is_static && not m.is_abstract) a.1 in
    let c = both (not m.is_static) (not m.is_abstract) b.1 in
    record {
      named = ap (λ x. x && bytes_eq m.descriptor (codes "()V")) a.0 ∙ b.0;
      name_is = same_text m.name (codes "<init>") a.0;
      descriptor_is = same_text m.descriptor (codes "()V") b.0;
      instance = false_of m.is_static c.0;
      concrete = false_of m.is_abstract c.1;
    }

some_code : (o : Option Code) → not (is_some o) ≡ false → (k : Code) × (o ≡ Some k)
some_code None e = absurd cc
some_code (Some k) e = (k, refl)

-- what a launch of the class calls
pub record IsLaunched (files : List ClassFile) (c : ℕ) : Type 0 where
  pub method : MethodInfo
  pub code : Code
  pub found : declared_method (hierarchy_of files) (codes "<init>") (codes "()V") c ≡ Some method
  pub has_code : code_of files method.id.0 ≡ Some code
  pub instance : method.is_static ≡ false

launched_by : (files : List ClassFile) (n c : ℕ) (o : Option ClassInfo) → member_refusals files ≡ [] → ((k : ClassFile) → slice_get (all_classes files) c ≡ Some k → slice_get files n ≡ Some k) → slice_get (hierarchy_of files) c ≡ o
    → option_map_or of_classes.can_be_made o false ≡ true → IsLaunched files c
launched_by files n c None none there at e = absurd cc
launched_by files n c (Some k) none there at e =
    let made = both (not k.is_interface) (list_any of_classes.is_launch_constructor k.methods) (both (not k.is_abstract) _ e).1 in
    let m = any_at of_classes.is_launch_constructor k.methods made.1 in
    let its = constructor_is m.0 m.2 in
    let test : MethodInfo → Bool = λ (x : MethodInfo). bytes_eq x.name (codes "<init>") && bytes_eq x.descriptor (codes "()V") in
    let first = found_where test k.methods m.0 m.1 its.named in
    let found : declared_method (hierarchy_of files) (codes "<init>") (codes "()V") c ≡ Some first.0 = ap (option_and_then (λ (i : ClassInfo). find test i.methods)) at ∙ first.1 in
    let d = declared files c (codes "<init>") (codes "()V") first.0 found in
    let here = method_here files c k m.0 at (contains_at k.methods m.1.0 m.0 m.1.1) in
    let file = there here.class here.stands in
    let class_is : d.here.class ≡ here.class = some_is d.here.class here.class (sym d.here.stands ∙ here.stands) in
    let name : d.here.member.name ≡ here.member.name = ap (λ (x : MethodInfo). x.name) d.here.same ∙ d.name_is ∙ sym its.name_is ∙ ap (λ (x : MethodInfo). x.name) (sym here.same) in
    let descriptor : d.here.member.descriptor ≡ here.member.descriptor =
    ap (λ (x : MethodInfo). x.descriptor) d.here.same ∙ d.descriptor_is ∙ sym its.descriptor_is ∙ ap (λ (x : MethodInfo). x.descriptor) (sym here.same) in
    let one : d.here.member ≡ here.member =
    one_method here.class d.here.place here.place d.here.member here.member (checked files n here.class none file) (ap (λ (x : ClassFile). slice_get x.methods d.here.place) (sym class_is) ∙ d.here.declared) here.declared name descriptor in
    let instance : first.0.is_static ≡ false = ap (λ (x : MethodInfo). x.is_static) (sym d.here.same) ∙ ap is_static one ∙ ap (λ (x : MethodInfo). x.is_static) here.same ∙ its.instance in
    let concrete : not (is_some d.here.member.code) ≡ false = ap (λ (x : Member). not (is_some x.code)) one ∙ ap (λ (x : MethodInfo). x.is_abstract) here.same ∙ its.concrete in
    let code = some_code d.here.member.code concrete in
    record {
      method = first.0;
      code = code.0;
      found = found;
      has_code = ap (option_and_then (λ (x : Owned). x.member.code)) d.here.numbered ∙ code.1;
      instance = instance;
    }

made_by : (files : List ClassFile) (c : ℕ) → is_launchable files c ≡ true → option_map_or of_classes.can_be_made (slice_get (hierarchy_of files) c) false ≡ true
made_by files c e = (both (of_classes.is_activity (hierarchy_of files) c) _ (both (nat_le 11 c) _ e).1).1

pub launches_are : (files : List ClassFile) (c : ℕ) → member_refusals files ≡ [] → is_launchable files c ≡ true → IsLaunched files c
launches_are files zero none e = absurd cc
launches_are files (suc zero) none e = absurd cc
launches_are files (suc (suc zero)) none e = absurd cc
launches_are files (suc (suc (suc zero))) none e = absurd cc
launches_are files (suc (suc (suc (suc zero)))) none e = absurd cc
launches_are files (suc (suc (suc (suc (suc zero))))) none e = absurd cc
launches_are files (suc (suc (suc (suc (suc (suc zero)))))) none e = absurd cc
launches_are files (suc (suc (suc (suc (suc (suc (suc zero))))))) none e = absurd cc
launches_are files (suc (suc (suc (suc (suc (suc (suc (suc zero)))))))) none e = absurd cc
launches_are files (suc (suc (suc (suc (suc (suc (suc (suc (suc zero))))))))) none e = absurd cc
launches_are files (suc (suc (suc (suc (suc (suc (suc (suc (suc (suc zero)))))))))) none e = absurd cc
launches_are files (suc (suc (suc (suc (suc (suc (suc (suc (suc (suc (suc n))))))))))) none e =
    launched_by files n (suc (suc (suc (suc (suc (suc (suc (suc (suc (suc (suc n))))))))))) (slice_get (hierarchy_of files) (suc (suc (suc (suc (suc (suc (suc (suc (suc (suc (suc n)))))))))))) none (λ k at. at) refl
    (made_by files (suc (suc (suc (suc (suc (suc (suc (suc (suc (suc (suc n))))))))))) e)

-- ---- the built-in classes

-- the method's code is one `return`
abbrev pub OnlyReturns : Member → Type 0
OnlyReturns m = (k : Code) → m.code ≡ Some k → k.instrs ≡ (0, Return) ∷ []

empty_returns : (name descriptor : List ℕ) (locals : ℕ) → OnlyReturns (empty_method name descriptor locals)
empty_returns name descriptor locals k e = ap (λ (x : Code). x.instrs) (sym (some_is _ k e))

abbrev pub EachMethod : (Member → Type 0) → List ClassFile → Type 0
EachMethod P cs = AllByRecursion (λ (c : ClassFile). AllByRecursion P c.methods) cs

handlers_return : (hs : List Handler) → AllByRecursion OnlyReturns (map empty_handler hs)
handlers_return [] = tt
handlers_return (h ∷ hs) = (empty_returns h.name h.descriptor (if takes_bundle h then 2 else 1), handlers_return hs)

constructor_returns : OnlyReturns empty_constructor
constructor_returns = empty_returns CONSTRUCTOR.now TAKES_NOTHING.now 1

pub built_in_return : EachMethod OnlyReturns built_in_classes
built_in_return = (
  (constructor_returns, tt),
  (
    (constructor_returns, tt),
    (
      (constructor_returns, tt),
      (
        (constructor_returns, tt),
        (
          (constructor_returns, tt),
          (
            (constructor_returns, tt),
            (tt, (tt, ((constructor_returns, tt), ((constructor_returns, tt), ((constructor_returns, handlers_return handlers), tt))))),
          ),
        ),
      ),
    ),
  ),
)
