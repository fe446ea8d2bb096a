-- What stands above a class of linked class files: its superinterfaces are interfaces, and the superclass
-- of an interface is java/lang/Object.
use Rattle.std.proofs.Common.{◌≡◌, ℕ, zero, suc, ◌+◌, ◌||◌, ◌&&◌, inl, inr, not, Bool, true, false, cond, List, [], ◌∷◌, ◌++◌, map, length, Option, None, Some, refl, sym, ap, subst, ◌∙◌, arith}
use Rattle.std.specs.Prelude.{slice_get, find, filter_map}
use Rattle.std.specs.List.{flat_map, position_from, cons_option}
use Rattle.std.specs.Option.{option_and_then, option_map, option_map_or}
use Rattle.std.specs.Str.{bytes_eq}
use Rattle.th_base.specs.declared.built_in.TheConstants.{OBJECT}
use Rattle.th_base.specs.declared.class.ClassInfo.{ClassInfo}
use Rattle.th_base.specs.declared.number.ClassId.{ClassId}
use Rattle.th_base.specs.Hierarchy.{superclass_of, interfaces_of, direct_supertypes, lineage_within, supertypes_within, supertypes_of, is_subclass}
use Rattle.th_base.specs.IdSet.{has}
use Rattle.th_base.proofs.Orders.{has-cons_cases, has-flat_map}
use Rattle.th_syntax.specs.declared.class_file.ClassFile.{ClassFile}
use Rattle.th_syntax.specs.Flags.{is_interface}
use Rattle.th_syntax.specs.Flaws.{unless}
use Rattle.th_syntax.specs.declared.cause.TheConstants as cause
use Rattle.th_syntax.specs.LinkChecks.{refusal_at, class_of_name, supertype_name_refusals, is_fit_superclass, superclass_refusals, interface_refusals, supertype_refusals}
use Rattle.th_syntax.specs.Machine.{class_id}
use Rattle.th_syntax.specs.Program.{all_classes, number_named, id_named, hierarchy_of}
use Rattle.th_syntax.proofs.Inverting.{some_is, map_some}
use Rattle.th_runs.proofs.Declaring.{class_as, same_text}

-- ---- lists without members

pub nil_left : {A : Type 0} (xs ys : List A) → xs ++ ys ≡ [] → xs ≡ []
nil_left [] ys e = refl
nil_left (x ∷ xs) ys e = absurd cc

pub nil_right : {A : Type 0} (xs ys : List A) → xs ++ ys ≡ [] → ys ≡ []
nil_right [] ys e = e
nil_right (x ∷ xs) ys e = absurd cc

pub unless_nil : {A : Type 0} (b : Bool) (x : A) → unless b x ≡ [] → b ≡ true
unless_nil true x e = refl
unless_nil false x e = absurd cc

pub nil_at : {A B : Type 0} (f : A → List B) (xs : List A) (j : ℕ) (x : A) → flat_map f xs ≡ [] → slice_get xs j ≡ Some x → f x ≡ []
nil_at f [] j x e at = absurd cc
nil_at f (y ∷ xs) zero x e at = ap f (sym (some_is y x at)) ∙ nil_left (f y) (flat_map f xs) e
nil_at f (y ∷ xs) (suc j) x e at = nil_at f xs j x (nil_right (f y) (flat_map f xs) e) at

-- ---- names

abbrev has_name : List ℕ → ClassFile → Bool
has_name name c = bytes_eq c.name name

from_by : (p : ClassFile → Bool) (n d : ℕ) (cs : List ClassFile) (b : Bool) → cond b (Some n) (position_from p (n + 1) cs) ≡ Some d → (position_from p (n + 1) cs ≡ Some d → (j : ℕ) × (d ≡ (n + 1) + j)) → (j : ℕ) × (d ≡ n + j)
from_by p n d cs true e rest = (0, (let same : n ≡ d = some_is n d e in omega arith))
from_by p n d cs false e rest = let more = rest e in (suc more.0, (let level = more.1 in omega (arith, level)))

from_on : (p : ClassFile → Bool) (n d : ℕ) (cs : List ClassFile) → position_from p n cs ≡ Some d → (j : ℕ) × (d ≡ n + j)
from_on p n d [] e = absurd cc
from_on p n d (c ∷ cs) e = from_by p n d cs (p c) e (from_on p (n + 1) d cs)

-- the class that is found is the one at the place that is found
found_by : (p : ClassFile → Bool) (c s : ClassFile) (n d j : ℕ) (cs : List ClassFile) (b : Bool) → p c ≡ b → cond b (Some c) (find p cs) ≡ Some s → cond b (Some n) (position_from p (n + 1) cs) ≡ Some d → d ≡ n + j
    → ((k : ℕ) → find p cs ≡ Some s → position_from p (n + 1) cs ≡ Some d → d ≡ (n + 1) + k → (slice_get cs k ≡ Some s) × (p s ≡ true))
    → (slice_get (c ∷ cs) j ≡ Some s) × (p s ≡ true)
found_by p c s n d zero cs true is found place level rest = (found, ap p (sym (some_is c s found)) ∙ is)
found_by p c s n d (suc j) cs true is found place level rest = absurd (let same : n ≡ d = some_is n d place in omega arith)
found_by p c s n d zero cs false is found place level rest = absurd (let later = from_on p (n + 1) d cs place in let more = later.1 in omega (arith, more))
found_by p c s n d (suc j) cs false is found place level rest = rest j found place (omega arith)

found_there : (p : ClassFile → Bool) (s : ClassFile) (n d : ℕ) (cs : List ClassFile) (j : ℕ) → find p cs ≡ Some s → position_from p n cs ≡ Some d → d ≡ n + j → (slice_get cs j ≡ Some s) × (p s ≡ true)
found_there p s n d [] j found place level = absurd cc
found_there p s n d (c ∷ cs) j found place level = found_by p c s n d j cs (p c) refl found place level (λ k. found_there p s (n + 1) d cs k)

class_there : (files : List ClassFile) (name : List ℕ) (s : ClassFile) (d : ℕ) → class_of_name files name ≡ Some s → number_named files name ≡ Some d → (slice_get (all_classes files) d ≡ Some s) × (bytes_eq s.name name ≡ true)
class_there files name s d found place = found_there (has_name name) s 0 d (all_classes files) d found place (omega arith)

-- a named supertype that isn't refused is there and fits
some_fit : {A : Type 0} (f : ClassFile → List A) (o : Option ClassFile) (r : List A) (x : A) → r ≡ x ∷ [] → option_map_or f o r ≡ [] → (s : ClassFile) × (o ≡ Some s) × (f s ≡ [])
some_fit f None r x is e = absurd cc
some_fit f (Some s) r x is e = (s, refl, e)

named_fits : (files : List ClassFile) (c : ClassFile) (fits : ClassFile → Bool) (name : List ℕ) → supertype_name_refusals files c fits name ≡ [] → (s : ClassFile) × (class_of_name files name ≡ Some s) × (fits s ≡ true)
named_fits files c fits name e =
    let s = some_fit _ (class_of_name files name) _ _ refl e in
    (s.0, s.1, unless_nil (fits s.0) _ s.2)

-- ---- supertypes

pub record IsInterface (files : List ClassFile) (c : ℕ) : Type 0 where
  pub class : ClassFile
  pub stands : slice_get (all_classes files) c ≡ Some class
  pub is : is_interface class ≡ true

ids_by : (files : List ClassFile) (name : List ℕ) (names : List (List ℕ)) (d : ℕ) (o : Option ClassId) → id_named files name ≡ o → has (map (λ (i : ClassId). i.0) (cons_option o (filter_map (id_named files) names))) d ≡ true
    → (has (map (λ (i : ClassId). i.0) (filter_map (id_named files) names)) d ≡ true → (j : ℕ) × (n : List ℕ) × (slice_get names j ≡ Some n) × (number_named files n ≡ Some d))
    → (j : ℕ) × (n : List ℕ) × (slice_get (name ∷ names) j ≡ Some n) × (number_named files n ≡ Some d)
ids_by files name names d None is h rest = let more = rest h in (suc more.0, more.1, more.2, more.3)
ids_by files name names d (Some i) is h rest =
    let n = map_some class_id (number_named files name) i is in
    elim (has-cons_cases i.0 (map (λ (x : ClassId). x.0) (filter_map (id_named files) names)) d h) [
      | inl same ↦
          let number : n.0 ≡ d = ap (λ (x : ClassId). x.0) n.2 ∙ same in
          (0, name, refl, n.1 ∙ ap (λ (k : ℕ). Some k) number)
      | inr more ↦ let found = rest more in (suc found.0, found.1, found.2, found.3)
    ]

ids_named : (files : List ClassFile) (names : List (List ℕ)) (d : ℕ) → has (map (λ (i : ClassId). i.0) (filter_map (id_named files) names)) d ≡ true
    → (j : ℕ) × (n : List ℕ) × (slice_get names j ≡ Some n) × (number_named files n ≡ Some d)
ids_named files [] d h = absurd cc
ids_named files (name ∷ names) d h = ids_by files name names d (id_named files name) refl h (ids_named files names d)

-- the number of a class of the files
abbrev behind_built_in : ℕ → ℕ
behind_built_in n = suc (suc (suc (suc (suc (suc (suc (suc (suc (suc (suc n))))))))))

-- what a class of the files is to the hierarchy
record IsOfFile (files : List ClassFile) (n : ℕ) (k : ClassInfo) : Type 0 where
  class : ClassFile
  stands : slice_get files n ≡ Some class
  interfaces : k.interfaces ≡ filter_map (id_named files) class.interfaces
  super : k.super_id ≡ option_and_then (id_named files) class.super_name

of_file : (files : List ClassFile) (n : ℕ) (k : ClassInfo) → slice_get (hierarchy_of files) (behind_built_in n) ≡ Some k → IsOfFile files n k
of_file files n k e =
    let class = class_as files 0 0 (all_classes files) (behind_built_in n) k e in
    record {
      class = class.0;
      stands = class.1;
      interfaces = ap (λ (i : ClassInfo). i.interfaces) (sym class.2);
      super = ap (λ (i : ClassInfo). i.super_id) (sym class.2);
    }

file_refusals : (files : List ClassFile) (n : ℕ) (c : ClassFile) → supertype_refusals files ≡ [] → slice_get files n ≡ Some c → (superclass_refusals files c ≡ []) × (interface_refusals files c ≡ [])
file_refusals files n c none at =
    let both = nil_at (λ x. superclass_refusals files x ++ interface_refusals files x) files n c none at in
    (nil_left (superclass_refusals files c) (interface_refusals files c) both, nil_right (superclass_refusals files c) (interface_refusals files c) both)

file_interfaces : (files : List ClassFile) (n d : ℕ) (o : Option ClassInfo) → supertype_refusals files ≡ [] → slice_get (hierarchy_of files) (behind_built_in n) ≡ o
    → has (option_map_or (λ (k : ClassInfo). map (λ (i : ClassId). i.0) k.interfaces) o []) d ≡ true → IsInterface files d
file_interfaces files n d None none e h = absurd cc
file_interfaces files n d (Some k) none e h =
    let file = of_file files n k e in
    let name = ids_named files file.class.interfaces d (subst (λ (is : List ClassId). has (map (λ (i : ClassId). i.0) is) d ≡ true) file.interfaces h) in
    let fits = named_fits files file.class is_interface name.1 (nil_at (supertype_name_refusals files file.class is_interface) file.class.interfaces name.0 name.1 (file_refusals files n file.class none file.stands).1 name.2) in
    let there = class_there files name.1 fits.0 d fits.1 name.3 in
    record { class = fits.0; stands = there.0; is = fits.2 }

one_of : (a d : ℕ) → has (a ∷ []) d ≡ true → a ≡ d
one_of a d h = elim (has-cons_cases a [] d h) [ inl same ↦ same | inr none ↦ absurd cc ]

seventh : (files : List ClassFile) (d : ℕ) → has (7 ∷ []) d ≡ true → IsInterface files d
seventh files d h = subst (IsInterface files) (one_of 7 d h) (record { class = _; stands = refl; is = refl })

pub interfaces_are : (files : List ClassFile) (c d : ℕ) → supertype_refusals files ≡ [] → has (interfaces_of (hierarchy_of files) c) d ≡ true → IsInterface files d
interfaces_are files zero d none h = absurd cc
interfaces_are files (suc zero) d none h = seventh files d h
interfaces_are files (suc (suc zero)) d none h = seventh files d h
interfaces_are files (suc (suc (suc zero))) d none h = absurd cc
interfaces_are files (suc (suc (suc (suc zero)))) d none h = absurd cc
interfaces_are files (suc (suc (suc (suc (suc zero))))) d none h = absurd cc
interfaces_are files (suc (suc (suc (suc (suc (suc zero)))))) d none h = absurd cc
interfaces_are files (suc (suc (suc (suc (suc (suc (suc zero))))))) d none h = absurd cc
interfaces_are files (suc (suc (suc (suc (suc (suc (suc (suc zero)))))))) d none h = absurd cc
interfaces_are files (suc (suc (suc (suc (suc (suc (suc (suc (suc zero))))))))) d none h = absurd cc
interfaces_are files (suc (suc (suc (suc (suc (suc (suc (suc (suc (suc zero)))))))))) d none h = absurd cc
interfaces_are files (suc (suc (suc (suc (suc (suc (suc (suc (suc (suc (suc n))))))))))) d none h = file_interfaces files n d (slice_get (hierarchy_of files) (behind_built_in n)) none refl h

-- ---- the superclass of an interface

second_of : (a b : Bool) → (not a && (not true || b)) ≡ true → b ≡ true
second_of true b e = absurd cc
second_of false b e = e

object_by : (s : ClassFile) (b : Bool) → b ≡ true → (not (is_interface s) && (not b || bytes_eq s.name OBJECT.now)) ≡ true → bytes_eq s.name OBJECT.now ≡ true
object_by s b is e = second_of (is_interface s) (bytes_eq s.name OBJECT.now) (ap (λ x. not (is_interface s) && (not x || bytes_eq s.name OBJECT.now)) (sym is) ∙ e)

super_name_by : (files : List ClassFile) (o : Option (List ℕ)) (d : ℕ) → option_map (λ (s : ClassId). s.0) (option_and_then (id_named files) o) ≡ Some d → (name : List ℕ) × (o ≡ Some name) × (number_named files name ≡ Some d)
super_name_by files None d e = absurd cc
super_name_by files (Some name) d e =
    let i = map_some (λ (s : ClassId). s.0) (id_named files name) d e in
    let n = map_some class_id (number_named files name) i.0 i.1 in
    let number : n.0 ≡ d = ap (λ (x : ClassId). x.0) n.2 ∙ i.2 in
    (name, refl, n.1 ∙ ap (λ (k : ℕ). Some k) number)

object_number : (files : List ClassFile) (name : List ℕ) (d : ℕ) → name ≡ OBJECT.now → number_named files name ≡ Some d → d ≡ 0
object_number files name d is e = let zeroth : (let o : Option ℕ = Some 0 in o) ≡ Some d = ap (number_named files) (sym is) ∙ e in some_is d 0 (sym zeroth)

file_super : (files : List ClassFile) (n d : ℕ) (class : ClassFile) (o : Option ClassInfo) → supertype_refusals files ≡ [] → slice_get files n ≡ Some class → is_interface class ≡ true → slice_get (hierarchy_of files) (behind_built_in n) ≡ o
    → option_and_then (λ (k : ClassInfo). option_map (λ (s : ClassId). s.0) k.super_id) o ≡ Some d → d ≡ 0
file_super files n d class None none at is e h = absurd cc
file_super files n d class (Some k) none at is e h =
    let file = of_file files n k e in
    let same : class ≡ file.class = some_is class file.class (sym at ∙ file.stands) in
    let interface : is_interface file.class ≡ true = ap is_interface (sym same) ∙ is in
    let name = super_name_by files file.class.super_name d (ap (option_map (λ (s : ClassId). s.0)) (sym file.super) ∙ h) in
    let refusals : supertype_name_refusals files file.class (is_fit_superclass file.class) name.0 ≡ [] =
    ap (λ (o : Option (List ℕ)). option_map_or (supertype_name_refusals files file.class (is_fit_superclass file.class)) o (refusal_at cause.SUPER file.class [] ∷ [])) (sym name.1) ∙ (file_refusals files n file.class none file.stands).0 in
    let fits = named_fits files file.class (is_fit_superclass file.class) name.0 refusals in
    let there = class_there files name.0 fits.0 d fits.1 name.2 in
    let object = same_text fits.0.name OBJECT.now (object_by fits.0 (is_interface file.class) interface fits.2) in
    object_number files name.0 d (sym (same_text fits.0.name name.0 there.1) ∙ object) name.2

zero_is : (d : ℕ) → (let o : Option ℕ = Some 0 in o) ≡ Some d → d ≡ 0
zero_is d e = some_is d 0 (sym e)

not_interface : (files : List ClassFile) (c d : ℕ) (class : ClassFile) → slice_get (all_classes files) c ≡ Some class → is_interface class ≡ false → IsInterface files c → d ≡ 0
not_interface files c d class at other it =
    absurd (let same : class ≡ it.class = some_is class it.class (sym at ∙ it.stands) in let yes : false ≡ true = sym other ∙ ap is_interface same ∙ it.is in cc)

pub super_of_interface : (files : List ClassFile) (c d : ℕ) → supertype_refusals files ≡ [] → IsInterface files c → superclass_of (hierarchy_of files) c ≡ Some d → d ≡ 0
super_of_interface files zero d none it e = absurd (let h : (let o : Option ℕ = None in o) ≡ Some d = e in cc)
super_of_interface files (suc zero) d none it e = not_interface files 1 d _ refl refl it
super_of_interface files (suc (suc zero)) d none it e = not_interface files 2 d _ refl refl it
super_of_interface files (suc (suc (suc zero))) d none it e = not_interface files 3 d _ refl refl it
super_of_interface files (suc (suc (suc (suc zero)))) d none it e = not_interface files 4 d _ refl refl it
super_of_interface files (suc (suc (suc (suc (suc zero))))) d none it e = not_interface files 5 d _ refl refl it
super_of_interface files (suc (suc (suc (suc (suc (suc zero)))))) d none it e = zero_is d e
super_of_interface files (suc (suc (suc (suc (suc (suc (suc zero))))))) d none it e = zero_is d e
super_of_interface files (suc (suc (suc (suc (suc (suc (suc (suc zero)))))))) d none it e = not_interface files 8 d _ refl refl it
super_of_interface files (suc (suc (suc (suc (suc (suc (suc (suc (suc zero))))))))) d none it e = not_interface files 9 d _ refl refl it
super_of_interface files (suc (suc (suc (suc (suc (suc (suc (suc (suc (suc zero)))))))))) d none it e = not_interface files 10 d _ refl refl it
super_of_interface files (suc (suc (suc (suc (suc (suc (suc (suc (suc (suc (suc n))))))))))) d none it e =
    file_super files n d it.class (slice_get (hierarchy_of files) (behind_built_in n)) none it.stands it.is refl e

-- ---- what holds upwards

module _ (classes : List ClassInfo) (T : ℕ → Type 0) (up : (c d : ℕ) → T c → has (direct_supertypes classes c) d ≡ true → T d) where
  above_within : (n c k : ℕ) → T c → has (supertypes_within classes n c) k ≡ true → T k
  above_within zero c k here h = absurd cc
  above_within (suc n) c k here h =
      elim (has-cons_cases c (flat_map (supertypes_within classes n) (direct_supertypes classes c)) k h) [
        | inl same ↦ subst T same here
        | inr higher ↦ let d = has-flat_map (supertypes_within classes n) (direct_supertypes classes c) k higher in above_within n d.0 k (up c d.0 here d.1) d.2
      ]

  pub above_all : (c k : ℕ) → T c → has (supertypes_of classes c) k ≡ true → T k
  above_all c k = above_within (length classes) c k

module _ (classes : List ClassInfo) (T : ℕ → Type 0) (up : (c d : ℕ) → T c → superclass_of classes c ≡ Some d → T d) where
  line_by : (n c k : ℕ) (o : Option ℕ) → superclass_of classes c ≡ o → T c → has (option_map_or (lineage_within classes n) o []) k ≡ true → ((d : ℕ) → T d → has (lineage_within classes n d) k ≡ true → T k) → T k
  line_by n c k None e here h rest = absurd cc
  line_by n c k (Some d) e here h rest = rest d (up c d here e) h

  line_within : (n c k : ℕ) → T c → has (lineage_within classes n c) k ≡ true → T k
  line_within zero c k here h = absurd cc
  line_within (suc n) c k here h =
      elim (has-cons_cases c (option_map_or (lineage_within classes n) (superclass_of classes c) []) k h) [
        | inl same ↦ subst T same here
        | inr higher ↦ line_by n c k (superclass_of classes c) refl here higher (λ d. line_within n d k)
      ]

  pub along_line : (c k : ℕ) → T c → is_subclass classes c k ≡ true → T k
  along_line c k = line_within (length classes) c k
