-- What the hierarchy knows of a member, the program has under the member's number.
use Rattle.std.proofs.Common.{◌≡◌, ℕ, zero, suc, ◌+◌, ◌<◌, ◌&&◌, not, Bool, true, false, cond, List, [], ◌∷◌, ◌++◌, map, length, Option, Some, refl, sym, ap, ◌∙◌, arith}
use Rattle.std.specs.Prelude.{slice_get, get_or, is_some, Contains, find}
use Rattle.std.specs.Str.{bytes_eq}
use Rattle.std.proofs.lemmas.Slice.Eq.{bytes_eq-Decides}
use Rattle.std.proofs.lemmas.Option.{slice_get_within}
use Rattle.th_base.specs.declared.class.ClassInfo.{ClassInfo}
use Rattle.th_base.specs.declared.class.FieldInfo.{FieldInfo}
use Rattle.th_base.specs.declared.class.MethodInfo.{MethodInfo}
use Rattle.th_base.specs.Hierarchy.{declared_method}
use Rattle.th_syntax.specs.declared.class_file.ClassFile.{ClassFile}
use Rattle.th_syntax.specs.declared.class_file.Member.{Member}
use Rattle.th_syntax.specs.Flags.{has_flag, is_static}
use Rattle.th_syntax.specs.Program.{Owned, owned_from, fields_of, methods_of, field_infos, method_infos, class_info, class_infos, all_classes, hierarchy_of}
use Rattle.th_syntax.proofs.Inverting.{some_is, and_then_some, both}

-- ---- lists

index_by : {A : Type 0} (xs : List A) (x : A) (k : ℕ) → k < length xs → get_or xs k x ≡ x → slice_get xs k ≡ Some x
index_by [] x k less e = absurd (omega arith)
index_by (y ∷ xs) x zero less e = ap (λ z. Some z) e
index_by (y ∷ xs) x (suc k) less e = index_by xs x k (omega arith) e

pub at_index : {A : Type 0} (xs : List A) (x : A) → Contains xs x → (j : ℕ) × (slice_get xs j ≡ Some x)
at_index xs x c = (c.0, index_by xs x c.0 c.1 c.2)

mapped_at : {A B : Type 0} (f : A → B) (xs : List A) (ys : List B) (j : ℕ) (x : A) → slice_get xs j ≡ Some x → slice_get (map f xs ++ ys) j ≡ Some (f x)
mapped_at f [] ys j x e = absurd cc
mapped_at f (z ∷ xs) ys zero x e = ap (λ y. Some (f y)) (some_is z x e)
mapped_at f (z ∷ xs) ys (suc j) x e = mapped_at f xs ys j x e

behind_mapped : {A B : Type 0} (f : A → B) (xs : List A) (ys : List B) (k j : ℕ) → k ≡ length xs + j → slice_get (map f xs ++ ys) k ≡ slice_get ys j
behind_mapped f [] ys k j e = ap (slice_get ys) (let same : k ≡ j = omega arith in same)
behind_mapped f (x ∷ xs) ys zero j e = absurd (omega arith)
behind_mapped f (x ∷ xs) ys (suc k) j e = behind_mapped f xs ys k j (omega arith)

-- ---- the members of the classes before one

pub before : (ClassFile → List Member) → ℕ → List ClassFile → ℕ
before members zero cs = 0
before members (suc c) [] = 0
before members (suc c) (x ∷ cs) = length (members x) + before members c cs

owned_at : (members : ClassFile → List Member) (n : ℕ) (cs : List ClassFile) (c : ℕ) (class : ClassFile) (j : ℕ) (x : Member) → slice_get cs c ≡ Some class → slice_get (members class) j ≡ Some x
    → slice_get (owned_from members n cs) (before members c cs + j) ≡ Some record { owner = n + c; member = x }
unfolding before
owned_at members n [] c class j x at e = absurd cc
owned_at members n (y ∷ cs) zero class j x at e =
    let here : slice_get (members y) j ≡ Some x = ap (λ (d : ClassFile). slice_get (members d) j) (some_is y class at) ∙ e in
    let level : n ≡ n + 0 = omega arith in
    let place : 0 + j ≡ j = omega arith in
    ap (slice_get (owned_from members n (y ∷ cs))) place
    ∙ mapped_at (λ (m : Member). let o : Owned = record { owner = n; member = m } in o) (members y) (owned_from members (n + 1) cs) j x here
    ∙ ap (λ k. let o : Option Owned = Some record { owner = k; member = x } in o) level
owned_at members n (y ∷ cs) (suc c) class j x at e =
    let level : (n + 1) + c ≡ n + suc c = omega arith in
    behind_mapped (λ (m : Member). let o : Owned = record { owner = n; member = m } in o) (members y) (owned_from members (n + 1) cs) ((length (members y) + before members c cs) + j) (before members c cs + j) (omega arith)
    ∙ owned_at members (n + 1) cs c class j x at e
    ∙ ap (λ k. let o : Option Owned = Some record { owner = k; member = x } in o) level

-- a class as the hierarchy knows it
pub class_as : (all : List ClassFile) (f m : ℕ) (cs : List ClassFile) (c : ℕ) (k : ClassInfo) → slice_get (class_infos all f m cs) c ≡ Some k
    → (class : ClassFile) × (slice_get cs c ≡ Some class) × (class_info all (f + before (λ x. x.fields) c cs) (m + before (λ x. x.methods) c cs) class ≡ k)
unfolding before
class_as all f m [] c k e = absurd cc
class_as all f m (x ∷ cs) zero k e =
    let one : f + 0 ≡ f = omega arith in let two : m + 0 ≡ m = omega arith in
    (x, refl, ap (λ n. class_info all n (m + 0) x) one ∙ ap (λ n. class_info all f n x) two ∙ some_is _ k e)
class_as all f m (x ∷ cs) (suc c) k e =
    let rest = class_as all (f + length x.fields) (m + length x.methods) cs c k e in
    let one : f + (length x.fields + before (λ (y : ClassFile). y.fields) c cs) ≡ (f + length x.fields) + before (λ (y : ClassFile). y.fields) c cs = omega arith in
    let two : m + (length x.methods + before (λ (y : ClassFile). y.methods) c cs) ≡ (m + length x.methods) + before (λ (y : ClassFile). y.methods) c cs = omega arith in (
      rest.0,
      rest.1,
      ap (λ n. class_info all n (m + (length x.methods + before (λ (y : ClassFile). y.methods) c cs)) rest.0) one
          ∙ ap (λ n. class_info all ((f + length x.fields) + before (λ (y : ClassFile). y.fields) c cs) n rest.0) two ∙ rest.2,
    )

-- ---- members as the hierarchy knows them

abbrev pub field_as : ℕ → Member → FieldInfo
field_as n x = record { id = record { 0 = n }; name = x.name; descriptor = x.descriptor; is_static = is_static x }

abbrev pub method_as : ℕ → Member → MethodInfo
method_as n x = record { id = record { 0 = n }; name = x.name; descriptor = x.descriptor; is_static = is_static x; is_private = has_flag x.access 2; is_abstract = not (is_some x.code) }

field_info_at : (n : ℕ) (ms : List Member) (j : ℕ) (f : FieldInfo) → slice_get (field_infos n ms) j ≡ Some f → (x : Member) × (slice_get ms j ≡ Some x) × (field_as (n + j) x ≡ f)
field_info_at n [] j f e = absurd cc
field_info_at n (x ∷ ms) zero f e = let level : n + 0 ≡ n = omega arith in (x, refl, ap (λ k. field_as k x) level ∙ some_is _ f e)
field_info_at n (x ∷ ms) (suc j) f e =
    let rest = field_info_at (n + 1) ms j f e in let level : n + suc j ≡ (n + 1) + j = omega arith in
    (rest.0, rest.1, ap (λ k. field_as k rest.0) level ∙ rest.2)

method_info_at : (n : ℕ) (ms : List Member) (j : ℕ) (m : MethodInfo) → slice_get (method_infos n ms) j ≡ Some m → (x : Member) × (slice_get ms j ≡ Some x) × (method_as (n + j) x ≡ m)
method_info_at n [] j m e = absurd cc
method_info_at n (x ∷ ms) zero m e = let level : n + 0 ≡ n = omega arith in (x, refl, ap (λ k. method_as k x) level ∙ some_is _ m e)
method_info_at n (x ∷ ms) (suc j) m e =
    let rest = method_info_at (n + 1) ms j m e in let level : n + suc j ≡ (n + 1) + j = omega arith in
    (rest.0, rest.1, ap (λ k. method_as k rest.0) level ∙ rest.2)

-- a field that a class declares
pub record IsFieldHere (files : List ClassFile) (c : ℕ) (f : FieldInfo) : Type 0 where
  pub info : ClassInfo
  pub known : slice_get (hierarchy_of files) c ≡ Some info
  pub inside : Contains info.fields f
  pub class : ClassFile
  pub stands : slice_get (all_classes files) c ≡ Some class
  pub member : Member
  pub place : ℕ
  pub declared : slice_get class.fields place ≡ Some member
  pub same : field_as f.id.0 member ≡ f
  pub numbered : slice_get (fields_of files) f.id.0 ≡ Some record { owner = c; member = member }

-- a method that a class declares
pub record IsMethodHere (files : List ClassFile) (c : ℕ) (m : MethodInfo) : Type 0 where
  pub class : ClassFile
  pub stands : slice_get (all_classes files) c ≡ Some class
  pub member : Member
  pub place : ℕ
  pub declared : slice_get class.methods place ≡ Some member
  pub same : method_as m.id.0 member ≡ m
  pub numbered : slice_get (methods_of files) m.id.0 ≡ Some record { owner = c; member = member }

pub field_here : (files : List ClassFile) (c : ℕ) (k : ClassInfo) (f : FieldInfo) → slice_get (hierarchy_of files) c ≡ Some k → Contains k.fields f → IsFieldHere files c f
field_here files c k f at inside =
    let class = class_as files 0 0 (all_classes files) c k at in
    let place = at_index k.fields f inside in
    let from : ℕ = before (λ x. x.fields) c (all_classes files) in
    let there : slice_get (field_infos (0 + from) class.0.fields) place.0 ≡ Some f = ap (λ (i : ClassInfo). slice_get i.fields place.0) class.2 ∙ place.1 in
    let info = field_info_at (0 + from) class.0.fields place.0 f there in
    let number : f.id.0 ≡ (0 + from) + place.0 = ap (λ (g : FieldInfo). g.id.0) (sym info.2) in
    let level : f.id.0 ≡ from + place.0 = omega arith in
    let zeroed : 0 + c ≡ c = omega arith in
    record {
      info = k;
      known = at;
      inside = inside;
      class = class.0;
      stands = class.1;
      member = info.0;
      place = place.0;
      declared = info.1;
      same = ap (λ n. field_as n info.0) number ∙ info.2;
      numbered = ap (slice_get (fields_of files)) level ∙ owned_at (λ x. x.fields) 0 (all_classes files) c class.0 place.0 info.0 class.1 info.1
          ∙ ap (λ n. let o : Option Owned = Some record { owner = n; member = info.0 } in o) zeroed;
    }

pub method_here : (files : List ClassFile) (c : ℕ) (k : ClassInfo) (m : MethodInfo) → slice_get (hierarchy_of files) c ≡ Some k → Contains k.methods m → IsMethodHere files c m
method_here files c k m at inside =
    let class = class_as files 0 0 (all_classes files) c k at in
    let place = at_index k.methods m inside in
    let from : ℕ = before (λ x. x.methods) c (all_classes files) in
    let there : slice_get (method_infos (0 + from) class.0.methods) place.0 ≡ Some m = ap (λ (i : ClassInfo). slice_get i.methods place.0) class.2 ∙ place.1 in
    let info = method_info_at (0 + from) class.0.methods place.0 m there in
    let number : m.id.0 ≡ (0 + from) + place.0 = ap (λ (g : MethodInfo). g.id.0) (sym info.2) in
    let level : m.id.0 ≡ from + place.0 = omega arith in
    let zeroed : 0 + c ≡ c = omega arith in
    record {
      class = class.0;
      stands = class.1;
      member = info.0;
      place = place.0;
      declared = info.1;
      same = ap (λ n. method_as n info.0) number ∙ info.2;
      numbered = ap (slice_get (methods_of files)) level ∙ owned_at (λ x. x.methods) 0 (all_classes files) c class.0 place.0 info.0 class.1 info.1
          ∙ ap (λ n. let o : Option Owned = Some record { owner = n; member = info.0 } in o) zeroed;
    }

-- ---- the method that a class declares under a name

found_by : {A : Type 0} (test : A → Bool) (x y : A) (xs : List A) (b : Bool) → test x ≡ b → cond b (Some x) (find test xs) ≡ Some y → (find test xs ≡ Some y → (j : ℕ) × (slice_get xs j ≡ Some y) × (test y ≡ true))
    → (j : ℕ) × (slice_get (x ∷ xs) j ≡ Some y) × (test y ≡ true)
found_by test x y xs true is e rest = (0, e, ap test (sym (some_is x y e)) ∙ is)
found_by test x y xs false is e rest = let more = rest e in (suc more.0, more.1, more.2)

-- what is found is there and passes
pub found_at : {A : Type 0} (test : A → Bool) (xs : List A) (y : A) → find test xs ≡ Some y → (j : ℕ) × (slice_get xs j ≡ Some y) × (test y ≡ true)
found_at test [] y e = absurd cc
found_at test (x ∷ xs) y e = found_by test x y xs (test x) refl e (found_at test xs y)

read_by : {A : Type 0} (xs : List A) (j : ℕ) (x : A) → slice_get xs j ≡ Some x → get_or xs j x ≡ x
read_by [] j x e = absurd cc
read_by (y ∷ xs) zero x e = some_is y x e
read_by (y ∷ xs) (suc j) x e = read_by xs j x e

pub contains_at : {A : Type 0} (xs : List A) (j : ℕ) (x : A) → slice_get xs j ≡ Some x → Contains xs x
contains_at xs j x e = (j, slice_get_within xs j x e, read_by xs j x e)

pub same_text : (a b : List ℕ) → bytes_eq a b ≡ true → a ≡ b
same_text a b e = (bytes_eq-Decides a b).0 e

pub record IsDeclared (files : List ClassFile) (c : ℕ) (name descriptor : List ℕ) (m : MethodInfo) : Type 0 where
  pub info : ClassInfo
  pub known : slice_get (hierarchy_of files) c ≡ Some info
  pub here : IsMethodHere files c m
  pub name_is : m.name ≡ name
  pub descriptor_is : m.descriptor ≡ descriptor

pub declared : (files : List ClassFile) (c : ℕ) (name descriptor : List ℕ) (m : MethodInfo) → declared_method (hierarchy_of files) name descriptor c ≡ Some m → IsDeclared files c name descriptor m
declared files c name descriptor m e =
    let test : MethodInfo → Bool = λ (x : MethodInfo). bytes_eq x.name name && bytes_eq x.descriptor descriptor in
    let k = and_then_some (λ (k : ClassInfo). find test k.methods) (slice_get (hierarchy_of files) c) m e in
    let found = found_at test k.0.methods m k.2 in
    let tests = both (bytes_eq m.name name) (bytes_eq m.descriptor descriptor) found.2 in
    record {
      info = k.0;
      known = k.1;
      here = method_here files c k.0 m k.1 (contains_at k.0.methods found.0 m found.1);
      name_is = same_text m.name name tests.0;
      descriptor_is = same_text m.descriptor descriptor tests.1;
    }
