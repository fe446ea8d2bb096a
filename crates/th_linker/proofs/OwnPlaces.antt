-- The first member of a name and a descriptor that a class has is the one of another's number than a
-- member of these that stands behind it. So numbers tell whether a member stands twice.
use Rattle.std.proofs.Common.{◌≡◌, ℕ, suc, zero, ◌+◌, ◌<◌, ◌≤◌, ◌==◌, ◌&&◌, ◌||◌, not, Bool, true, false, cond, List, [], ◌∷◌, length, take, Option, Some, None, refl, sym, ap, ◌∙◌, arith, eq-eqb}
use Rattle.std.specs.Prelude.{slice_get, find, is_some}
use Rattle.std.specs.List.{list_any}
use Rattle.std.specs.Option.{option_map, option_or, option_and_then}
use Rattle.std.specs.Str.{bytes_eq}
use Rattle.std.proofs.lemmas.Bool.Decides.{Decides-eqb}
use Rattle.std.proofs.lemmas.Option.{slice_get_within}
use Rattle.std.proofs.lemmas.Slice.Eq.{bytes_eq-Decides}
use Rattle.th_base.specs.declared.class.ClassInfo.{ClassInfo}
use Rattle.th_base.specs.declared.class.FieldInfo.{FieldInfo}
use Rattle.th_base.specs.declared.class.MethodInfo.{MethodInfo}
use Rattle.th_base.specs.Hierarchy.{direct_supertypes, supertypes_within, declared_field, first_field, resolved_field, declared_method}
use Rattle.std.specs.Prelude.{flat_map}
use Rattle.th_syntax.specs.declared.class_file.ClassFile.{ClassFile}
use Rattle.th_syntax.specs.declared.class_file.Member.{Member}
use Rattle.th_syntax.specs.Flags.{is_static, has_flag}
use Rattle.th_syntax.specs.LinkChecks.{has_member}
use Rattle.th_syntax.specs.Program.{field_infos, method_infos, all_classes, hierarchy_of, class_info}
use Rattle.th_syntax.proofs.Inverting.{some_is}
use Rattle.th_linker.proofs.Known.{IsKnown, known_at}

-- ---- numbered items

abbrev numbered : {X : Type 0} → (ℕ → Member → X) → ℕ → List Member → List X
numbered info n [] = []
numbered info n (m ∷ ms) = info n m ∷ numbered info (n + 1) ms

not_true : (b : Bool) → (b ≡ true → ⊥) → b ≡ false
not_true true h = absurd (h refl)
not_true false h = refl

differ : (a b : ℕ) → (a ≡ b → ⊥) → (a == b) ≡ false
differ a b h = not_true (a == b) (λ e. h ((Decides-eqb a b).0 e))

module _ {X : Type 0} (info : ℕ → Member → X) (number : X → ℕ) (is : (n : ℕ) (m : Member) → number (info n m) ≡ n) (t : X → Bool) (q : Member → Bool) (same : (n : ℕ) (m : Member) → t (info n m) ≡ q m) where
  own_item : (b at : ℕ) (ms : List Member) (m : Member) → slice_get ms at ≡ Some m → slice_get (numbered info b ms) at ≡ Some (info (b + at) m)
  own_item b at [] m e = absurd cc
  own_item b zero (y ∷ ys) m e = let level : b ≡ b + 0 = omega arith in ap (option_map (info b)) e ∙ ap (λ n. let o : Option X = Some (info n m) in o) level
  own_item b (suc k) (y ∷ ys) m e = let level : (b + 1) + k ≡ b + suc k = omega arith in own_item (b + 1) k ys m e ∙ ap (λ n. let o : Option X = Some (info n m) in o) level

  -- the first item that passes the test, among items from this number on, and whether it is the one at a place
  abbrev First : ℕ → ℕ → List Member → Type 0
  First b at ms = (x : X) × (find t (numbered info b ms) ≡ Some x) × ((number x == (b + at)) ≡ not (list_any q (take at ms)))

  first_by : (b k : ℕ) (y : Member) (ys : List Member) (c : Bool) → q y ≡ c → First (b + 1) k ys → First b (suc k) (y ∷ ys)
  first_by b k y ys true found rest =
      let own = is b y in
      let other : number (info b y) ≡ b + suc k → ⊥ = λ f. omega (arith, own, f) in (
        info b y,
        ap (λ c. cond c (Some (info b y)) (find t (numbered info (b + 1) ys))) (same b y ∙ found),
        differ (number (info b y)) (b + suc k) other ∙ sym (ap (λ c. not (c || list_any q (take k ys))) found),
      )
  first_by b k y ys false none rest =
      let level : b + suc k ≡ (b + 1) + k = omega arith in (
        rest.0,
        ap (λ c. cond c (Some (info b y)) (find t (numbered info (b + 1) ys))) (same b y ∙ none) ∙ rest.1,
        ap (λ n. number rest.0 == n) level ∙ rest.2 ∙ sym (ap (λ c. not (c || list_any q (take k ys))) none),
      )

  first_item : (b at : ℕ) (ms : List Member) (m : Member) → slice_get ms at ≡ Some m → q m ≡ true → First b at ms
  first_item b at [] m e h = absurd cc
  first_item b zero (y ∷ ys) m e h =
      let here : t (info b y) ≡ true = same b y ∙ ap q (some_is y m e) ∙ h in
      let own = is b y in
      let level : number (info b y) ≡ b + 0 = omega (arith, own) in (
        info b y,
        ap (λ c. cond c (Some (info b y)) (find t (numbered info (b + 1) ys))) here,
        (Decides-eqb (number (info b y)) (b + 0)).1 level,
      )
  first_item b (suc k) (y ∷ ys) m e h = first_by b k y ys (q y) refl (first_item (b + 1) k ys m e h)

abbrev same_member : List ℕ → List ℕ → Member → Bool
same_member name descriptor m = bytes_eq m.name name && bytes_eq m.descriptor descriptor

same_own : (m : Member) → same_member m.name m.descriptor m ≡ true
same_own m =
    ap (λ b. b && bytes_eq m.descriptor m.descriptor) ((bytes_eq-Decides m.name m.name).1 refl)
    ∙ (bytes_eq-Decides m.descriptor m.descriptor).1 refl

-- ---- fields

abbrev field_info : ℕ → Member → FieldInfo
field_info n m = record { id = record { 0 = n }; name = m.name; descriptor = m.descriptor; is_static = is_static m }

fields_numbered : (n : ℕ) (ms : List Member) → field_infos n ms ≡ numbered field_info n ms
fields_numbered n [] = refl
fields_numbered n (m ∷ ms) = ap (λ xs. field_info n m ∷ xs) (fields_numbered (n + 1) ms)

-- a class's field, and the first one of its name and descriptor
pub record HasField (files : List ClassFile) (n at : ℕ) (c : ClassFile) (m : Member) : Type 0 where
  pub class : ClassInfo
  pub stands : slice_get (hierarchy_of files) n ≡ Some class
  pub own : FieldInfo
  pub own_stands : slice_get class.fields at ≡ Some own
  pub first : FieldInfo
  pub found : resolved_field (hierarchy_of files) n m.name m.descriptor ≡ Some (n, first)
  pub is_new : (first.id.0 == own.id.0) ≡ not (has_member (take at c.fields) m.name m.descriptor)

along_first : (h : List ClassInfo) (len n : ℕ) (name descriptor : List ℕ) (x : FieldInfo) → 0 < len → declared_field h name descriptor n ≡ Some x → first_field h name descriptor (supertypes_within h len n) ≡ Some (n, x)
along_first h zero n name descriptor x pos e = absurd (omega arith)
along_first h (suc len) n name descriptor x pos e =
    ap (λ (o : Option FieldInfo). option_or (option_map (λ (f : FieldInfo). (n, f)) o) (first_field h name descriptor (flat_map (supertypes_within h len) (direct_supertypes h n)))) e

pub field_at : (files : List ClassFile) (n at : ℕ) (c : ClassFile) (m : Member) → slice_get (all_classes files) n ≡ Some c → slice_get c.fields at ≡ Some m → HasField files n at c m
field_at files n at c m stands here =
    let k = known_at files n c stands in
    let named = λ (f : FieldInfo). bytes_eq f.name m.name && bytes_eq f.descriptor m.descriptor in
    let first = first_item field_info (λ f. f.id.0) (λ i x. refl) named (same_member m.name m.descriptor) (λ i x. refl) k.field at c.fields m here (same_own m) in
    let own = own_item field_info (λ f. f.id.0) (λ i x. refl) named (same_member m.name m.descriptor) (λ i x. refl) k.field at c.fields m here in
    let declared : declared_field (hierarchy_of files) m.name m.descriptor n ≡ Some first.0 =
    ap (option_and_then (λ (x : ClassInfo). find named x.fields)) k.stands ∙ ap (find named) (fields_numbered k.field c.fields) ∙ first.1 in
    let inside = slice_get_within (hierarchy_of files) n (class_info files k.field k.method c) k.stands in
    record {
      class = class_info files k.field k.method c;
      stands = k.stands;
      own = field_info (k.field + at) m;
      own_stands = ap (λ xs. slice_get xs at) (fields_numbered k.field c.fields) ∙ own;
      first = first.0;
      found = along_first (hierarchy_of files) (length (hierarchy_of files)) n m.name m.descriptor first.0 (omega (arith, inside)) declared;
      is_new = first.2;
    }

-- what a look at the numbers says
module _ (files : List ClassFile) (n at : ℕ) (c : ClassFile) (m : Member) (h : HasField files n at c m) (k : ClassInfo) (stands : slice_get (hierarchy_of files) n ≡ Some k) where
  field_class : h.class ≡ k
  field_class = some_is h.class k (sym h.stands ∙ stands)

  field_own : slice_get k.fields at ≡ Some h.own
  field_own = ap (λ (x : ClassInfo). slice_get x.fields at) (sym field_class) ∙ h.own_stands

  pub field_inside : at < length k.fields
  field_inside = slice_get_within k.fields at h.own field_own

  pub field_judged : (own class : ℕ) (first : FieldInfo) → option_map (λ (f : FieldInfo). f.id.0) (slice_get k.fields at) ≡ Some own → resolved_field (hierarchy_of files) n m.name m.descriptor ≡ Some (class, first)
      → (first.id.0 == own) ≡ not (has_member (take at c.fields) m.name m.descriptor)
  field_judged own class first own_is found =
      let number : h.own.id.0 ≡ own = some_is h.own.id.0 own (sym (ap (option_map (λ (f : FieldInfo). f.id.0)) field_own) ∙ own_is) in
      let pair = some_is (n, h.first) (class, first) (sym h.found ∙ found) in
      let one : h.first ≡ first = ap (λ (p : ℕ × FieldInfo). p.1) pair in
      ap (λ (f : FieldInfo). f.id.0 == own) (sym one) ∙ ap (λ i. h.first.id.0 == i) (sym number) ∙ h.is_new

-- ---- methods

abbrev method_info : ℕ → Member → MethodInfo
method_info n m =
    record { id = record { 0 = n }; name = m.name; descriptor = m.descriptor; is_static = is_static m; is_private = has_flag m.access 2; is_abstract = not (is_some m.code) }

methods_numbered : (n : ℕ) (ms : List Member) → method_infos n ms ≡ numbered method_info n ms
methods_numbered n [] = refl
methods_numbered n (m ∷ ms) = ap (λ xs. method_info n m ∷ xs) (methods_numbered (n + 1) ms)

-- a class's method, and the first one of its name and descriptor
pub record HasMethod (files : List ClassFile) (n at : ℕ) (c : ClassFile) (m : Member) : Type 0 where
  pub class : ClassInfo
  pub stands : slice_get (hierarchy_of files) n ≡ Some class
  pub own : MethodInfo
  pub own_stands : slice_get class.methods at ≡ Some own
  pub first : MethodInfo
  pub found : declared_method (hierarchy_of files) m.name m.descriptor n ≡ Some first
  pub is_new : (first.id.0 == own.id.0) ≡ not (has_member (take at c.methods) m.name m.descriptor)

pub method_at : (files : List ClassFile) (n at : ℕ) (c : ClassFile) (m : Member) → slice_get (all_classes files) n ≡ Some c → slice_get c.methods at ≡ Some m → HasMethod files n at c m
method_at files n at c m stands here =
    let k = known_at files n c stands in
    let named = λ (f : MethodInfo). bytes_eq f.name m.name && bytes_eq f.descriptor m.descriptor in
    let first = first_item method_info (λ f. f.id.0) (λ i x. refl) named (same_member m.name m.descriptor) (λ i x. refl) k.method at c.methods m here (same_own m) in
    let own = own_item method_info (λ f. f.id.0) (λ i x. refl) named (same_member m.name m.descriptor) (λ i x. refl) k.method at c.methods m here in
    record {
      class = class_info files k.field k.method c;
      stands = k.stands;
      own = method_info (k.method + at) m;
      own_stands = ap (λ xs. slice_get xs at) (methods_numbered k.method c.methods) ∙ own;
      first = first.0;
      found = ap (option_and_then (λ (x : ClassInfo). find named x.methods)) k.stands ∙ ap (find named) (methods_numbered k.method c.methods) ∙ first.1;
      is_new = first.2;
    }

-- what a look at the numbers says
module _ (files : List ClassFile) (n at : ℕ) (c : ClassFile) (m : Member) (h : HasMethod files n at c m) (k : ClassInfo) (stands : slice_get (hierarchy_of files) n ≡ Some k) where
  method_class : h.class ≡ k
  method_class = some_is h.class k (sym h.stands ∙ stands)

  method_own : slice_get k.methods at ≡ Some h.own
  method_own = ap (λ (x : ClassInfo). slice_get x.methods at) (sym method_class) ∙ h.own_stands

  pub method_inside : at < length k.methods
  method_inside = slice_get_within k.methods at h.own method_own

  pub method_judged : (own : ℕ) (first : MethodInfo) → option_map (λ (f : MethodInfo). f.id.0) (slice_get k.methods at) ≡ Some own → declared_method (hierarchy_of files) m.name m.descriptor n ≡ Some first
      → (first.id.0 == own) ≡ not (has_member (take at c.methods) m.name m.descriptor)
  method_judged own first own_is found =
      let number : h.own.id.0 ≡ own = some_is h.own.id.0 own (sym (ap (option_map (λ (f : MethodInfo). f.id.0)) method_own) ∙ own_is) in
      let one : h.first ≡ first = some_is h.first first (sym h.found ∙ found) in
      ap (λ (f : MethodInfo). f.id.0 == own) (sym one) ∙ ap (λ i. h.first.id.0 == i) (sym number) ∙ h.is_new
