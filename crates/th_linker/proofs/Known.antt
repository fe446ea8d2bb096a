-- The classes of a program as the hierarchy knows them: as many, in order, with the same names.
use Rattle.std.proofs.Common.{◌≡◌, ℕ, suc, zero, ◌+◌, ◌<◌, ◌≤◌, ◌^◌, ◌⊎◌, inl, inr, Bool, true, false, cond, List, [], ◌∷◌, ◌++◌, map, length, get_or, take, Option, None, Some, refl, sym, ap, subst, ◌∙◌, arith, sum_by, length-append, append-nil}
use Rattle.std.specs.Prelude.{nat_le, slice_get, Contains, option_to_list, filter_map, IfSome}
use Rattle.std.specs.List.{position_from, AllByRecursion, cons_option}
use Rattle.std.specs.Option.{option_map, option_map_or, option_and_then}
use Rattle.std.specs.Str.{bytes_eq}
use Rattle.std.proofs.lemmas.Bool.Decides.{leb_tells}
use Rattle.std.proofs.lemmas.List.{length-map, length-take}
use Rattle.std.proofs.lemmas.List.Elements.{filter_map-append}
use Rattle.std.proofs.lemmas.List.Sums.{sum_by-cons, sum_by_more, sum_by_more_le}
use Rattle.th_base.specs.declared.number.ClassId.{ClassId}
use Rattle.th_base.specs.declared.class.ClassInfo.{ClassInfo}
use Rattle.th_base.specs.declared.class.FieldInfo.{FieldInfo}
use Rattle.th_base.specs.declared.class.MethodInfo.{MethodInfo}
use Rattle.th_base.specs.Hierarchy.{StandsAbove, IsAcyclic, direct_supertypes}
use Rattle.th_syntax.specs.declared.class_file.ClassFile.{ClassFile}
use Rattle.th_syntax.specs.declared.class_file.Member.{Member}
use Rattle.th_syntax.specs.declared.limit.TheConstants.{MOST_METHODS}
use Rattle.th_syntax.specs.Flags.{is_interface}
use Rattle.th_syntax.specs.LinkChecks.{are_few}
use Rattle.th_syntax.specs.Machine.{class_id}
use Rattle.th_syntax.specs.Program.{owned_from, field_infos, method_infos, class_info, class_infos, built_in_classes, all_classes, methods_of, hierarchy_of, id_named, number_named}
use Rattle.th_linker.specs.Checking.{AreNumbered}
use Rattle.th_linker.proofs.Finding.{number_inside}
use Rattle.th_linker.proofs.InOrder.{one_more}

abbrev pub fields_in : List ClassFile → ℕ
fields_in cs = sum_by (λ (c : ClassFile). length c.fields) cs

abbrev pub methods_in : List ClassFile → ℕ
methods_in cs = sum_by (λ (c : ClassFile). length c.methods) cs

-- ---- each class, in order

infos_length : (files : List ClassFile) (f m : ℕ) (cs : List ClassFile) → length (class_infos files f m cs) ≡ length cs
infos_length files f m [] = refl
infos_length files f m (c ∷ cs) = ap suc (infos_length files (f + length c.fields) (m + length c.methods) cs)

pub hierarchy_length : (files : List ClassFile) → length (hierarchy_of files) ≡ length (all_classes files)
hierarchy_length files = infos_length files 0 0 (all_classes files)

infos_named : (files : List ClassFile) (f m : ℕ) (name : List ℕ) (i : ℕ) (cs : List ClassFile)
    → position_from (λ (k : ClassInfo). bytes_eq k.name name) i (class_infos files f m cs) ≡ position_from (λ (c : ClassFile). bytes_eq c.name name) i cs
infos_named files f m name i [] = refl
infos_named files f m name i (c ∷ cs) = ap (cond (bytes_eq c.name name) (Some i)) (infos_named files (f + length c.fields) (m + length c.methods) name (i + 1) cs)

pub hierarchy_named : (files : List ClassFile) (name : List ℕ) → position_from (λ (k : ClassInfo). bytes_eq k.name name) 0 (hierarchy_of files) ≡ number_named files name
hierarchy_named files name = infos_named files 0 0 name 0 (all_classes files)

-- a class of the program, as the hierarchy knows it
pub record IsKnown (files : List ClassFile) (n : ℕ) (c : ClassFile) : Type 0 where
  pub field : ℕ
  pub method : ℕ
  pub stands : slice_get (hierarchy_of files) n ≡ Some (class_info files field method c)

infos_at : (files : List ClassFile) (f m : ℕ) (cs : List ClassFile) (n : ℕ) (c : ClassFile) → slice_get cs n ≡ Some c
    → (g : ℕ) × (h : ℕ) × (slice_get (class_infos files f m cs) n ≡ Some (class_info files g h c))
infos_at files f m [] n c e = absurd cc
infos_at files f m (d ∷ cs) zero c e = (f, m, ap (option_map (class_info files f m)) e)
infos_at files f m (d ∷ cs) (suc n) c e = infos_at files (f + length d.fields) (m + length d.methods) cs n c e

pub known_at : (files : List ClassFile) (n : ℕ) (c : ClassFile) → slice_get (all_classes files) n ≡ Some c → IsKnown files n c
known_at files n c e = let at = infos_at files 0 0 (all_classes files) n c e in record { field = at.0; method = at.1; stands = at.2 }

infos_interface : (files : List ClassFile) (f m : ℕ) (cs : List ClassFile) (n : ℕ)
    → option_map_or (λ (k : ClassInfo). k.is_interface) (slice_get (class_infos files f m cs) n) false ≡ option_map_or is_interface (slice_get cs n) false
infos_interface files f m [] n = refl
infos_interface files f m (c ∷ cs) zero = refl
infos_interface files f m (c ∷ cs) (suc n) = infos_interface files (f + length c.fields) (m + length c.methods) cs n

pub interface_known : (files : List ClassFile) (n : ℕ) (k : ClassInfo) → slice_get (hierarchy_of files) n ≡ Some k → k.is_interface ≡ option_map_or is_interface (slice_get (all_classes files) n) false
interface_known files n k e = sym (ap (λ o. option_map_or (λ (x : ClassInfo). x.is_interface) o false) e) ∙ infos_interface files 0 0 (all_classes files) n

-- ---- one class more

pub infos_more : (files : List ClassFile) (f m : ℕ) (xs : List ClassFile) (c : ClassFile)
    → class_infos files f m (xs ++ c ∷ []) ≡ class_infos files f m xs ++ class_info files (f + fields_in xs) (m + methods_in xs) c ∷ []
infos_more files f m [] c =
    let e : f ≡ f + 0 = omega arith in let g : m ≡ m + 0 = omega arith in
    ap (λ n. class_info files n m c ∷ []) e ∙ ap (λ n. class_info files (f + 0) n c ∷ []) g
infos_more files f m (x ∷ xs) c =
    let e : (f + length x.fields) + fields_in xs ≡ f + fields_in (x ∷ xs) = omega (arith, sum_by-cons (λ (d : ClassFile). length d.fields) x xs) in
    let g : (m + length x.methods) + methods_in xs ≡ m + methods_in (x ∷ xs) = omega (arith, sum_by-cons (λ (d : ClassFile). length d.methods) x xs) in
    let rest = class_infos files (f + length x.fields) (m + length x.methods) xs in
    ap (λ ys. class_info files f m x ∷ ys)
    (infos_more files (f + length x.fields) (m + length x.methods) xs c
    ∙ ap (λ n. rest ++ class_info files n ((m + length x.methods) + methods_in xs) c ∷ []) e
    ∙ ap (λ n. rest ++ class_info files (f + fields_in (x ∷ xs)) n c ∷ []) g)

pub fields_more : (n : ℕ) (xs : List Member) (m : Member) → field_infos n (xs ++ m ∷ []) ≡ field_infos n xs ++ field_infos (n + length xs) (m ∷ [])
fields_more n [] m = let e : n ≡ n + 0 = omega arith in ap (λ k. field_infos k (m ∷ [])) e
fields_more n (x ∷ xs) m =
    let e : (n + 1) + length xs ≡ n + length (x ∷ xs) = omega arith in
    ap (λ ys. field_infos n (x ∷ []) ++ ys) (fields_more (n + 1) xs m ∙ ap (λ k. field_infos (n + 1) xs ++ field_infos k (m ∷ [])) e)

pub methods_more : (n : ℕ) (xs : List Member) (m : Member) → method_infos n (xs ++ m ∷ []) ≡ method_infos n xs ++ method_infos (n + length xs) (m ∷ [])
methods_more n [] m = let e : n ≡ n + 0 = omega arith in ap (λ k. method_infos k (m ∷ [])) e
methods_more n (x ∷ xs) m =
    let e : (n + 1) + length xs ≡ n + length (x ∷ xs) = omega arith in
    ap (λ ys. method_infos n (x ∷ []) ++ ys) (methods_more (n + 1) xs m ∙ ap (λ k. method_infos (n + 1) xs ++ method_infos k (m ∷ [])) e)

pub fields_pushed : (first at : ℕ) (fields : List Member) (x : Member) (old new : List FieldInfo) (info : FieldInfo) → at < length fields → x ≡ get_or fields at x
    → old ≡ field_infos first (take at fields) → field_infos (first + at) (x ∷ []) ≡ info ∷ [] → new ≡ old ++ info ∷ [] → new ≡ field_infos first (take (at + 1) fields)
fields_pushed first at fields x old new info h e was own put =
    let level : first + at ≡ first + length (take at fields) = let short = length-take at fields in omega (arith, short) in
    put ∙ ap (λ xs. xs ++ info ∷ []) was ∙ ap (λ ys. field_infos first (take at fields) ++ ys) (sym own)
    ∙ ap (λ n. field_infos first (take at fields) ++ field_infos n (x ∷ [])) level
    ∙ sym (ap (field_infos first) (one_more fields at x h e) ∙ fields_more first (take at fields) x)

pub methods_pushed : (first at : ℕ) (methods : List Member) (x : Member) (old new : List MethodInfo) (info : MethodInfo) → at < length methods → x ≡ get_or methods at x
    → old ≡ method_infos first (take at methods) → method_infos (first + at) (x ∷ []) ≡ info ∷ [] → new ≡ old ++ info ∷ [] → new ≡ method_infos first (take (at + 1) methods)
methods_pushed first at methods x old new info h e was own put =
    let level : first + at ≡ first + length (take at methods) = let short = length-take at methods in omega (arith, short) in
    put ∙ ap (λ xs. xs ++ info ∷ []) was ∙ ap (λ ys. method_infos first (take at methods) ++ ys) (sym own)
    ∙ ap (λ n. method_infos first (take at methods) ++ method_infos n (x ∷ [])) level
    ∙ sym (ap (method_infos first) (one_more methods at x h e) ∙ methods_more first (take at methods) x)

-- the numbers of the names so far, where the next name has one or has none
pub id_pushed : (F : List ℕ → Option ClassId) (names : List (List ℕ)) (i : ℕ) (x : List ℕ) (id : ClassId) (old new : List ClassId) → i < length names → x ≡ get_or names i x → Some id ≡ F x → old ≡ filter_map F (take i names) → new ≡ old ++ id ∷ []
    → new ≡ filter_map F (take (i + 1) names)
id_pushed F names i x id old new h e is was put =
    put ∙ ap (λ xs. xs ++ id ∷ []) was ∙ ap (λ o. filter_map F (take i names) ++ cons_option o []) is
    ∙ sym (ap (filter_map F) (one_more names i x h e) ∙ filter_map-append F (take i names) (x ∷ []))

pub no_id_pushed : (F : List ℕ → Option ClassId) (names : List (List ℕ)) (i : ℕ) (x : List ℕ) (old : List ClassId) → i < length names → x ≡ get_or names i x → None ≡ F x → old ≡ filter_map F (take i names)
    → old ≡ filter_map F (take (i + 1) names)
no_id_pushed F names i x old h e is was =
    was ∙ sym (append-nil (filter_map F (take i names))) ∙ ap (λ o. filter_map F (take i names) ++ cons_option o []) is
    ∙ sym (ap (filter_map F) (one_more names i x h e) ∙ filter_map-append F (take i names) (x ∷ []))

-- the members so far and those of the next class are within all
pub within_all : (f : ClassFile → ℕ) (cs : List ClassFile) (i : ℕ) (x : ClassFile) → i < length cs → x ≡ get_or cs i x → sum_by f (take i cs) + f x ≤ sum_by f cs
within_all f cs i x h e = subst (λ y. sum_by f (take i cs) + f y ≤ sum_by f cs) (sym e) (sum_by_more_le f cs i x h)

pub counted_more : (f : ClassFile → ℕ) (cs : List ClassFile) (i : ℕ) (x : ClassFile) → i < length cs → x ≡ get_or cs i x → sum_by f (take (i + 1) cs) ≡ sum_by f (take i cs) + f x
counted_more f cs i x h e = sum_by_more f cs i x h ∙ ap (λ y. sum_by f (take i cs) + f y) (sym e)

pub classes_pushed : (files cs : List ClassFile) (i field method : ℕ) (x : ClassFile) (old new : List ClassInfo) (info : ClassInfo) → i < length cs → x ≡ get_or cs i x
    → old ≡ class_infos files 0 0 (take i cs) → field ≡ fields_in (take i cs) → method ≡ methods_in (take i cs) → info ≡ class_info files field method x → new ≡ old ++ info ∷ []
    → new ≡ class_infos files 0 0 (take (i + 1) cs)
classes_pushed files cs i field method x old new info h e was fields methods own put =
    let f : field ≡ 0 + fields_in (take i cs) = omega (arith, fields) in
    let m : method ≡ 0 + methods_in (take i cs) = omega (arith, methods) in
    put ∙ ap (λ xs. xs ++ info ∷ []) was ∙ ap (λ y. class_infos files 0 0 (take i cs) ++ y ∷ []) own
    ∙ ap (λ n. class_infos files 0 0 (take i cs) ++ class_info files n method x ∷ []) f
    ∙ ap (λ n. class_infos files 0 0 (take i cs) ++ class_info files (0 + fields_in (take i cs)) n x ∷ []) m
    ∙ sym (ap (class_infos files 0 0) (one_more cs i x h e) ∙ infos_more files 0 0 (take i cs) x)

-- ---- methods are counted

infos_methods : (m : ℕ) (ms : List Member) → length (method_infos m ms) ≡ length ms
infos_methods m [] = refl
infos_methods m (x ∷ ms) = ap suc (infos_methods (m + 1) ms)

counted : (files : List ClassFile) (n f m : ℕ) (cs : List ClassFile) → length (owned_from (λ c. c.methods) n cs) ≡ sum_by (λ (k : ClassInfo). length k.methods) (class_infos files f m cs)
counted files n f m [] = refl
counted files n f m (c ∷ cs) =
    let own = length-map (c.methods) in
    length-append _ _ ∙ ap (λ k. k + length (owned_from (λ (d : ClassFile). d.methods) (n + 1) cs)) (own _ ∙ sym (infos_methods m c.methods))
    ∙ ap (λ k. length (method_infos m c.methods) + k) (counted files (n + 1) (f + length c.fields) (m + length c.methods) cs)
    ∙ sym (sum_by-cons (λ (k : ClassInfo). length k.methods) (class_info files f m c) (class_infos files (f + length c.fields) (m + length c.methods) cs))

pub methods_counted : (files : List ClassFile) → length (methods_of files) ≡ sum_by (λ (k : ClassInfo). length k.methods) (hierarchy_of files)
methods_counted files = counted files 0 0 0 (all_classes files)

-- ---- supertypes are classes of the program

all_contained : (P : ℕ → Type 0) (xs : List ℕ) (x : ℕ) → AllByRecursion P xs → Contains xs x → P x
all_contained P [] x all (k, inside, e) = absurd (omega arith)
all_contained P (y ∷ ys) x all (zero, inside, e) = subst P e all.0
all_contained P (y ∷ ys) x all (suc k, inside, e) = all_contained P ys x all.1 (k, omega arith, e)

all_both : (P : ℕ → Type 0) (xs ys : List ℕ) → AllByRecursion P xs → AllByRecursion P ys → AllByRecursion P (xs ++ ys)
all_both P [] ys a b = b
all_both P (x ∷ xs) ys a b = (a.0, all_both P xs ys a.1 b)

module _ (files : List ClassFile) where
  abbrev Inside : ℕ → Type 0
  Inside s = s < length (all_classes files)

  name_inside : (name : List ℕ) (k : ℕ) → number_named files name ≡ Some k → Inside k
  name_inside name k e = number_inside (λ (c : ClassFile). bytes_eq c.name name) k (all_classes files) e

  abbrev Numbers : List ClassId → Type 0
  Numbers ids = AllByRecursion Inside (map (λ (i : ClassId). i.0) ids)

  one_inside : (o : Option ℕ) (ids : List ClassId) → ((k : ℕ) → o ≡ Some k → Inside k) → Numbers ids → Numbers (cons_option (option_map class_id o) ids)
  one_inside None ids h all = all
  one_inside (Some k) ids h all = (h k refl, all)

  ids_inside : (names : List (List ℕ)) → Numbers (filter_map (id_named files) names)
  ids_inside [] = tt
  ids_inside (n ∷ ns) = one_inside (number_named files n) (filter_map (id_named files) ns) (name_inside n) (ids_inside ns)

  option_inside : (o : Option ℕ) → ((k : ℕ) → o ≡ Some k → Inside k) → AllByRecursion Inside (option_to_list (option_map (λ (i : ClassId). i.0) (option_map class_id o)))
  option_inside None h = tt
  option_inside (Some k) h = (h k refl, tt)

  above_inside : (super : Option (List ℕ)) → AllByRecursion Inside (option_to_list (option_map (λ (i : ClassId). i.0) (option_and_then (id_named files) super)))
  above_inside None = tt
  above_inside (Some name) = option_inside (number_named files name) (name_inside name)

  -- the direct supertypes of what stands at a place
  abbrev above_of : Option ClassInfo → List ℕ
  above_of o =
      option_map_or (λ (k : ClassInfo). map (λ (i : ClassId). i.0) k.interfaces) o []
      ++ option_to_list (option_and_then (λ (k : ClassInfo). option_map (λ (s : ClassId). s.0) k.super_id) o)

  infos_above : (f m : ℕ) (cs : List ClassFile) (n : ℕ) → AllByRecursion Inside (above_of (slice_get (class_infos files f m cs) n))
  infos_above f m [] n = tt
  infos_above f m (c ∷ cs) zero =
      all_both Inside (map (λ (i : ClassId). i.0) (filter_map (id_named files) c.interfaces)) (option_to_list (option_map (λ (i : ClassId). i.0) (option_and_then (id_named files) c.super_name)))
      (ids_inside c.interfaces) (above_inside c.super_name)
  infos_above f m (c ∷ cs) (suc n) = infos_above (f + length c.fields) (m + length c.methods) cs n

pub supertypes_inside : (files : List ClassFile) (c s : ℕ) → Contains (direct_supertypes (hierarchy_of files) c) s → s < length (hierarchy_of files)
supertypes_inside files c s up =
    subst (λ n. s < n) (sym (hierarchy_length files))
    (all_contained (λ k. k < length (all_classes files)) (direct_supertypes (hierarchy_of files) c) s (infos_above files 0 0 (all_classes files) c) up)

pub found_inside : (files : List ClassFile) (name : List ℕ) (o : Option ClassId) → option_map (λ (k : ClassId). k.0) o ≡ number_named files name → IfSome o (λ k. k.0 < length (hierarchy_of files))
found_inside files name None e = tt
found_inside files name (Some k) e = subst (λ n. k.0 < n) (sym (hierarchy_length files)) (name_inside files name k.0 (sym e))

-- ---- few enough

pub files_length : (files : List ClassFile) (h : List ClassInfo) → h ≡ hierarchy_of files → length h ≡ 11 + length files
files_length files h is =
    let built : length built_in_classes ≡ 11 = refl in
    ap length is ∙ hierarchy_length files ∙ length-append built_in_classes files ∙ ap (λ n. n + length files) built

pub few_files : (files : List ClassFile) (h : List ClassInfo) → h ≡ hierarchy_of files → length h < 2 ^ 32 → 11 + length files < 2 ^ 32
few_files files h is few = let same = files_length files h is in omega (arith, few, same)

abbrev pub method_sum : List ClassInfo → ℕ
method_sum h = sum_by (λ (k : ClassInfo). length k.methods) h

judged : (n : ℕ) → ((n ≤ MOST_METHODS) → nat_le n MOST_METHODS ≡ true) × ((MOST_METHODS < n) → nat_le n MOST_METHODS ≡ false)
judged n =
    elim (leb_tells n MOST_METHODS) [
      | inl few ↦ ((λ h. few.0), (λ h. absurd (let within = few.1 in omega (arith, within))))
      | inr many ↦ ((λ h. absurd (let beyond = many.1 in omega (arith, beyond))), (λ h. many.0))
    ]

pub few_methods : (files : List ClassFile) (h : List ClassInfo) → h ≡ hierarchy_of files → method_sum h ≤ MOST_METHODS → are_few files ≡ true
few_methods files h is few =
    let same = methods_counted files ∙ sym (ap method_sum is) in
    (judged (length (methods_of files))).0 (omega (arith, few, same))

pub many_methods : (files : List ClassFile) (h : List ClassInfo) → h ≡ hierarchy_of files → MOST_METHODS < method_sum h → are_few files ≡ false
many_methods files h is many =
    let same = methods_counted files ∙ sym (ap method_sum is) in
    (judged (length (methods_of files))).1 (omega (arith, many, same))

pub few_infos : (files : List ClassFile) (h : List ClassInfo) → h ≡ hierarchy_of files → AreNumbered files → length h < 2 ^ 32
few_infos files h is fit = let few = fit.classes in let same = ap length is ∙ hierarchy_length files in omega (arith, few, same)

-- ---- no cycles

pub acyclic_infos : (files : List ClassFile) (h : List ClassInfo) → h ≡ hierarchy_of files → ((c : ℕ) → StandsAbove h c c → ⊥) → IsAcyclic (hierarchy_of files)
acyclic_infos files h is none = record {
  in_range = supertypes_inside files;
  not_above_itself = λ c up. none c (subst (λ xs. StandsAbove xs c c) (sym is) up);
}

-- ---- what is asked of the hierarchy

pub asked : {X : Type 0} (F : List ClassInfo → List ℕ → List ℕ → X) (h k : List ClassInfo) (n m d e : List ℕ) (x : X) → x ≡ F k m e → k ≡ h → m ≡ n → e ≡ d → F h n d ≡ x
asked F h k n m d e x is hs ns ds = sym (is ∙ ap (λ q. F q m e) hs ∙ ap (λ q. F h q e) ns ∙ ap (F h n) ds)

pub not_both : {A : Type 0} (o : Option A) (x : A) → o ≡ Some x → o ≡ None → ⊥
not_both o x e f = absurd (let clash = sym e ∙ f in cc)
