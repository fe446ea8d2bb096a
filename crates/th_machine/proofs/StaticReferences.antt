-- The static fields of reference type, as the hierarchy lists them.
use Rattle.std.proofs.Common.{◌≡◌, ℕ, zero, suc, ◌+◌, ◌<◌, Bool, true, false, cond, ◌&&◌, List, [], ◌∷◌, ◌++◌, Option, Some, map, length, refl, sym, ap, subst, ◌∙◌, arith}
use Rattle.std.specs.Prelude.{slice_get, filter, flat_map, Contains}
use Rattle.std.specs.List.Sorted.{IsStrictlySortedBy}
use Rattle.std.specs.Ordering.{nat_cmp}
use Rattle.std.specs.declared.cmp.Ordering.TheVariants.{Less}
use Rattle.std.proofs.lemmas.List.{map-append}
use Rattle.std.proofs.lemmas.List.Elements.{filter-append}
use Rattle.th_base.specs.ValueKinds.{is_reference}
use Rattle.th_base.specs.declared.class.ClassInfo.{ClassInfo}
use Rattle.th_base.specs.declared.class.FieldInfo.{FieldInfo}
use Rattle.th_syntax.specs.declared.class_file.ClassFile.{ClassFile}
use Rattle.th_syntax.specs.declared.class_file.Member.{Member}
use Rattle.th_syntax.specs.Flags.{is_static}
use Rattle.th_syntax.specs.Joined.{IsStaticReference}
use Rattle.th_syntax.specs.Program.{Owned, owned_from, fields_of, field_infos, class_infos, all_classes, hierarchy_of}
use Rattle.th_syntax.proofs.Inverting.{some_is, both}
use Rattle.th_runs.proofs.Declaring.{at_index, contains_at, field_as}
use Rattle.th_machine.specs.Reaching.{AreStaticReferences, is_static_reference, static_references}
use Rattle.th_machine.proofs.Contained.{all_of, kept, of_kept, mapped, of_mapped}

-- ---- the fields of a program as the hierarchy lists them

-- the members of classes, without their owners
abbrev members_in : List Owned → List Member
members_in os = map (λ (o : Owned). o.member) os

same_members : (n : ℕ) (ms : List Member) → members_in (map (λ m. let o : Owned = record { owner = n; member = m } in o) ms) ≡ ms
same_members n [] = refl
same_members n (m ∷ ms) = ap (λ xs. m ∷ xs) (same_members n ms)

members_behind : (n : ℕ) (c : ClassFile) (cs : List ClassFile)
    → members_in (owned_from (λ x. x.fields) n (c ∷ cs)) ≡ c.fields ++ members_in (owned_from (λ x. x.fields) (n + 1) cs)
members_behind n c cs =
    map-append (λ (o : Owned). o.member) (map (λ m. let o : Owned = record { owner = n; member = m } in o) c.fields) (owned_from (λ x. x.fields) (n + 1) cs)
    ∙ ap (λ xs. xs ++ members_in (owned_from (λ x. x.fields) (n + 1) cs)) (same_members n c.fields)

infos_behind : (n : ℕ) (ms ns : List Member) → field_infos n (ms ++ ns) ≡ field_infos n ms ++ field_infos (n + length ms) ns
infos_behind n [] ns = let e : n ≡ n + 0 = omega arith in ap (λ k. field_infos k ns) e
infos_behind n (m ∷ ms) ns =
    let e : (n + 1) + length ms ≡ n + suc (length ms) = omega arith in
    ap (λ fs. field_as n m ∷ fs) (infos_behind (n + 1) ms ns ∙ ap (λ k. field_infos (n + 1) ms ++ field_infos k ns) e)

fields_listed : (files : List ClassFile) (f m n : ℕ) (cs : List ClassFile)
    → flat_map (λ k. k.fields) (class_infos files f m cs) ≡ field_infos f (members_in (owned_from (λ c. c.fields) n cs))
fields_listed files f m n [] = refl
fields_listed files f m n (c ∷ cs) =
    ap (λ fs. field_infos f c.fields ++ fs) (fields_listed files (f + length c.fields) (m + length c.methods) (n + 1) cs)
    ∙ sym (infos_behind f c.fields (members_in (owned_from (λ (x : ClassFile). x.fields) (n + 1) cs)))
    ∙ ap (field_infos f) (sym (members_behind n c cs))

-- a member stands under its number
info_at : (n : ℕ) (ms : List Member) (k : ℕ) (m : Member) → slice_get ms k ≡ Some m → slice_get (field_infos n ms) k ≡ Some (field_as (n + k) m)
info_at n [] k m e = absurd cc
info_at n (x ∷ ms) zero m e =
    let level : n ≡ n + 0 = omega arith in
    ap (λ (y : Member). let o : Option FieldInfo = Some (field_as n y) in o) (some_is x m e) ∙ ap (λ j. let o : Option FieldInfo = Some (field_as j m) in o) level
info_at n (x ∷ ms) (suc k) m e =
    let level : (n + 1) + k ≡ n + suc k = omega arith in
    info_at (n + 1) ms k m e ∙ ap (λ j. let o : Option FieldInfo = Some (field_as j m) in o) level

of_info : (n : ℕ) (ms : List Member) (k : ℕ) (f : FieldInfo) → slice_get (field_infos n ms) k ≡ Some f → (m : Member) × (slice_get ms k ≡ Some m) × (field_as (n + k) m ≡ f)
of_info n [] k f e = absurd cc
of_info n (x ∷ ms) zero f e = let level : n + 0 ≡ n = omega arith in (x, refl, ap (λ j. field_as j x) level ∙ some_is (field_as n x) f e)
of_info n (x ∷ ms) (suc k) f e =
    let rest = of_info (n + 1) ms k f e in let level : n + suc k ≡ (n + 1) + k = omega arith in
    (rest.0, rest.1, ap (λ j. field_as j rest.0) level ∙ rest.2)

member_at : (os : List Owned) (k : ℕ) (o : Owned) → slice_get os k ≡ Some o → slice_get (members_in os) k ≡ Some o.member
member_at [] k o e = absurd cc
member_at (x ∷ os) zero o e = ap (λ (y : Owned). let p : Option Member = Some y.member in p) (some_is x o e)
member_at (x ∷ os) (suc k) o e = member_at os k o e

of_member : (os : List Owned) (k : ℕ) (m : Member) → slice_get (members_in os) k ≡ Some m → (o : Owned) × (slice_get os k ≡ Some o) × (o.member ≡ m)
of_member [] k m e = absurd cc
of_member (x ∷ os) zero m e = (x, refl, some_is x.member m e)
of_member (x ∷ os) (suc k) m e = of_member os k m e

-- ---- those that are static and of reference type

-- by their numbers, where the first member has this number
abbrev numbers_from : ℕ → List Member → List ℕ
numbers_from n ms = map (λ f. f.id.0) (filter is_static_reference (field_infos n ms))

record IsReferenceAt (n : ℕ) (ms : List Member) (number : ℕ) : Type 0 where
  place : ℕ
  member : Member
  stands : slice_get ms place ≡ Some member
  static_one : is_static member ≡ true
  reference : is_reference member.descriptor ≡ true
  numbered : n + place ≡ number

reference_at : (n : ℕ) (ms : List Member) (number : ℕ) → Contains (numbers_from n ms) number → IsReferenceAt n ms number
reference_at n ms number c =
    let found = of_mapped (λ (f : FieldInfo). f.id.0) (filter is_static_reference (field_infos n ms)) number c in
    let passed = of_kept is_static_reference (field_infos n ms) found.0 found.1 in
    let there = at_index (field_infos n ms) found.0 passed.0 in
    let info = of_info n ms there.0 found.0 there.1 in
    let tests = both (is_static info.0) (is_reference info.0.descriptor) (ap is_static_reference info.2 ∙ passed.1) in
    record {
      place = there.0;
      member = info.0;
      stands = info.1;
      static_one = tests.0;
      reference = tests.1;
      numbered = ap (λ (f : FieldInfo). f.id.0) info.2 ∙ found.2;
    }

nat_less : (a b : ℕ) → a < b → nat_cmp a b ≡ Less
nat_less a b h = grind arith

later_numbers : (n : ℕ) (ms : List Member) (x : ℕ) → Contains (numbers_from (n + 1) ms) x → nat_cmp n x ≡ Less
later_numbers n ms x c = let at = reference_at (n + 1) ms x c in let numbered = at.numbered in nat_less n x (omega (arith, numbered))

ascend_by : (n : ℕ) (m : Member) (ms : List Member) (b : Bool) → IsStrictlySortedBy nat_cmp (numbers_from (n + 1) ms)
    → IsStrictlySortedBy nat_cmp (map (λ f. f.id.0) (cond b (field_as n m ∷ filter is_static_reference (field_infos (n + 1) ms)) (filter is_static_reference (field_infos (n + 1) ms))))
unfolding IsStrictlySortedBy
ascend_by n m ms true rest = (all_of (λ y. nat_cmp n y ≡ Less) (numbers_from (n + 1) ms) (later_numbers n ms), rest)
ascend_by n m ms false rest = rest

numbers_ascend : (n : ℕ) (ms : List Member) → IsStrictlySortedBy nat_cmp (numbers_from n ms)
unfolding IsStrictlySortedBy
numbers_ascend n [] = tt
numbers_ascend n (m ∷ ms) = ascend_by n m ms (is_static_reference (field_as n m)) (numbers_ascend (n + 1) ms)

is_reference_at : (files : List ClassFile) (f : ℕ) → IsReferenceAt 0 (members_in (fields_of files)) f → IsStaticReference files f
is_reference_at files f at =
    let owned = of_member (fields_of files) at.place at.member at.stands in
    let level : at.place ≡ f = let numbered = at.numbered in omega (arith, numbered) in
    record {
      declared = owned.0;
      numbered = ap (slice_get (fields_of files)) (sym level) ∙ owned.1;
      static_one = ap is_static owned.2 ∙ at.static_one;
      reference = ap (λ (m : Member). is_reference m.descriptor) owned.2 ∙ at.reference;
    }

both_true : (a b : Bool) → a ≡ true → b ≡ true → (a && b) ≡ true
both_true true b one two = two
both_true false b one two = absurd cc

is_listed : (files : List ClassFile) (f : ℕ) → IsStaticReference files f → Contains (numbers_from 0 (members_in (fields_of files))) f
is_listed files f is =
    let ms = members_in (fields_of files) in
    let info = field_as (0 + f) is.declared.member in
    let there = contains_at (field_infos 0 ms) f info (info_at 0 ms f is.declared.member (member_at (fields_of files) f is.declared is.numbered)) in
    let passes = both_true (is_static is.declared.member) (is_reference is.declared.member.descriptor) is.static_one is.reference in
    let level : 0 + f ≡ f = omega arith in
    subst (Contains (numbers_from 0 ms)) level (mapped (λ (g : FieldInfo). g.id.0) (filter is_static_reference (field_infos 0 ms)) info (kept is_static_reference (field_infos 0 ms) info there passes))

-- what the hierarchy lists is exactly the static fields of reference type
pub references_are : (files : List ClassFile) (classes : List ClassInfo) (fields : List ℕ) → classes ≡ hierarchy_of files → fields ≡ static_references classes → AreStaticReferences files fields
references_are files classes fields known e =
    let listed : fields ≡ numbers_from 0 (members_in (fields_of files)) =
    e ∙ ap static_references known ∙ ap (λ fs. map (λ (f : FieldInfo). f.id.0) (filter is_static_reference fs)) (fields_listed files 0 0 0 (all_classes files)) in
    subst (AreStaticReferences files) (sym listed) record {
      exactly = λ f. (λ c. is_reference_at files f (reference_at 0 (members_in (fields_of files)) f c), is_listed files f);
      ordered = numbers_ascend 0 (members_in (fields_of files));
    }

-- class by class, and all of them in one list
pub in_one : (classes : List ClassInfo) → flat_map (λ k. map (λ f. f.id.0) (filter is_static_reference k.fields)) classes ≡ static_references classes
in_one [] = refl
in_one (k ∷ ks) =
    ap (λ ys. map (λ (f : FieldInfo). f.id.0) (filter is_static_reference k.fields) ++ ys) (in_one ks)
    ∙ sym (ap (map (λ f. f.id.0)) (filter-append is_static_reference k.fields (flat_map (λ (j : ClassInfo). j.fields) ks))
    ∙ map-append (λ (f : FieldInfo). f.id.0) (filter is_static_reference k.fields) (filter is_static_reference (flat_map (λ (j : ClassInfo). j.fields) ks)))
