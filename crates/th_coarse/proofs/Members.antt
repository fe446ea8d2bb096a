-- The fields of a program as the hierarchy lists them, and the reachable instructions of all methods.
use Rattle.std.proofs.Common.{◌≡◌, ℕ, zero, suc, ◌+◌, List, [], ◌∷◌, ◌++◌, Option, Some, map, length, refl, sym, ap, ◌∙◌, arith}
use Rattle.std.specs.Prelude.{slice_get, flat_map}
use Rattle.std.proofs.lemmas.List.{map-append}
use Rattle.std.proofs.lemmas.List.Concat.{flat_map-append}
use Rattle.th_base.specs.declared.class.FieldInfo.{FieldInfo}
use Rattle.th_syntax.specs.declared.class_file.ClassFile.{ClassFile}
use Rattle.th_syntax.specs.declared.class_file.Member.{Member}
use Rattle.th_syntax.specs.Program.{Owned, owned_from, fields_of, field_infos, class_infos, all_classes, hierarchy_of}
use Rattle.th_syntax.proofs.Inverting.{some_is}
use Rattle.th_runs.proofs.Declaring.{field_as}
use Rattle.th_coarse.specs.Coarse.{declared_fields}

-- the members of classes, without their owners
abbrev pub members_in : List Owned → List Member
members_in os = map (λ (o : Owned). o.member) os

same_members : (n : ℕ) (ms : List Member) → members_in (map (λ m. let o : Owned = record { owner = n; member = m } in o) ms) ≡ ms
same_members n [] = refl
same_members n (m ∷ ms) = ap (λ xs. m ∷ xs) (same_members n ms)

pub members_behind : (members : ClassFile → List Member) (n : ℕ) (c : ClassFile) (cs : List ClassFile)
    → members_in (owned_from members n (c ∷ cs)) ≡ members c ++ members_in (owned_from members (n + 1) cs)
members_behind members n c cs =
    map-append (λ (o : Owned). o.member) (map (λ m. let o : Owned = record { owner = n; member = m } in o) (members c)) (owned_from members (n + 1) cs)
    ∙ ap (λ xs. xs ++ members_in (owned_from members (n + 1) cs)) (same_members n (members c))

-- what a function gives along all members is what it gives class by class
pub flat_members : {B : Type 0} (f : Member → List B) (members : ClassFile → List Member) (n : ℕ) (cs : List ClassFile)
    → flat_map f (members_in (owned_from members n cs)) ≡ flat_map (λ c. flat_map f (members c)) cs
flat_members f members n [] = refl
flat_members f members n (c ∷ cs) =
    ap (flat_map f) (members_behind members n c cs)
    ∙ flat_map-append f (members c) (members_in (owned_from members (n + 1) cs))
    ∙ ap (λ ys. flat_map f (members c) ++ ys) (flat_members f members (n + 1) cs)

-- ---- fields

infos_behind : (n : ℕ) (ms ns : List Member) → field_infos n (ms ++ ns) ≡ field_infos n ms ++ field_infos (n + length ms) ns
infos_behind n [] ns = let e : n ≡ n + 0 = omega arith in ap (λ k. field_infos k ns) e
infos_behind n (m ∷ ms) ns =
    let e : (n + 1) + length ms ≡ n + suc (length ms) = omega arith in
    ap (λ fs. field_as n m ∷ fs) (infos_behind (n + 1) ms ns ∙ ap (λ k. field_infos (n + 1) ms ++ field_infos k ns) e)

pub fields_listed : (files : List ClassFile) (f m n : ℕ) (cs : List ClassFile)
    → declared_fields (class_infos files f m cs) ≡ field_infos f (members_in (owned_from (λ c. c.fields) n cs))
fields_listed files f m n [] = refl
fields_listed files f m n (c ∷ cs) =
    ap (λ fs. field_infos f c.fields ++ fs) (fields_listed files (f + length c.fields) (m + length c.methods) (n + 1) cs)
    ∙ sym (infos_behind f c.fields (members_in (owned_from (λ (x : ClassFile). x.fields) (n + 1) cs)))
    ∙ ap (field_infos f) (sym (members_behind (λ x. x.fields) n c cs))

pub info_at : (n : ℕ) (ms : List Member) (k : ℕ) (m : Member) → slice_get ms k ≡ Some m → slice_get (field_infos n ms) k ≡ Some (field_as (n + k) m)
info_at n [] k m e = absurd cc
info_at n (x ∷ ms) zero m e =
    let level : n ≡ n + 0 = omega arith in
    ap (λ (y : Member). let o : Option FieldInfo = Some (field_as n y) in o) (some_is x m e) ∙ ap (λ j. let o : Option FieldInfo = Some (field_as j m) in o) level
info_at n (x ∷ ms) (suc k) m e =
    let level : (n + 1) + k ≡ n + suc k = omega arith in
    info_at (n + 1) ms k m e ∙ ap (λ j. let o : Option FieldInfo = Some (field_as j m) in o) level

pub mapped_at : {A B : Type 0} (f : A → B) (xs : List A) (k : ℕ) (x : A) → slice_get xs k ≡ Some x → slice_get (map f xs) k ≡ Some (f x)
mapped_at f [] k x e = absurd cc
mapped_at f (y ∷ xs) zero x e = ap (λ z. Some (f z)) (some_is y x e)
mapped_at f (y ∷ xs) (suc k) x e = mapped_at f xs k x e

-- a field of the program is listed under its number
pub field_listed : (files : List ClassFile) (field : ℕ) (o : Owned) → slice_get (fields_of files) field ≡ Some o
    → slice_get (declared_fields (hierarchy_of files)) field ≡ Some (field_as field o.member)
field_listed files field o e =
    ap (λ fs. slice_get fs field) (fields_listed files 0 0 0 (all_classes files))
    ∙ info_at 0 (members_in (fields_of files)) field o.member (mapped_at (λ (x : Owned). x.member) (fields_of files) field o e)
    ∙ (let level : 0 + field ≡ field = omega arith in ap (λ j. let x : Option FieldInfo = Some (field_as j o.member) in x) level)
