-- Files whose names and supertypes are in order, and the first refusal of others.
use Rattle.std.proofs.Common.{Result, Ok, Err, ◌≡◌, ℕ, suc, ◌+◌, ◌<◌, ◌≤◌, List, [], ◌∷◌, ◌++◌, length, take, drop, Some, refl, sym, ap, subst, ◌∙◌, arith}
use Rattle.std.specs.Prelude.{slice_get, IfOk}
use Rattle.th_base.specs.declared.fail.Fail.{Fail}
use Rattle.th_base.specs.declared.fail.Fail.TheVariants.{Refused, NoMemory}
use Rattle.th_base.specs.declared.class.ClassInfo.{ClassInfo}
use Rattle.th_base.specs.Cycles.{IsFirstCycle}
use Rattle.th_base.specs.Hierarchy.{IsAcyclic}
use Rattle.th_syntax.specs.declared.class_file.ClassFile.{ClassFile}
use Rattle.th_syntax.specs.declared.refusal.Refusal.{Refusal}
use Rattle.th_syntax.specs.LinkChecks.{name_refusals, supertype_refusals, cycle_refusal, member_refusals, use_refusals}
use Rattle.th_syntax.specs.Linking.{AreOrdered, IsFirstRefusal, by_name, by_supertype, by_cycle, by_member, by_use}
use Rattle.th_syntax.specs.Program.{built_in_classes, all_classes, hierarchy_of}
use Rattle.th_linker.specs.Checking.{Refuses, OnRefused, IfRefused}

told : (fail : Fail Refusal) (found : List Refusal) (P : Refusal → Type 0) → ((r : Refusal) → slice_get found 0 ≡ Some r → P r) → Refuses fail found → OnRefused fail P
told (Refused r) found P h e = h r e
told NoMemory found P h e = tt

pub names_refuse : (files : List ClassFile) (fail : Fail Refusal) → Refuses fail (name_refusals files) → OnRefused fail (IsFirstRefusal files)
names_refuse files fail e = told fail (name_refusals files) (IsFirstRefusal files) (λ r h. by_name h) e

pub supertypes_refuse : (files : List ClassFile) (fail : Fail Refusal) → name_refusals files ≡ [] → Refuses fail (supertype_refusals files) → OnRefused fail (IsFirstRefusal files)
supertypes_refuse files fail names e = told fail (supertype_refusals files) (IsFirstRefusal files) (λ r h. by_supertype names h) e

pub members_refuse : (files : List ClassFile) (fail : Fail Refusal) → AreOrdered files → Refuses fail (member_refusals files) → OnRefused fail (IsFirstRefusal files)
members_refuse files fail ordered e = told fail (member_refusals files) (IsFirstRefusal files) (λ r h. by_member ordered h) e

pub uses_refuse : (files : List ClassFile) (fail : Fail Refusal) → AreOrdered files → member_refusals files ≡ [] → Refuses fail (use_refusals files) → OnRefused fail (IsFirstRefusal files)
uses_refuse files fail ordered members e = told fail (use_refusals files) (IsFirstRefusal files) (λ r h. by_use ordered members h) e

-- a hierarchy without cycles is in order, and the first class on a cycle is refused
pub hierarchy_ordered : (files : List ClassFile) (r : Result (List ClassInfo) (Fail Refusal)) → name_refusals files ≡ [] → supertype_refusals files ≡ []
    → IfOk r (λ h. h ≡ hierarchy_of files) → IfOk r (λ h. IsAcyclic (hierarchy_of files)) → IfOk r (λ h. (h ≡ hierarchy_of files) × AreOrdered files)
hierarchy_ordered files (Ok h) names supertypes value acyclic = (value, record { names = names; supertypes = supertypes; acyclic = acyclic })
hierarchy_ordered files (Err fail) names supertypes value acyclic = tt

pub hierarchy_refused : (files : List ClassFile) (r : Result (List ClassInfo) (Fail Refusal)) → name_refusals files ≡ [] → supertype_refusals files ≡ []
    → IfRefused r (λ q. (c s : ℕ) × IsFirstCycle (hierarchy_of files) c s × (q ≡ cycle_refusal files c s)) → IfRefused r (IsFirstRefusal files)
hierarchy_refused files (Ok h) names supertypes told = tt
hierarchy_refused files (Err (Refused q)) names supertypes (c, s, cycle, is) = by_cycle names supertypes c s cycle is
hierarchy_refused files (Err NoMemory) names supertypes told = tt

-- ---- the files behind the built-in classes

pub behind_built_in : (files : List ClassFile) → drop 11 (all_classes files) ≡ files
behind_built_in files = refl

at_behind : {A : Type 0} (xs ys : List A) (j : ℕ) → slice_get (xs ++ ys) (length xs + j) ≡ slice_get ys j
at_behind [] ys j = let e : 0 + j ≡ j = omega arith in ap (slice_get ys) e
at_behind (x ∷ xs) ys j =
    let e : length (x ∷ xs) + j ≡ suc (length xs + j) = omega arith in
    ap (slice_get (x ∷ (xs ++ ys))) e ∙ at_behind xs ys j

pub file_at : (files : List ClassFile) (j : ℕ) → slice_get (all_classes files) (11 + j) ≡ slice_get files j
file_at files j = at_behind built_in_classes files j
