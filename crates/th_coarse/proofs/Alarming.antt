-- Coarse alarms are listed.
use Rattle.std.proofs.Common.{◌≡◌, ◌↔◌, ℕ, suc, ◌+◌, ◌<◌, ◌==◌, ◌&&◌, ◌||◌, inl, inr, true, List, [], ◌∷◌, Option, Some, map, length, refl, sym, ap, subst, ◌∙◌, arith}
use Rattle.std.specs.Prelude.{nat_le, slice_get, Contains, filter, filter_map, flat_map, find}
use Rattle.std.specs.List.{range_with_len}
use Rattle.std.specs.Option.{option_map, option_map_or}
use Rattle.std.specs.Str.{bytes_eq}
use Rattle.std.proofs.lemmas.Bool.{and_from, eqb-true, or_left, or_right}
use Rattle.std.proofs.lemmas.Option.{slice_get_within}
use Rattle.th_base.specs.declared.built_in.TheConstants.{BUILT_IN_COUNT}
use Rattle.th_base.specs.declared.class.FieldInfo.{FieldInfo}
use Rattle.th_base.specs.IdSet.{has}
use Rattle.th_base.specs.Launchable.{can_be_made}
use Rattle.th_base.specs.ValueKinds.{is_reference}
use Rattle.th_syntax.specs.declared.class_file.ClassFile.{ClassFile}
use Rattle.th_syntax.specs.declared.class_file.Code.{Code}
use Rattle.th_syntax.specs.declared.instr.Instr.{Instr}
use Rattle.th_syntax.specs.declared.instr.Instr.TheVariants.{PutStatic, New}
use Rattle.th_syntax.specs.Facts.{IsReachedInstr, IsStoredInto, IsCreated, IsMade}
use Rattle.th_syntax.specs.Flow.{IsReached, is_reached, reached_code, reached_offsets}
use Rattle.th_syntax.specs.Joined.{IsStaticReference}
use Rattle.th_syntax.specs.Program.{Owned, all_classes, code_of, methods_of, hierarchy_of, class_infos, is_activity, is_launchable}
use Rattle.th_syntax.proofs.Inverting.{some_is, and_then_some, map_some, map_or_true, both}
use Rattle.th_runs.proofs.Addressed.{at_position}
use Rattle.th_runs.proofs.Declaring.{field_as}
use Rattle.th_coarse.specs.Coarse.{IsCoarseAlarm, stored_field, created_class, reached_in, reached_instrs, stored_fields, created_classes, is_static_reference, declared_fields, alarming_fields, alarming_classes, coarse_alarms}
use Rattle.th_coarse.proofs.Listed.{In, in_at, contained, in_map, in_flat, in_filter, in_filter_map, has_in, in_range, found_in}
use Rattle.th_coarse.proofs.Members.{members_in, flat_members, field_listed, mapped_at}

-- the paths of a code are found
abbrev pub Finds : Type 0
Finds = (instrs : List (ℕ × Instr)) (offset : ℕ) → (is_reached instrs offset ≡ true) ↔ IsReached instrs offset

-- ---- reachable instructions

in_code : Finds → (instrs : List (ℕ × Instr)) (offset : ℕ) (i : Instr) → option_map (λ x. x.1) (find (λ x. x.0 == offset) instrs) ≡ Some i → IsReached instrs offset → In i (map (λ x. x.1) (reached_code instrs))
in_code finds instrs offset i stands reached =
    let placed = map_some (λ (x : ℕ × Instr). x.1) (find (λ x. x.0 == offset) instrs) i stands in
    let found = found_in (λ (x : ℕ × Instr). x.0 == offset) instrs placed.0 placed.1 in
    let at : placed.0.0 ≡ offset = eqb-true placed.0.0 offset found.1 in
    let kept : has (reached_offsets instrs) placed.0.0 ≡ true = ap (is_reached instrs) at ∙ (finds instrs offset).1 reached in
    subst (λ j. In j (map (λ x. x.1) (reached_code instrs))) placed.2
    (in_map (λ (x : ℕ × Instr). x.1) placed.0 (reached_code instrs) (in_filter (λ (x : ℕ × Instr). has (reached_offsets instrs) x.0) placed.0 instrs found.0 kept))

-- a reachable instruction is among those of all methods, the built-in ones' too
pub is_listed : Finds → (files : List ClassFile) (i : Instr) → IsReachedInstr files i → In i (reached_instrs (all_classes files))
is_listed finds files i r =
    let code = and_then_some (λ (code : Code). option_map (λ x. x.1) (find (λ x. x.0 == r.offset) code.instrs)) (code_of files r.method) i r.stands in
    let owned = and_then_some (λ (m : Owned). m.member.code) (slice_get (methods_of files) r.method) code.0 code.1 in
    let same : r.reached.code ≡ code.0 = some_is r.reached.code code.0 (sym r.reached.is_code ∙ code.1) in
    let inside : In i (map (λ x. x.1) (reached_code code.0.instrs)) = in_code finds code.0.instrs r.offset i code.2 (subst (λ (c : Code). IsReached c.instrs r.offset) same r.reached.reached) in
    let here : In i (reached_in owned.0.member) = subst (λ (o : Option Code). In i (option_map_or (λ c. map (λ x. x.1) (reached_code c.instrs)) o [])) (sym owned.2) inside in
    let there : In i (flat_map reached_in (members_in (methods_of files))) =
    in_flat reached_in owned.0.member i (members_in (methods_of files)) (in_at (members_in (methods_of files)) r.method owned.0.member (mapped_at (λ (o : Owned). o.member) (methods_of files) r.method owned.0 owned.1)) here in
    subst (In i) (flat_members reached_in (λ c. c.methods) 0 (all_classes files)) there

-- built-in code stores nothing and makes nothing
stores_too : (files : List ClassFile) → filter_map (stored_field files) (reached_instrs (all_classes files)) ≡ stored_fields files
stores_too files = refl

creates_too : (files : List ClassFile) → filter_map (created_class files) (reached_instrs (all_classes files)) ≡ created_classes files
creates_too files = refl

pub is_stored : Finds → (files : List ClassFile) (field : ℕ) → IsStoredInto files field → has (stored_fields files) field ≡ true
is_stored finds files field stored =
    let number : stored_field files (PutStatic stored.reference) ≡ Some field =
    ap (option_map (λ (f : ℕ × FieldInfo). f.1.id.0)) stored.resolves ∙ ap (λ n. let o : Option ℕ = Some n in o) stored.numbered in
    has_in field (stored_fields files) (subst (In field) (stores_too files)
    (in_filter_map (stored_field files) (PutStatic stored.reference) field (reached_instrs (all_classes files)) (is_listed finds files (PutStatic stored.reference) stored.stored) number))

pub is_created : Finds → (files : List ClassFile) (class : ℕ) → IsCreated files class → has (created_classes files) class ≡ true
is_created finds files class created =
    has_in class (created_classes files) (subst (In class) (creates_too files)
    (in_filter_map (created_class files) (New created.name) class (reached_instrs (all_classes files)) (is_listed finds files (New created.name) created.created) created.names))

-- ---- fields and classes

pub field_in : Finds → (files : List ClassFile) (field : ℕ) → IsStaticReference files field → IsStoredInto files field → In field (alarming_fields files)
field_in finds files field is stored =
    let info : FieldInfo = field_as field is.declared.member in
    let passes : (is_static_reference info && has (stored_fields files) field) ≡ true =
    and_from (is_static_reference info) (has (stored_fields files) field) (and_from _ (is_reference is.declared.member.descriptor) is.static_one is.reference) (is_stored finds files field stored) in
    in_map (λ (f : FieldInfo). f.id.0) info (filter (λ (f : FieldInfo). is_static_reference f && has (stored_fields files) f.id.0) (declared_fields (hierarchy_of files)))
    (in_filter (λ (f : FieldInfo). is_static_reference f && has (stored_fields files) f.id.0) info (declared_fields (hierarchy_of files))
    (in_at (declared_fields (hierarchy_of files)) field info (field_listed files field is.declared is.numbered)) passes)

infos_count : (files : List ClassFile) (f m : ℕ) (cs : List ClassFile) → length (class_infos files f m cs) ≡ length cs
infos_count files f m [] = refl
infos_count files f m (c ∷ cs) = ap suc (infos_count files (f + length c.fields) (m + length c.methods) cs)

launched_within : (files : List ClassFile) (class : ℕ) → is_launchable files class ≡ true → class < length (hierarchy_of files)
launched_within files class launched =
    let from_file = both (nat_le BUILT_IN_COUNT class) _ launched in
    let activity = both (is_activity files class) _ from_file.1 in
    let info = map_or_true can_be_made (slice_get (hierarchy_of files) class) activity.1 in
    slice_get_within (hierarchy_of files) class info.0 info.1

created_within : (files : List ClassFile) (class : ℕ) → IsCreated files class → class < length (hierarchy_of files)
created_within files class created =
    let found = at_position (λ (c : ClassFile). bytes_eq c.name created.name) 0 class (all_classes files) created.names in
    let same : found.0 ≡ class = let level = found.1 in omega (arith, level) in
    subst (λ n. class < n) (sym (infos_count files 0 0 (all_classes files))) (subst (λ k. k < length (all_classes files)) same (slice_get_within (all_classes files) found.0 found.2 found.3))

class_listed : (files : List ClassFile) (class : ℕ) → class < length (hierarchy_of files) → is_activity files class ≡ true
    → (is_launchable files class || has (created_classes files) class) ≡ true → In class (alarming_classes files)
class_listed files class within activity made =
    in_filter (λ (c : ℕ). is_activity files c && (is_launchable files c || has (created_classes files) c)) class (range_with_len 0 (length (hierarchy_of files)))
    (subst (λ c. In c (range_with_len 0 (length (hierarchy_of files)))) (let e : 0 + class ≡ class = omega arith in e) (in_range 0 (length (hierarchy_of files)) class within))
    (and_from (is_activity files class) (is_launchable files class || has (created_classes files) class) activity made)

pub class_in : Finds → (files : List ClassFile) (class : ℕ) → is_activity files class ≡ true → IsMade files class → In class (alarming_classes files)
class_in finds files class activity (inl launched) =
    class_listed files class (launched_within files class launched) activity (or_left (is_launchable files class) (has (created_classes files) class) launched)
class_in finds files class activity (inr created) =
    class_listed files class (created_within files class created) activity (or_right (is_launchable files class) (has (created_classes files) class) (is_created finds files class created))

pub alarm_listed : Finds → (files : List ClassFile) (field class : ℕ) → IsCoarseAlarm files field class → Contains (coarse_alarms files) (field, class)
alarm_listed finds files field class alarm =
    contained (field, class) (coarse_alarms files)
    (in_flat (λ (f : ℕ). map (λ (c : ℕ). let p : ℕ × ℕ = (f, c) in p) (alarming_classes files)) field (field, class) (alarming_fields files)
    (field_in finds files field alarm.is_field alarm.stored)
    (in_map (λ (c : ℕ). let p : ℕ × ℕ = (field, c) in p) class (alarming_classes files) (class_in finds files class alarm.is_activity_class alarm.made)))
