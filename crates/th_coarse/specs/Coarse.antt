-- The coarse alarms of a program: the static fields and the Activity classes that stores and new objects
-- of reachable code may join, whatever flows where. All of it is this project's own.
use Rattle.std.specs.Prelude.{ℕ, ◌≡◌, ◌&&◌, ◌||◌, Bool, true, List, [], length, map, filter, filter_map, flat_map, codes, nat_le, Option, None}
use Rattle.std.specs.List.{range_with_len}
use Rattle.std.specs.Option.{option_map, option_map_or}
use Rattle.th_base.specs.declared.class.ClassInfo.{ClassInfo}
use Rattle.th_base.specs.declared.class.FieldInfo.{FieldInfo}
use Rattle.th_base.specs.IdSet.{has}
use Rattle.th_base.specs.ValueKinds.{is_reference}
use Rattle.th_syntax.specs.declared.cause.TheConstants as cause
use Rattle.th_syntax.specs.declared.class_file.ClassFile.{ClassFile}
use Rattle.th_syntax.specs.declared.class_file.Member.{Member}
use Rattle.th_syntax.specs.declared.instr.Instr.{Instr}
use Rattle.th_syntax.specs.declared.instr.Instr.TheVariants.{PutStatic, New}
use Rattle.th_syntax.specs.declared.refusal.Refusal.{Refusal}
use Rattle.th_syntax.specs.Facts.{IsStoredInto, IsMade}
use Rattle.th_syntax.specs.Fields.{field_resolved}
use Rattle.th_syntax.specs.Flow.{reached_code}
use Rattle.th_syntax.specs.Joined.{IsStaticReference}
use Rattle.th_syntax.specs.LinkChecks.{refusal_of}
use Rattle.th_syntax.specs.Program.{hierarchy_of, number_named, is_activity, is_launchable}
use Rattle.th_coarse.specs.declared.alarms.TheConstants.{MOST_ALARMS}

-- ---- which pairs are alarms

-- A static field of reference type to which a reachable `putstatic` resolves, and an Activity class that the
-- harness launches or that a reachable `new` names. The law `coarse_alarms_are_listed` says that these pairs are listed.
pub record IsCoarseAlarm (files : List ClassFile) (field class : ℕ) : Type 0 where
  pub is_field : IsStaticReference files field
  pub stored : IsStoredInto files field
  pub is_activity_class : is_activity files class ≡ true
  pub made : IsMade files class

-- ---- what reachable code stores into and makes

-- the field that a `putstatic` resolves to, by its number
abbrev pub stored_field : List ClassFile → Instr → Option ℕ
stored_field files (PutStatic r) = option_map (λ f. f.1.id.0) (field_resolved files r)
stored_field files other = None

-- the class that a `new` names, by its number
abbrev pub created_class : List ClassFile → Instr → Option ℕ
created_class files (New name) = number_named files name
created_class files other = None

-- the instructions of a method that are reached
abbrev pub reached_in : Member → List Instr
reached_in m = option_map_or (λ code. map (λ i. i.1) (reached_code code.instrs)) m.code []

-- those of all methods of the class files
abbrev pub reached_instrs : List ClassFile → List Instr
reached_instrs files = flat_map (λ c. flat_map reached_in c.methods) files

abbrev pub stored_fields : List ClassFile → List ℕ
stored_fields files = filter_map (stored_field files) (reached_instrs files)

abbrev pub created_classes : List ClassFile → List ℕ
created_classes files = filter_map (created_class files) (reached_instrs files)

-- ---- the alarms in order

-- a static field of reference type
abbrev pub is_static_reference : FieldInfo → Bool
is_static_reference f = f.is_static && is_reference f.descriptor

-- the fields of classes, in order
abbrev pub declared_fields : List ClassInfo → List FieldInfo
declared_fields classes = flat_map (λ k. k.fields) classes

-- the numbers of the static fields of reference type that are stored into, in order
abbrev pub alarming_fields : List ClassFile → List ℕ
alarming_fields files =
    map (λ f. f.id.0) (filter (λ f. is_static_reference f && has (stored_fields files) f.id.0) (declared_fields (hierarchy_of files)))

-- the Activity classes that are launched or made, in order
abbrev pub alarming_classes : List ClassFile → List ℕ
alarming_classes files =
    filter (λ c. is_activity files c && (is_launchable files c || has (created_classes files) c)) (range_with_len 0 (length (hierarchy_of files)))

-- each of the first numbers with each of the second
abbrev pub pairs_of : List ℕ → List ℕ → List (ℕ × ℕ)
pairs_of fields classes = flat_map (λ f. map (λ c. (f, c)) classes) fields

-- the coarse alarms, ascending by field and then by class
abbrev pub coarse_alarms : List ClassFile → List (ℕ × ℕ)
coarse_alarms files = pairs_of (alarming_fields files) (alarming_classes files)

-- ---- their limit

-- so many alarms are not too many
abbrev pub are_few : List (ℕ × ℕ) → Bool
are_few alarms = nat_le (length alarms) MOST_ALARMS

-- too many alarms lie in no class
abbrev pub alarms_refusal : Refusal
alarms_refusal = refusal_of cause.LIMIT [] (codes "alarms") 0
