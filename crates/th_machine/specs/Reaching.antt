-- Private to the search for joined pairs: the static fields of reference type, and the Activity classes that a value leads to.
use Rattle.std.specs.Prelude.{ℕ, ◌≡◌, ◌&&◌, ◌↔◌, ◌++◌, Bool, true, List, filter, flat_map, map, Contains, Some, slice_get}
use Rattle.std.specs.Cmp.Lexicographic.{slice_cmp}
use Rattle.std.specs.List.Sorted.{IsStrictlySortedBy}
use Rattle.std.specs.Ordering.{nat_cmp}
use Rattle.th_base.specs.Launchable.{is_activity}
use Rattle.th_base.specs.ValueKinds.{is_reference}
use Rattle.th_base.specs.declared.class.ClassInfo.{ClassInfo}
use Rattle.th_base.specs.declared.class.FieldInfo.{FieldInfo}
use Rattle.th_base.specs.declared.number.ClassId.{ClassId}
use Rattle.th_base.specs.declared.number.FieldId.{FieldId}
use Rattle.th_syntax.specs.declared.class_file.ClassFile.{ClassFile}
use Rattle.th_syntax.specs.declared.machine.Object.{Object}
use Rattle.th_syntax.specs.declared.machine.State.{State}
use Rattle.th_syntax.specs.declared.machine.Value.{Value}
use Rattle.th_syntax.specs.Joined.{IsJoined, IsStaticReference}
use Rattle.th_syntax.specs.Program.{hierarchy_of}
use Rattle.th_machine.specs.Leading.{LeadsToClass}
use Rattle.th_machine.specs.Reached.{pair_key}

-- a static field of reference type, as the hierarchy knows it
abbrev pub is_static_reference : FieldInfo → Bool
is_static_reference f = f.is_static && is_reference f.descriptor

-- the static fields of reference type that classes declare, by their numbers in order
abbrev pub static_references : List ClassInfo → List ℕ
static_references classes = map (λ f. f.id.0) (filter is_static_reference (flat_map (λ k. k.fields) classes))

-- exactly the static fields of reference type, in order
pub record AreStaticReferences (files : List ClassFile) (fields : List ℕ) : Type 0 where
  pub exactly : (f : ℕ) → Contains fields f ↔ IsStaticReference files f
  pub ordered : IsStrictlySortedBy nat_cmp fields

-- a value leads to an object whose class is exactly this one, which is Activity or a subclass of it
pub record LeadsToActivity (hierarchy : List ClassInfo) (heap : List Object) (value : Value) (class : ℕ) : Type 0 where
  pub leads : LeadsToClass heap value class
  pub is_one : is_activity hierarchy class ≡ true

-- exactly the Activity classes to whose objects a value leads, in order
pub record AreActivitiesLed (hierarchy : List ClassInfo) (heap : List Object) (value : Value) (classes : List ℕ) : Type 0 where
  pub exactly : (c : ℕ) → Contains classes c ↔ LeadsToActivity hierarchy heap value c
  pub ordered : IsStrictlySortedBy nat_cmp classes

-- the value of a field leads to an object of this Activity class
pub record HoldsActivity (files : List ClassFile) (s : State) (field class : ℕ) : Type 0 where
  pub value : Value
  pub held : slice_get s.statics field ≡ Some value
  pub leads : LeadsToActivity (hierarchy_of files) s.heap value class

abbrev pub pair_of : ℕ → ℕ → FieldId × ClassId
pair_of field class = (record { 0 = field }, record { 0 = class })

-- behind the pairs stand now those of this field with the Activity classes that it leads to, in order
pub record IsFieldAdded (files : List ClassFile) (s : State) (field : ℕ) (old new : List (FieldId × ClassId)) : Type 0 where
  pub classes : List ℕ
  pub grown : new ≡ old ++ map (pair_of field) classes
  pub exactly : (c : ℕ) → Contains classes c ↔ HoldsActivity files s field c
  pub ordered : IsStrictlySortedBy nat_cmp classes

-- the joined pairs of these fields, in order
pub record AreJoinedOf (files : List ClassFile) (s : State) (fields : List ℕ) (pairs : List (FieldId × ClassId)) : Type 0 where
  pub of_these : (p : FieldId × ClassId) → Contains pairs p → Contains fields p.0.0
  pub found : (p : FieldId × ClassId) → Contains pairs p → IsJoined files s p.0.0 p.1.0
  pub all : (p : FieldId × ClassId) → Contains fields p.0.0 → IsJoined files s p.0.0 p.1.0 → Contains pairs p
  pub ordered : IsStrictlySortedBy (slice_cmp nat_cmp) (map pair_key pairs)
