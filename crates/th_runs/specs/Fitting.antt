-- Which slots and values are of which kind, and which objects have the shape of their class or type.
use Rattle.std.specs.Prelude.{ℕ, ℤ, ◌≡◌, ◌⊎◌, List, [], ◌∷◌, map, drop, reverse, Some, slice_get, ⊤, if◌then◌else◌}
use Rattle.std.specs.List.{AllByRecursion}
use Rattle.th_base.specs.ValueKinds.{is_reference, is_long}
use Rattle.th_base.specs.declared.number.FieldId.{FieldId}
use Rattle.th_syntax.specs.declared.class_file.ClassFile.{ClassFile}
use Rattle.th_syntax.specs.declared.kind.SlotKind.{SlotKind}
use Rattle.th_syntax.specs.declared.kind.SlotKind.TheVariants as kind
use Rattle.th_syntax.specs.declared.machine.Value.{Value}
use Rattle.th_syntax.specs.declared.machine.Value.TheVariants.{Int as IntValue, Long as LongValue, Null as NullValue, Address}
use Rattle.th_syntax.specs.declared.machine.Slot.{Slot}
use Rattle.th_syntax.specs.declared.machine.Slot.TheVariants.{Holds, SecondHalf}
use Rattle.th_syntax.specs.declared.machine.Object.{Object}
use Rattle.th_syntax.specs.declared.machine.Object.TheVariants.{Instance, Array}
use Rattle.th_syntax.specs.KindRows.{int, long, ref}
use Rattle.th_syntax.specs.Slots.{pushed}
use Rattle.th_syntax.specs.Program.{Owned, fields_of, hierarchy_of}
use Rattle.th_syntax.specs.Initial.{instance_fields}

-- ---- slots

-- a slot of a kind: an int, null or an address, a long or its second half. Of an unusable one nothing is known.
abbrev pub IsOfKind : SlotKind → Slot → Type 0
IsOfKind kind.Int slot = (n : ℤ) × (slot ≡ Holds (IntValue n))
IsOfKind kind.Ref slot = (slot ≡ Holds NullValue) ⊎ ((a : ℕ) × (slot ≡ Holds (Address a)))
IsOfKind kind.Long slot = (n : ℤ) × (slot ≡ Holds (LongValue n))
IsOfKind kind.SecondHalf slot = slot ≡ SecondHalf
IsOfKind kind.Unusable slot = ⊤

-- the slots are of these kinds, one each
abbrev pub AreOfKinds : List SlotKind → List Slot → Type 0
AreOfKinds [] [] = ⊤
AreOfKinds [] (s ∷ slots) = ⊥
AreOfKinds (k ∷ kinds) [] = ⊥
AreOfKinds (k ∷ kinds) (s ∷ slots) = IsOfKind k s × AreOfKinds kinds slots

-- ---- values

-- the slots of a value of this type, by its descriptor
abbrev pub type_slots : List ℕ → List SlotKind
type_slots descriptor = if is_reference descriptor then ref else if is_long descriptor then long else int

-- the value is of the kind of this type: its slots on a stack, the top first, are of these kinds
abbrev pub IsOfType : List ℕ → Value → Type 0
IsOfType descriptor v = AreOfKinds (reverse (type_slots descriptor)) (pushed v [])

-- the value of the field of a number is of the kind of the field's type
abbrev pub IsOfField : List ClassFile → ℕ → Value → Type 0
IsOfField files field v = (f : Owned) → slice_get (fields_of files) field ≡ Some f → IsOfType f.member.descriptor v

-- an object has the instance fields of its class and of those above, in order, with values of their kinds;
-- an array has elements of the kind of its type
abbrev pub IsShaped : List ClassFile → Object → Type 0
IsShaped files (Instance class fields) =
    (map (λ (f : FieldId × Value). f.0) fields ≡ map (λ f. f.id) (instance_fields (hierarchy_of files) class.0))
    × AllByRecursion (λ (f : FieldId × Value). IsOfField files f.0.0 f.1) fields
IsShaped files (Array descriptor elements) = AllByRecursion (IsOfType (drop 1 descriptor)) elements
