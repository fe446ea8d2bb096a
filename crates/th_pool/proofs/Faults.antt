-- What is wrong with a descriptor, as the numbers of the checks that fail.
use Rattle.std.proofs.Common.{◌≡◌, ℕ, Bool, true, false, cond, not, List, [], ◌∷◌, Result, Ok, Err, refl, sym, ap, ◌∙◌}
use Rattle.std.specs.Prelude.{Option, Some, None}
use Rattle.std.specs.Option.{option_map}
use Rattle.std.specs.Str.{byte}
use Rattle.th_syntax.specs.declared.cause.TheConstants as cause
use Rattle.th_syntax.specs.Flaws.{unless}
use Rattle.th_syntax.specs.WellFormed.{is_class_name}
use Rattle.th_syntax.specs.Descriptors.{FieldType, MethodType, is_floating, is_floating_method, alone, type_at, field_type_of, method_type_of}
use Rattle.th_syntax.specs.CodeBytes.{type_numbers, method_type_numbers, class_or_array_numbers}
use Rattle.th_pool.specs.declared.descriptor.ParsedType.{ParsedType}
use Rattle.th_pool.specs.declared.shape.DescriptorFault.{DescriptorFault}
use Rattle.th_pool.specs.declared.shape.DescriptorFault.TheVariants.{Form, FloatType}
use Rattle.th_pool.specs.declared.shape.FieldShape.{FieldShape}
use Rattle.th_pool.specs.declared.shape.MethodShape.{MethodShape}
use Rattle.th_pool.specs.Shapes.{slot_of, field_shape, shape_of, method_shape}
use Rattle.th_pool.specs.Params.{field_answer}
use Rattle.th_pool.specs.Types.{type_seen}
use Rattle.th_pool.specs.Texts.{fault_numbers, has_front}
use Rattle.th_pool.proofs.Methods.{field_is}

-- the fault that a shape is refused for
abbrev pub fault_of : {A : Type 0} → Result A DescriptorFault → Option DescriptorFault
fault_of (Ok x) = None
fault_of (Err fault) = Some fault

floating_numbers : {A : Type 0} (b : Bool) (shape : A) → fault_numbers (fault_of (cond b (Err FloatType) (Ok shape))) ≡ unless (not b) cause.FLOAT_TYPE
floating_numbers true shape = refl
floating_numbers false shape = refl

-- ---- fields

field_numbers : (o : Option FieldType) → fault_numbers (fault_of (field_shape o)) ≡ type_numbers o
field_numbers None = refl
field_numbers (Some type) = let shape : FieldShape = record { slot = slot_of type } in floating_numbers (is_floating type) shape

field_answers : (bytes : List ℕ) (answer : Result FieldShape DescriptorFault) → answer ≡ field_answer (option_map type_seen (alone (type_at bytes))) → fault_numbers (fault_of answer) ≡ type_numbers (field_type_of bytes)
field_answers bytes answer e = ap (λ (r : Result FieldShape DescriptorFault). fault_numbers (fault_of r)) (e ∙ sym (field_is bytes)) ∙ field_numbers (field_type_of bytes)

pub field_passes : (bytes : List ℕ) (found : Option ParsedType) (shape : FieldShape) → found ≡ option_map type_seen (alone (type_at bytes)) → Ok shape ≡ field_answer found → fault_numbers None ≡ type_numbers (field_type_of bytes)
field_passes bytes found shape is e = field_answers bytes (Ok shape) (e ∙ ap field_answer is)

pub field_refused : (bytes : List ℕ) (found : Option ParsedType) (fault : DescriptorFault) → found ≡ option_map type_seen (alone (type_at bytes)) → Err fault ≡ field_answer found → fault_numbers (Some fault) ≡ type_numbers (field_type_of bytes)
field_refused bytes found fault is e = field_answers bytes (Err fault) (e ∙ ap field_answer is)

-- ---- methods

method_numbers : (o : Option MethodType) → fault_numbers (fault_of (method_shape o)) ≡ method_type_numbers o
method_numbers None = refl
method_numbers (Some m) = floating_numbers (is_floating_method m) (shape_of m)

pub method_passes : (bytes : List ℕ) (shape : MethodShape) → method_shape (method_type_of bytes) ≡ Ok shape → fault_numbers None ≡ method_type_numbers (method_type_of bytes)
method_passes bytes shape e = sym (ap (λ (r : Result MethodShape DescriptorFault). fault_numbers (fault_of r)) e) ∙ method_numbers (method_type_of bytes)

pub method_refused : (bytes : List ℕ) (fault : DescriptorFault) → method_shape (method_type_of bytes) ≡ Err fault → fault_numbers (Some fault) ≡ method_type_numbers (method_type_of bytes)
method_refused bytes fault e = sym (ap (λ (r : Result MethodShape DescriptorFault). fault_numbers (fault_of r)) e) ∙ method_numbers (method_type_of bytes)

pub ruleset faults = (field_passes, field_refused, method_passes, method_refused)

-- ---- classes and arrays

pub array_fault : (bytes : List ℕ) (fault : Option DescriptorFault) → has_front (byte "[") bytes ≡ true → fault_numbers fault ≡ type_numbers (field_type_of bytes) → fault_numbers fault ≡ class_or_array_numbers bytes
array_fault [] fault front e = absurd cc
array_fault (b ∷ bytes) fault front e = rw front e

pub class_fine : (bytes : List ℕ) → has_front (byte "[") bytes ≡ false → is_class_name bytes ≡ true → fault_numbers None ≡ class_or_array_numbers bytes
class_fine [] front named = absurd cc
class_fine (b ∷ bytes) front named = rw (front, named) refl

pub class_wrong : (bytes : List ℕ) → has_front (byte "[") bytes ≡ false → is_class_name bytes ≡ false → fault_numbers (Some Form) ≡ class_or_array_numbers bytes
class_wrong [] front named = refl
class_wrong (b ∷ bytes) front named = rw (front, named) refl

pub ruleset class_faults = (array_fault, class_fine, class_wrong)
