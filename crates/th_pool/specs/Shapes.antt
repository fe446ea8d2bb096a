-- The shapes of descriptors.
use Rattle.std.specs.Prelude.{◌≡◌, ℕ, map, Option, Some, None, Result, Ok, Err, if◌then◌else◌}
use Rattle.std.specs.Option.{option_map}
use Rattle.th_base.specs.declared.fail.Fail.{Fail}
use Rattle.th_base.specs.declared.fail.Fail.TheVariants.{Refused, NoMemory}
use Rattle.th_syntax.specs.Descriptors.{FieldType, double_type, long_type, class_type, array_type, MethodType, is_floating, is_floating_method}
use Rattle.th_pool.specs.declared.shape.Slot.{Slot}
use Rattle.th_pool.specs.declared.shape.Slot.TheVariants.{Int, Long, Ref}
use Rattle.th_pool.specs.declared.shape.MethodShape.{MethodShape}
use Rattle.th_pool.specs.declared.shape.FieldShape.{FieldShape}
use Rattle.th_pool.specs.declared.shape.DescriptorFault.{DescriptorFault}
use Rattle.th_pool.specs.declared.shape.DescriptorFault.TheVariants.{Form, FloatType}

-- What a value of a type takes. A float takes the room of an int and a double that of a long, though no
-- shape has them.
abbrev pub slot_of : FieldType → Slot
slot_of long_type = Long
slot_of double_type = Long
slot_of (class_type name) = Ref
slot_of (array_type element) = Ref
slot_of other = Int

-- how many slots there are
abbrev pub slot_size : Slot → ℕ
slot_size Long = 2
slot_size Int = 1
slot_size Ref = 1

-- the shape of a field's type, or the fault where there is no type, or one with float or double
abbrev pub field_shape : Option FieldType → Result FieldShape DescriptorFault
field_shape None = Err Form
field_shape (Some type) = if is_floating type then Err FloatType else Ok (record { slot = slot_of type })

abbrev pub shape_of : MethodType → MethodShape
shape_of m = record { params = map slot_of m.params; result = option_map slot_of m.result_type }

-- the same for a method
abbrev pub method_shape : Option MethodType → Result MethodShape DescriptorFault
method_shape None = Err Form
method_shape (Some m) = if is_floating_method m then Err FloatType else Ok (shape_of m)

-- a call answered so, or memory ran out
abbrev pub AnswersShape : Result MethodShape (Fail DescriptorFault) → Result MethodShape DescriptorFault → Type 0
AnswersShape (Ok shape) given = given ≡ Ok shape
AnswersShape (Err (Refused fault)) given = given ≡ Err fault
AnswersShape (Err NoMemory) given = Unit {0}
