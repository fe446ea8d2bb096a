-- How the constants of a class's static fields are set, field after field.
use Rattle.std.specs.Prelude.{ℕ, ◌+◌, List, [], ◌∷◌, Option, None, Some, slice_get, slice_set, if◌then◌else◌}
use Rattle.std.specs.Option.{option_and_then, option_map}
use Rattle.th_syntax.specs.declared.class_file.ClassFile.{ClassFile}
use Rattle.th_syntax.specs.declared.class_file.Constant.{Constant}
use Rattle.th_syntax.specs.declared.class_file.Member.{Member}
use Rattle.th_syntax.specs.Flags.{is_static}
use Rattle.th_syntax.specs.Initial.{constant_value}
use Rattle.th_syntax.specs.Program.{hierarchy_of}
use Rattle.th_syntax.specs.declared.machine.Value.{Value}

-- a field's constant is set, where there is one
abbrev pub constant_set : List ClassFile → ℕ → Option Constant → List Value → List Value
constant_set files at None vs = vs
constant_set files at (Some constant) vs = slice_set vs at (constant_value files constant)

-- the same where the field is static
abbrev pub field_set : List ClassFile → ℕ → Member → List Value → List Value
field_set files at m vs = if is_static m then constant_set files at m.constant vs else vs

-- the constants of these fields are set, the first of which has this number
abbrev pub fields_set : List ClassFile → ℕ → List Member → List Value → List Value
fields_set files first [] vs = vs
fields_set files first (m ∷ ms) vs = fields_set files (first + 1) ms (field_set files first m vs)

-- the number of the first field that a class declares, if it declares any
abbrev pub first_field : List ClassFile → ℕ → Option ℕ
first_field files c = option_and_then (λ i. option_map (λ f. f.id.0) (slice_get i.fields 0)) (slice_get (hierarchy_of files) c)
