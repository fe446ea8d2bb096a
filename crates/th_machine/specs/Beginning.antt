-- The values that fields begin with, class by class.
use Rattle.std.specs.Prelude.{List, map}
use Rattle.std.specs.List.{flat_map}
use Rattle.th_syntax.specs.declared.class_file.ClassFile.{ClassFile}
use Rattle.th_syntax.specs.declared.class_file.Member.{Member}
use Rattle.th_syntax.specs.declared.machine.Value.{Value}
use Rattle.th_syntax.specs.Initial.{default_value}

abbrev pub values_of_fields : List Member → List Value
values_of_fields members = map (λ m. default_value m.descriptor) members

-- the values that the fields of these classes begin with
abbrev pub first_statics : List ClassFile → List Value
first_statics files = flat_map (λ f. values_of_fields f.fields) files
