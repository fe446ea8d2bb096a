-- Private to the linker: a table of classes by their names.
use Rattle.std.specs.Prelude.{ℕ, List, Option}
use Rattle.std.specs.List.{position_from}
use Rattle.std.specs.Str.{bytes_eq}
use Rattle.th_syntax.specs.declared.class_file.ClassFile.{ClassFile}

-- the place of the first class of a name
abbrev pub first_named : List ClassFile → List ℕ → Option ℕ
first_named classes name = position_from (λ c. bytes_eq c.name name) 0 classes
