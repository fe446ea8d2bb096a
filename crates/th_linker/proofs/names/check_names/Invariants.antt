use Rattle.std.proofs.Common.{◌≡◌, ℕ, List, [], take, Bor}
use Rattle.std.specs.List.{list_any}
use Rattle.std.specs.Str.{bytes_eq}
use Rattle.indexmap.specs.IndexSet.{contains_by}
use Rattle.th_syntax.specs.declared.class_file.ClassFile.{ClassFile}
use Rattle.th_syntax.specs.LinkChecks.{found_along, class_name_refusals}
use Rattle.th_linker.proofs.names.check_names.Given as goal

-- the classes so far have names of their own, and the set has these names
abbrev pub invariant-loop-class : goal.invariant-loop-class
invariant-loop-class l = record {
  none : found_along class_name_refusals [] (take l.class-index l.files) ≡ [];
  known : (name : List ℕ) → contains_by (λ (k : Bor (List ℕ)). bytes_eq name k.now) l.names ≡ list_any (λ (d : ClassFile). bytes_eq d.name name) (take l.class-index l.files);
}
