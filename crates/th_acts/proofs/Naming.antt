-- The hierarchy names its classes as the class files do.
use Rattle.std.proofs.Common.{◌≡◌, zero, suc, ◌+◌, ℕ, List, [], ◌∷◌, length, refl, Option, Some, None}
use Rattle.std.specs.Prelude.{slice_get}
use Rattle.std.specs.Option.{option_map}
use Rattle.th_syntax.specs.declared.class_file.ClassFile.{ClassFile}
use Rattle.th_syntax.specs.Program.{all_classes, class_infos, hierarchy_of}

named_from : (files classes : List ClassFile) (field method n : ℕ)
    → option_map (λ k. k.name) (slice_get (class_infos files field method classes) n) ≡ option_map (λ k. k.name) (slice_get classes n)
named_from files [] field method n = refl
named_from files (k ∷ ks) field method zero = refl
named_from files (k ∷ ks) field method (suc n) = named_from files ks (field + length k.fields) (method + length k.methods) n

pub named_alike : (files : List ClassFile) (n : ℕ)
    → option_map (λ k. k.name) (slice_get (hierarchy_of files) n) ≡ option_map (λ k. k.name) (slice_get (all_classes files) n)
named_alike files n = named_from files (all_classes files) 0 0 n
