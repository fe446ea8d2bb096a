-- The hierarchy knows the classes of a program by their names, in order.
use Rattle.std.proofs.Common.{Option, ◌≡◌, ◌+◌, ℕ, cond, List, [], ◌∷◌, length, ◌<◌, arith, true, false, refl, sym, ap, ◌∙◌, Some, None, option_and_then}
use Rattle.std.specs.List.{position_from}
use Rattle.std.specs.Prelude.{IfSome, option_map}
use Rattle.std.specs.Str.{bytes_eq}
use Rattle.th_base.specs.Subtype.{class_named}
use Rattle.th_base.specs.declared.number.ClassId.{ClassId}
use Rattle.th_harness.specs.Script.{launched_class}
use Rattle.th_harness.proofs.Lines.{position_below}
use Rattle.th_syntax.specs.declared.class_file.ClassFile.{ClassFile}
use Rattle.th_syntax.specs.Program.{all_classes, class_infos, hierarchy_of, number_named, is_launchable}

named_from : (files cs : List ClassFile) (name : List ℕ) (k f m : ℕ)
    → position_from (λ c. bytes_eq c.name name) k (class_infos files f m cs) ≡ position_from (λ c. bytes_eq c.name name) k cs
named_from files [] name k f m = refl
named_from files (c ∷ cs) name k f m =
    ap (λ o. cond (bytes_eq c.name name) (Some k) o) (named_from files cs name (k + 1) (f + length c.fields) (m + length c.methods))

pub named_alike : (files : List ClassFile) (name : List ℕ) → class_named (hierarchy_of files) name ≡ number_named files name
named_alike files name = named_from files (all_classes files) name 0 0 0

pub named_as : (files : List ClassFile) (name : List ℕ) (o : Option ClassId) → option_map (λ c. c.0) o ≡ class_named (hierarchy_of files) name
    → option_map (λ c. c.0) o ≡ number_named files name
named_as files name o found = found ∙ named_alike files name

pub named_within : (files : List ClassFile) (name : List ℕ) (o : Option ClassId) → option_map (λ c. c.0) o ≡ class_named (hierarchy_of files) name
    → IfSome o (λ c. c.0 < length (hierarchy_of files))
named_within files name None found = tt
named_within files name (Some class) found =
    let under = position_below (λ k. bytes_eq k.name name) 0 (hierarchy_of files) class.0 (sym found) in omega (arith, under)

-- ---- the class that a launch names

pub launched_yes : (files : List ClassFile) (name : List ℕ) (class : ClassId) → Some class.0 ≡ number_named files name
    → is_launchable files class.0 ≡ true → Some class.0 ≡ launched_class files name
launched_yes files name class found passed =
    sym (ap (option_and_then (λ c. cond (is_launchable files c) (Some c) None)) (sym found) ∙ ap (λ b. cond b (Some class.0) None) passed)

pub launched_no : (files : List ClassFile) (name : List ℕ) (class : ClassId) → Some class.0 ≡ number_named files name
    → is_launchable files class.0 ≡ false → None ≡ launched_class files name
launched_no files name class found failed =
    sym (ap (option_and_then (λ c. cond (is_launchable files c) (Some c) None)) (sym found) ∙ ap (λ b. cond b (Some class.0) None) failed)

pub launched_none : (files : List ClassFile) (name : List ℕ) → None ≡ number_named files name → None ≡ launched_class files name
launched_none files name found = sym (ap (option_and_then (λ c. cond (is_launchable files c) (Some c) None)) (sym found))
