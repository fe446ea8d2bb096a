-- Programs that were read, linked and whose code has kinds without conflict.
use Rattle.std.specs.Prelude.{ℕ, ◌≡◌, List, Some}
use Rattle.std.specs.List.{AllByRecursion}
use Rattle.th_syntax.specs.declared.class_file.ClassFile.{ClassFile}
use Rattle.th_syntax.specs.declared.class_file.Code.{Code}
use Rattle.th_syntax.specs.declared.class_file.Member.{Member}
use Rattle.th_syntax.specs.ClassGrammar.{IsClassFile}
use Rattle.th_syntax.specs.Kinds.{KindsAt}
use Rattle.th_syntax.specs.KindTable.{HasKinds}
use Rattle.th_syntax.specs.Linking.{IsLinked}

-- some bytes are the class file
abbrev pub IsRead : ClassFile → Type 0
IsRead c = (bytes : List ℕ) × IsClassFile bytes c

-- a method's code, where it has one, has kinds without conflict
abbrev pub HasItsKinds : Member → Type 0
HasItsKinds m = (code : Code) → m.code ≡ Some code → (t : ℕ → KindsAt) × HasKinds m code t

-- each file is that of some bytes of the grammar, the files are linked, and their code has kinds
pub record IsVerified (files : List ClassFile) : Type 0 where
  pub read : AllByRecursion IsRead files
  pub linked : IsLinked files
  pub kinds : AllByRecursion (λ (c : ClassFile). AllByRecursion HasItsKinds c.methods) files
