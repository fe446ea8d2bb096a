-- Which files are accepted as a program, and why others are refused first.
use Rattle.std.specs.Prelude.{ℕ, ◌≡◌, List, ◌∷◌, ◌++◌}
use Rattle.std.specs.List.{AllByRecursion, AllZip}
use Rattle.th_syntax.specs.declared.class_file.ClassFile.{ClassFile}
use Rattle.th_syntax.specs.declared.class_file.Member.{Member}
use Rattle.th_syntax.specs.declared.refusal.Flaw.{Flaw}
use Rattle.th_syntax.specs.declared.refusal.Refusal.{Refusal}
use Rattle.th_syntax.specs.ClassGrammar.{IsClassFile}
use Rattle.th_syntax.specs.FirstFlaw.{FirstFlaw}
use Rattle.th_syntax.specs.KindTable.{KindsBefore}
use Rattle.th_syntax.specs.Linking.{IsLinked, IsFirstRefusal}
use Rattle.th_reader.specs.Answer.{IsRefusal}
use Rattle.th_kinds.specs.Inferred.{AreKindsOf, IsConflict}

-- a file: its name and its bytes
abbrev pub File : Type 0
File = List ℕ × List ℕ

-- the files stand for these class files, each for the one at its place
abbrev pub StandFor : List File → List ClassFile → Type 0
StandFor files classes = AllZip (λ file class. IsClassFile file.1 class) files classes

-- a method has kinds without conflict, where it has code
abbrev pub HasKindsOf : Member → Type 0
HasKindsOf m = (kinds : List KindsBefore) × AreKindsOf m m.code kinds

-- each method of a class has
abbrev pub HasAllKinds : ClassFile → Type 0
HasAllKinds class = AllByRecursion HasKindsOf class.methods

-- the files stand for class files that are linked with each other, and whose methods have kinds
pub record IsAccepted (files : List File) (classes : List ClassFile) : Type 0 where
  pub stand : StandFor files classes
  pub linked : IsLinked classes
  pub kinds : AllByRecursion HasAllKinds classes

-- ---- refusals

-- the first file that stands for no class file, for its first flaw
pub record IsFileRefused (files : List File) (refusal : Refusal) : Type 0 where
  pub before : List File
  pub file : File
  pub behind : List File
  pub files_are : files ≡ before ++ file ∷ behind
  pub classes : List ClassFile
  pub stand : StandFor before classes
  pub flaw : Flaw
  pub first : FirstFlaw file.1 flaw
  pub refusal_is : IsRefusal file.0 flaw refusal

-- the first method of a class whose kinds have a conflict
pub record IsMethodRefused (class : ClassFile) (refusal : Refusal) : Type 0 where
  pub before : List Member
  pub method : Member
  pub behind : List Member
  pub methods_are : class.methods ≡ before ++ method ∷ behind
  pub fine : AllByRecursion HasKindsOf before
  pub conflict : IsConflict class.name method refusal

-- the first class that has such a method
pub record AreKindsRefused (classes : List ClassFile) (refusal : Refusal) : Type 0 where
  pub before : List ClassFile
  pub class : ClassFile
  pub behind : List ClassFile
  pub classes_are : classes ≡ before ++ class ∷ behind
  pub fine : AllByRecursion HasAllKinds before
  pub method : IsMethodRefused class refusal

-- The first refusal is that of the first file that stands for no class file; or else that of linking;
-- or else that of the first method, in order, whose kinds have a conflict.
pub data IsRefused (files : List File) (refusal : Refusal) : Type 0 where
  by_file : IsFileRefused files refusal → IsRefused files refusal
  by_linking : (classes : List ClassFile) → StandFor files classes → IsFirstRefusal classes refusal → IsRefused files refusal
  by_kinds : (classes : List ClassFile) → StandFor files classes → IsLinked classes → AreKindsRefused classes refusal
      → IsRefused files refusal
