-- What the files of a generated program stand for.
use Rattle.std.specs.Prelude.{◌≡◌, ℕ, List, [], ◌∷◌}
use Rattle.th_syntax.specs.ClassGrammar.{IsClassFile}
use Rattle.th_gen.specs.declared.draft.ClassWriter.{ClassWriter}
use Rattle.th_gen.specs.ClassText.{class_bytes}
use Rattle.th_gen.specs.ClassValue.{class_of}

-- A file of this name and these bytes is that of a class, and stands for it.
pub record IsFileOf (name bytes : List ℕ) (class : ClassWriter) : Type 0 where
  pub named : name ≡ class.name
  pub written : bytes ≡ class_bytes class
  pub stands : IsClassFile bytes (class_of class)

-- each of these byte strings is a class file that stands for the class in its place, and there are as
-- many as classes
abbrev pub StandFor : List (List ℕ) → List ClassWriter → Type 0
StandFor [] [] = Unit {0}
StandFor (bytes ∷ more) (class ∷ classes) = IsClassFile bytes (class_of class) × StandFor more classes
StandFor files classes = ⊥
