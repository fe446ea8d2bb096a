-- The static fields and Activity classes that are joined in a state, in order. All of it is this project's own.
use Rattle.std.specs.Prelude.{ℕ, List, [], ◌∷◌, map, Contains}
use Rattle.std.specs.Cmp.Lexicographic.{slice_cmp}
use Rattle.std.specs.List.Sorted.{IsStrictlySortedBy}
use Rattle.std.specs.Ordering.{nat_cmp}
use Rattle.th_base.specs.declared.number.ClassId.{ClassId}
use Rattle.th_base.specs.declared.number.FieldId.{FieldId}
use Rattle.th_syntax.specs.declared.class_file.ClassFile.{ClassFile}
use Rattle.th_syntax.specs.declared.machine.State.{State}
use Rattle.th_syntax.specs.Joined.{IsJoined}

-- the numbers by which pairs are ordered: the field's, then the class's
abbrev pub pair_key : FieldId × ClassId → List ℕ
pair_key p = p.0.0 ∷ p.1.0 ∷ []

-- these are the joined pairs of a state: each once, in order of field and class
pub record AreJoined (files : List ClassFile) (s : State) (pairs : List (FieldId × ClassId)) : Type 0 where
  pub found : (p : FieldId × ClassId) → Contains pairs p → IsJoined files s p.0.0 p.1.0
  pub all : (p : FieldId × ClassId) → IsJoined files s p.0.0 p.1.0 → Contains pairs p
  pub ordered : IsStrictlySortedBy (slice_cmp nat_cmp) (map pair_key pairs)
