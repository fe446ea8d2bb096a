-- Private to the hierarchy: what it keeps beside its classes, and the shapes of descriptors that its
-- look-ups read.
use Rattle.std.specs.Prelude.{ℕ, ◌≡◌, ◌<◌, ◌^◌, List, ◌∷◌, length, Vec}
use Rattle.std.specs.Ordering.{nat_cmp}
use Rattle.std.specs.Cmp.Lexicographic.{slice_cmp}
use Rattle.std.specs.BTreeMap.{BTreeMap, get_by}
use Rattle.std.specs.Global.{Global}
use Rattle.th_base.specs.declared.class.ClassInfo.{ClassInfo}
use Rattle.th_base.specs.declared.ancestors.Ancestors.{Ancestors}
use Rattle.th_base.specs.declared.members.Members.{Members}
use Rattle.th_base.specs.declared.numbered.Place.{Place}
use Rattle.th_base.specs.declared.shape.Shape.{Shape}
use Rattle.th_base.specs.declared.shape.Shape.TheVariants.{Array, Class, Primitive}
use Rattle.th_base.specs.Ancestors.{AreAncestors}
use Rattle.th_base.specs.Hierarchy.{IsAcyclic}
use Rattle.th_base.specs.MemberIndex.{AreIndexed}
use Rattle.th_base.specs.Numbered.{FindsPlaces, field_numbers, method_numbers}
use Rattle.th_base.specs.Subtype.{ClassType, PrimitiveType, described_type, named_type, class_named}

-- the table finds the first class of each name, and no other
abbrev pub FindsFirst : List ClassInfo → BTreeMap (Vec ℕ Global) ℕ → Type 0
FindsFirst classes names = (name : List ℕ) → get_by (λ k. slice_cmp nat_cmp name k.items) names ≡ class_named classes name

-- what holds of a hierarchy's fields
pub record IsHierarchy (classes : List ClassInfo) (rows : List Ancestors) (members : List Members) (names : BTreeMap (Vec ℕ Global) ℕ) (fields methods : BTreeMap ℕ Place) : Type 0 where
  pub acyclic : IsAcyclic classes
  pub few : length classes < 2 ^ 32
  pub above : AreAncestors classes rows
  pub indexed : AreIndexed classes members
  pub names_are : FindsFirst classes names
  pub fields_are : FindsPlaces (field_numbers classes) fields
  pub methods_are : FindsPlaces (method_numbers classes) methods

-- the shape of a field descriptor
abbrev pub Describes : List ℕ → Shape → Type 0
Describes d (Array rest) = d ≡ 91 ∷ rest.now
Describes d (Class name) = described_type d ≡ ClassType name.now
Describes d Primitive = described_type d ≡ PrimitiveType d

-- the shape of a class name or array descriptor
abbrev pub Names : List ℕ → Shape → Type 0
Names d (Array rest) = d ≡ 91 ∷ rest.now
Names d (Class name) = named_type d ≡ ClassType name.now
Names d Primitive = ⊥
