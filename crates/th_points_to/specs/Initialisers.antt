-- The initialisers that an initialisation may run.
use Rattle.std.specs.Prelude.{ℕ, ◌≡◌, ◌<◌, true, List, length, codes, Some, Contains}
use Rattle.std.specs.List.{AllByRecursion}
use Rattle.th_base.specs.declared.class.ClassInfo.{ClassInfo}
use Rattle.th_base.specs.declared.class.MethodInfo.{MethodInfo}
use Rattle.th_base.specs.Hierarchy.{declared_method}
use Rattle.th_ir.specs.FactSets.{FactSets}
use Rattle.th_ir.specs.Rules.{ReachesInitialisers}
use Rattle.th_points_to.specs.declared.found.Found.{Found}
use Rattle.th_points_to.specs.declared.place.Layout.{Layout}
use Rattle.th_points_to.specs.Found.{Holds}
use Rattle.th_points_to.specs.Places.{AreInRange}

-- the initialiser of the class may run
abbrev pub ReachesOwn : List ClassInfo → FactSets → ℕ → Type 0
ReachesOwn h t c = (info : MethodInfo) → declared_method h (codes "<clinit>") (codes "()V") c ≡ Some info → t.reached info.id.0 ≡ true

-- what the initialisation of each class that was met asks is asked
abbrev pub InitsGo : List ClassInfo → Layout → Found → List ℕ → Type 0
InitsGo h l g met = (t : FactSets) → AreInRange l t → Holds l g t → (c : ℕ) → Contains met c → ReachesInitialisers h t c

-- what the initialisation of a class asks are the initialisers of the walked classes, and of those that were met
pub record IsWalk (h : List ClassInfo) (met : List ℕ) (c : ℕ) (walked : List ℕ) : Type 0 where
  pub inside : AllByRecursion (λ k. k < length h) walked
  pub down : (t : FactSets) → ReachesInitialisers h t c → AllByRecursion (ReachesOwn h t) walked
  pub up : (t : FactSets) → ((k : ℕ) → Contains met k → ReachesInitialisers h t k) → AllByRecursion (ReachesOwn h t) walked
      → AllByRecursion (ReachesInitialisers h t) walked × ReachesInitialisers h t c
