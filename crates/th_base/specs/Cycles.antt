-- Cycles of direct supertypes: the first class that stands above itself, and the supertype by which it does.
use Rattle.std.specs.Prelude.{ℕ, ◌≡◌, ◌<◌, ◌⊎◌, List, ◌++◌, map, length, slice_index}
use Rattle.std.specs.Option.{option_map, option_to_list}
use Rattle.th_base.specs.declared.class.ClassInfo.{ClassInfo}
use Rattle.th_base.specs.Hierarchy.{superclass_of, interfaces_of, StandsAbove}

-- a class is another, or stands above it
abbrev pub IsAtOrAbove : List ClassInfo → ℕ → ℕ → Type 0
IsAtOrAbove classes above c = (above ≡ c) ⊎ StandsAbove classes above c

-- the direct supertypes, the superclass before the interfaces
abbrev pub superclass_first : List ClassInfo → ℕ → List ℕ
superclass_first classes c = option_to_list (superclass_of classes c) ++ interfaces_of classes c

-- the first of a class's direct supertypes that the class stands above, or is
pub record IsFirstBack (classes : List ClassInfo) (c s : ℕ) : Type 0 where
  pub place : ℕ
  pub inside : place < length (superclass_first classes c)
  pub stands : slice_index (superclass_first classes c) place ≡ s
  pub back : IsAtOrAbove classes c s
  pub before : (k : ℕ) → k < place → IsAtOrAbove classes c (slice_index (superclass_first classes c) k) → ⊥

-- the first class, in order, that stands above itself, and the first of its direct supertypes, the
-- superclass before the interfaces, that the class stands above, or is
pub record IsFirstCycle (classes : List ClassInfo) (c s : ℕ) : Type 0 where
  pub on_cycle : StandsAbove classes c c
  pub first : (d : ℕ) → d < c → StandsAbove classes d d → ⊥
  pub supertype : IsFirstBack classes c s
