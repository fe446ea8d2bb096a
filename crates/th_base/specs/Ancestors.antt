-- Private to the hierarchy: what is listed above each class, each class once, so that a look-up goes
-- along one list.
use Rattle.std.specs.Prelude.{ℕ, ◌≡◌, ◌<◌, Bool, true, false, List, [], ◌∷◌, ◌++◌, map, length, find, slice_get}
use Rattle.std.specs.List.{flat_map, slice_index_or}
use Rattle.std.specs.Option.{option_map, option_map_or, option_to_list}
use Rattle.th_base.specs.declared.class.ClassInfo.{ClassInfo}
use Rattle.th_base.specs.declared.ancestors.Ancestors.{Ancestors}
use Rattle.th_base.specs.declared.ancestors.Listing.{Listing}
use Rattle.th_base.specs.Hierarchy.{lineage_of, supertypes_of, superinterfaces_of}
use Rattle.th_base.specs.IdSet.{has}
use Rattle.th_base.specs.Order.{supertypes_in}

-- each search along either list finds the same first
abbrev pub FindAlike : List ℕ → List ℕ → Type 0
FindAlike xs ys = (p : ℕ → Bool) → find p xs ≡ find p ys

-- a class is marked exactly where it is listed
pub record IsListing (seen : List Bool) (items : List ℕ) : Type 0 where
  pub marks : (x : ℕ) → x < length seen → slice_index_or seen x false ≡ has items x
  pub inside : (x : ℕ) → has items x ≡ true → x < length seen

-- classes have been added at the end, each unless it was listed
pub record Adds (old new : Listing) (more : List ℕ) : Type 0 where
  pub listing : IsListing new.seen.items new.items.items
  pub alike : FindAlike new.items.items (old.items.items ++ more)
  pub room : length new.seen.items ≡ length old.seen.items

-- a list has been made, and a new one begins
pub record IsFinished (old new : Listing) : Type 0 where
  pub listing : IsListing new.seen.items []
  pub empty : new.items.items ≡ []
  pub room : length new.seen.items ≡ length old.seen.items

-- what is listed for a class
abbrev pub supertypes_listed : List Ancestors → ℕ → List ℕ
supertypes_listed rows c = option_map_or (λ r. r.supertypes) (slice_get rows c) []

abbrev pub superinterfaces_listed : List Ancestors → ℕ → List ℕ
superinterfaces_listed rows c = option_map_or (λ r. r.superinterfaces) (slice_get rows c) []

abbrev pub line_listed : List Ancestors → ℕ → List ℕ
line_listed rows c = option_map_or (λ r. r.line) (slice_get rows c) []

abbrev pub all_listed : List Ancestors → ℕ → List ℕ
all_listed rows c = option_map_or (λ r. r.all) (slice_get rows c) []

-- all that is listed is a class of the list
pub record ListsClasses (rows : List Ancestors) (n : ℕ) : Type 0 where
  pub supertypes : (c x : ℕ) → has (supertypes_listed rows c) x ≡ true → x < n
  pub superinterfaces : (c x : ℕ) → has (superinterfaces_listed rows c) x ≡ true → x < n

-- a class's lists serve for the rules' own
pub record ListsAbove (classes : List ClassInfo) (rows : List Ancestors) (c : ℕ) : Type 0 where
  pub supertypes : FindAlike (supertypes_listed rows c) (supertypes_of classes c)
  pub superinterfaces : FindAlike (superinterfaces_listed rows c) (superinterfaces_of classes c)
  pub line : line_listed rows c ≡ lineage_of classes c
  pub all : (x : ℕ) → has (all_listed rows c) x ≡ has (supertypes_of classes c) x

-- those of all classes do
pub record AreAncestors (classes : List ClassInfo) (rows : List Ancestors) : Type 0 where
  pub rows_are : length rows ≡ length classes
  pub in_range : ListsClasses rows (length classes)
  pub above : (c : ℕ) → c < length classes → ListsAbove classes rows c

-- the direct superclass that a class names, as a list of at most one
abbrev pub superclass_in : ClassInfo → List ℕ
superclass_in k = option_to_list (option_map (λ s. s.0) k.super_id)

-- a superinterface with what is listed above it
abbrev pub with_superinterfaces : List Ancestors → ℕ → List ℕ
with_superinterfaces rows i = i ∷ superinterfaces_listed rows i

-- the superinterfaces of a class by those listed for its direct supertypes
abbrev pub superinterfaces_by : List Ancestors → ClassInfo → List ℕ
superinterfaces_by rows k = flat_map (with_superinterfaces rows) (map (λ i. i.0) k.interfaces) ++ flat_map (superinterfaces_listed rows) (superclass_in k)

-- a class's direct supertypes have rows, which list classes alone
pub record IsTaken (k : ClassInfo) (rows : List Ancestors) (n : ℕ) : Type 0 where
  pub classes : ListsClasses rows n
  pub rows_are : (s : ℕ) → has (supertypes_in k) s ≡ true → s < length rows

-- a row that is made of the rows of a class's direct supertypes
pub record IsRowOf (k : ClassInfo) (rows : List Ancestors) (number n : ℕ) (row : Ancestors) : Type 0 where
  pub supertypes : FindAlike row.supertypes (number ∷ flat_map (supertypes_listed rows) (supertypes_in k))
  pub superinterfaces : FindAlike row.superinterfaces (superinterfaces_by rows k)
  pub supertypes_inside : (x : ℕ) → has row.supertypes x ≡ true → x < n
  pub superinterfaces_inside : (x : ℕ) → has row.superinterfaces x ≡ true → x < n
  pub line : row.line ≡ number ∷ flat_map (line_listed rows) (superclass_in k)
  pub all : (x : ℕ) → has row.all x ≡ has (number ∷ flat_map (all_listed rows) (supertypes_in k)) x
