-- What may stand in arrays, by the descriptor of arrays of it, and the filters that tell it.
use Rattle.std.specs.Prelude.{ℕ, ◌≡◌, ◌<◌, ◌≤◌, ◌+◌, ◌==◌, Bool, true, List, [], ◌∷◌, ◌++◌, length, drop, Some, None, slice_get, if◌then◌else◌}
use Rattle.th_base.specs.declared.class.ClassInfo.{ClassInfo}
use Rattle.th_base.specs.IdSet.{has}
use Rattle.th_base.specs.Subtype.{is_subtype, is_type_subtype, named_type, described_type}
use Rattle.th_incl.specs.Least.{set_at}
use Rattle.th_ir.specs.declared.program.Site.{Site}
use Rattle.th_ir.specs.Sites.{component_kind, is_array_text, is_ref_elem}
use Rattle.th_ir.specs.WellFormed.{places_from}
use Rattle.th_points_to.specs.declared.filters.Filters.{Filters}

-- the descriptor of arrays of a class or array type
abbrev pub array_of : List ℕ → List ℕ
array_of [] = 91 ∷ 76 ∷ 59 ∷ []
array_of (x ∷ xs) = if x == 91 then 91 ∷ x ∷ xs else 91 ∷ 76 ∷ x ∷ xs ++ 59 ∷ []

-- what the site makes may stand in arrays of this descriptor
abbrev pub stands_in : List ClassInfo → List ℕ → Site → Bool
stands_in h array site = is_type_subtype h (named_type site.class) (described_type (drop 1 array))

-- the places of the sites that may stand in arrays of this descriptor
abbrev pub storable : List ClassInfo → List ℕ → List Site → List ℕ
storable h array sites = places_from (λ site. is_subtype h (array_of site.class) array) 0 sites

-- all numbers below a count are in the list
abbrev pub HasAllBelow : ℕ → List ℕ → Type 0
HasAllBelow count xs = (x : ℕ) → x < count → has xs x ≡ true

-- the text is the descriptor of arrays of references
abbrev pub is_ref_text : List ℕ → Bool
is_ref_text text = is_ref_elem (if is_array_text text then component_kind (drop 1 text) else None)

-- every site passes the first filter; behind it stands the filter of each array type
pub record IsMade (h : List ClassInfo) (sites : List Site) (filters : Filters) : Type 0 where
  pub len : length filters.sets.items ≡ 1 + length filters.types.keys
  pub every : HasAllBelow (length sites) (set_at filters.sets.items 0)
  pub made : (k : ℕ) (t : List ℕ) → slice_get filters.types.keys k ≡ Some t → set_at filters.sets.items (1 + k) ≡ storable h t sites

-- the number of the filter of an array type
pub record IsNumberOf (filters : Filters) (array : List ℕ) (n : ℕ) : Type 0 where
  pub place : ℕ
  pub number : n ≡ 1 + place
  pub stands : slice_get filters.types.keys place ≡ Some array

-- the number of a filter, which is that of the site's type where the site makes arrays of references
pub record NumbersSite (filters : Filters) (site : Site) (n : ℕ) : Type 0 where
  pub inside : n < length filters.sets.items
  pub is : is_ref_text site.class ≡ true → IsNumberOf filters site.class n

-- array types keep their places, and no filter goes
pub record KeepsTypes (old new : Filters) : Type 0 where
  pub types : (k : ℕ) (t : List ℕ) → slice_get old.types.keys k ≡ Some t → slice_get new.types.keys k ≡ Some t
  pub sets : length old.sets.items ≤ length new.sets.items
