-- Paths of the heap graph from a static field to a site, their order, and the least of them.
use Rattle.std.specs.Prelude.{ℕ, ◌≡◌, ◌<◌, ◌⊎◌, true, false, List, [], ◌∷◌, ◌++◌, length, Option, None, Some, slice_get}
use Rattle.std.specs.List.{AllByRecursion}
use Rattle.th_base.specs.IdSet.{has}
use Rattle.th_base.specs.declared.number.EdgeId.{EdgeId}
use Rattle.th_base.specs.declared.number.FieldId.{FieldId}
use Rattle.th_base.specs.declared.number.SiteId.{SiteId}
use Rattle.th_ir.specs.declared.graph.Edge.{Edge}
use Rattle.th_ir.specs.declared.graph.Edge.TheVariants.{Static, Field, Element}

-- ---- paths

-- the site of the objects that an edge leads to
abbrev pub end_of : Edge → ℕ
end_of (Static f x) = x.0
end_of (Field x f y) = y.0
end_of (Element x y) = y.0

-- the site of the objects that an edge leads from; none where it leads from a static field
abbrev pub start_of : Edge → Option ℕ
start_of (Static f x) = None
start_of (Field x f y) = Some x.0
start_of (Element x y) = Some x.0

-- edges, by number, lead from a static field to a site: the first is an edge of the field, each next one
-- starts at the site at which the one before it ends, and the last ends at the site
pub data IsPath (edges : List Edge) (f : FieldId) : List EdgeId → ℕ → Type 0 where
  begins : (e : EdgeId) (x : SiteId) → slice_get edges e.0 ≡ Some (Static f x) → IsPath edges f (e ∷ []) x.0
  goes_on : (path : List EdgeId) (x : ℕ) (e : EdgeId) (edge : Edge) → IsPath edges f path x → slice_get edges e.0 ≡ Some edge → start_of edge ≡ Some x
      → IsPath edges f (path ++ e ∷ []) (end_of edge)

-- no edge of the path is in the cut
abbrev pub Avoids : List ℕ → List EdgeId → Type 0
Avoids cut path = AllByRecursion (λ e. has cut e.0 ≡ false) path

-- ---- their order

-- number by number, the first at which they differ decides
abbrev pub IsLessAlong : List EdgeId → List EdgeId → Type 0
IsLessAlong [] ys = ⊥
IsLessAlong (x ∷ xs) [] = ⊥
IsLessAlong (x ∷ xs) (y ∷ ys) = (x.0 < y.0) ⊎ ((x.0 ≡ y.0) × IsLessAlong xs ys)

-- by length, then by the list of edge numbers
abbrev pub IsBefore : List EdgeId → List EdgeId → Type 0
IsBefore xs ys = (length xs < length ys) ⊎ ((length xs ≡ length ys) × IsLessAlong xs ys)

-- ---- the least path

-- a path from a static field to a site of the goal, with no edge of the cut
pub record IsWay (edges : List Edge) (f : FieldId) (goal cut : List ℕ) (path : List EdgeId) : Type 0 where
  pub site : ℕ
  pub leads : IsPath edges f path site
  pub arrives : has goal site ≡ true
  pub avoids : Avoids cut path

-- the one that comes before all others
pub record IsLeastWay (edges : List Edge) (f : FieldId) (goal cut : List ℕ) (path : List EdgeId) : Type 0 where
  pub way : IsWay edges f goal cut path
  pub least : (other : List EdgeId) → IsWay edges f goal cut other → (other ≡ path) ⊎ IsBefore path other

-- the least path; none exactly where there is no path at all
abbrev pub TellsLeast : List Edge → FieldId → List ℕ → List ℕ → Option (List EdgeId) → Type 0
TellsLeast edges f goal cut None = (path : List EdgeId) → IsWay edges f goal cut path → ⊥
TellsLeast edges f goal cut (Some path) = IsLeastWay edges f goal cut path

-- for each goal its least path, in the order of the goals
pub record TellEachLeast (edges : List Edge) (f : FieldId) (goals : List (List ℕ)) (cut : List ℕ) (found : List (Option (List EdgeId))) : Type 0 where
  pub count : length found ≡ length goals
  pub each : (i : ℕ) (goal : List ℕ) (path : Option (List EdgeId)) → slice_get goals i ≡ Some goal → slice_get found i ≡ Some path
      → TellsLeast edges f goal cut path
