-- Private to the crate: what holds while a search goes on, level by level. The paths of its steps are
-- nowhere kept: they are known from the step before each step.
use Rattle.std.specs.Prelude.{ℕ, ◌≡◌, ◌==◌, ◌+◌, ◌<◌, ◌≤◌, min, ◌⊎◌, ⊤, Bool, true, false, List, [], ◌∷◌, ◌++◌, length, Option, None, Some, is_none, count_by, slice_get, slice_set, slice_index}
use Rattle.std.specs.List.{slice_index_or}
use Rattle.std.specs.Option.{option_and_then}
use Rattle.th_base.specs.IdSet.{has}
use Rattle.th_base.specs.declared.number.EdgeId.{EdgeId}
use Rattle.th_base.specs.declared.number.FieldId.{FieldId}
use Rattle.th_base.specs.declared.number.SiteId.{SiteId}
use Rattle.th_ir.specs.declared.graph.Edge.{Edge}
use Rattle.th_ir.specs.declared.graph.Edge.TheVariants.{Static, Field, Element}
use Rattle.th_paths.specs.Links.{first_at, row_of}
use Rattle.th_paths.specs.Paths.{end_of, start_of, IsPath, Avoids, IsBefore}
use Rattle.th_paths.specs.declared.links.Links.{Links}
use Rattle.th_paths.specs.declared.search.Step.{Step}
use Rattle.th_paths.specs.declared.search.Search.{Search}

-- a mark for each edge says whether it is in the cut
pub record AreMarks (count : ℕ) (cut : List ℕ) (marks : List Bool) : Type 0 where
  pub count_is : length marks ≡ count
  pub mark : (k : ℕ) → k < count → slice_index_or marks k false ≡ has cut k

-- ---- the paths of steps

abbrev pub edge_id : ℕ → EdgeId
edge_id k = record { 0 = k }

abbrev pub path_at : List (List EdgeId) → ℕ → List EdgeId
path_at paths i = slice_index_or paths i []

-- the path of the step before, if any, and one edge more
abbrev pub path_by : List (List EdgeId) → Option ℕ → EdgeId → List EdgeId
path_by paths None e = e ∷ []
path_by paths (Some i) e = path_at paths i ++ e ∷ []

abbrev pub IsBelow : Option ℕ → ℕ → Type 0
IsBelow None n = ⊤
IsBelow (Some i) n = i < n

-- the paths are those of the steps
pub record ArePaths (steps : List Step) (paths : List (List EdgeId)) : Type 0 where
  pub count : length paths ≡ length steps
  pub earlier : (i : ℕ) (s : Step) → slice_get steps i ≡ Some s → IsBelow s.before i
  pub by : (i : ℕ) (s : Step) → slice_get steps i ≡ Some s → path_at paths i ≡ path_by paths s.before s.edge

-- ---- what has been found

abbrev pub place_at : List (Option ℕ) → ℕ → Option ℕ
place_at places r = slice_index_or places r None

-- the path leads to the end of the step's edge, and avoids the cut
pub record IsStepTo (edges : List Edge) (f : FieldId) (cut : List ℕ) (s : Step) (path : List EdgeId) : Type 0 where
  pub edge : Edge
  pub stands : slice_get edges s.edge.0 ≡ Some edge
  pub leads : IsPath edges f path (end_of edge)
  pub avoids : Avoids cut path

-- a step stands at a place, and its site is known by an edge
pub record StandsAt (firsts : List ℕ) (steps : List Step) (j r : ℕ) : Type 0 where
  pub step : Step
  pub stands : slice_get steps j ≡ Some step
  pub first : slice_index firsts step.edge.0 ≡ r

-- the steps are in the order of their paths, each site has one step at most, and the table says which
pub record IsSearch (edges : List Edge) (firsts : List ℕ) (f : FieldId) (cut : List ℕ) (steps : List Step) (places : List (Option ℕ))
    (paths : List (List EdgeId)) : Type 0 where
  pub paths_are : ArePaths steps paths
  pub valid : (i : ℕ) (s : Step) → slice_get steps i ≡ Some s → IsStepTo edges f cut s (path_at paths i)
  pub ascending : (i j : ℕ) → i < j → j < length steps → IsBefore (path_at paths i) (path_at paths j)
  pub places_are : length places ≡ length edges
  pub listed : (r j : ℕ) → place_at places r ≡ Some j → StandsAt firsts steps j r
  pub found : (j : ℕ) (s : Step) → slice_get steps j ≡ Some s → place_at places (slice_index firsts s.edge.0) ≡ Some j
  pub room : length steps + count_by is_none places ≡ length edges

-- a path is another, or before it
abbrev pub IsAtMost : List EdgeId → List EdgeId → Type 0
IsAtMost p q = (q ≡ p) ⊎ IsBefore p q

-- a site has been found, by this path or one before it
pub record IsReached (edges : List Edge) (steps : List Step) (paths : List (List EdgeId)) (x : ℕ) (path : List EdgeId) : Type 0 where
  pub at : ℕ
  pub step : Step
  pub stands : slice_get steps at ≡ Some step
  pub edge : Edge
  pub edge_stands : slice_get edges step.edge.0 ≡ Some edge
  pub site : end_of edge ≡ x
  pub least : IsAtMost (path_at paths at) path

-- the static field's edges below a number have been followed
abbrev pub IsRooted : List Edge → FieldId → List ℕ → List Step → List (List EdgeId) → ℕ → Type 0
IsRooted edges f cut steps paths n =
    (k : ℕ) (x : SiteId) → k < n → slice_get edges k ≡ Some (Static f x) → has cut k ≡ false → IsReached edges steps paths x.0 (edge_id k ∷ [])

-- the edges from the sites of the steps below a number have been followed
abbrev pub IsClosed : List Edge → List ℕ → List Step → List (List EdgeId) → ℕ → Type 0
IsClosed edges cut steps paths n =
    (i : ℕ) (s : Step) (edge : Edge) → i < n → slice_get steps i ≡ Some s → slice_get edges s.edge.0 ≡ Some edge
    → (k : ℕ) (next : Edge) → slice_get edges k ≡ Some next → start_of next ≡ Some (end_of edge) → has cut k ≡ false
    → IsReached edges steps paths (end_of next) (path_at paths i ++ edge_id k ∷ [])

-- the steps before the steps are below a number
abbrev pub ComeBefore : List Step → ℕ → Type 0
ComeBefore steps n = (i : ℕ) (s : Step) → slice_get steps i ≡ Some s → IsBelow s.before n

-- ---- the stages of a search

abbrev pub is_static_of : FieldId → Edge → Bool
is_static_of f (Static g x) = g.0 == f.0
is_static_of f (Field x g y) = false
is_static_of f (Element x y) = false

-- the edges of the static field below a number have been followed, and nothing else
pub record IsBegun (edges : List Edge) (firsts : List ℕ) (f : FieldId) (cut : List ℕ) (steps : List Step) (places : List (Option ℕ)) (n : ℕ) : Type 0 where
  pub paths : List (List EdgeId)
  pub search : IsSearch edges firsts f cut steps places paths
  pub rooted : IsRooted edges f cut steps paths n
  pub roots : ComeBefore steps 0
  pub below : (i : ℕ) (s : Step) → slice_get steps i ≡ Some s → s.edge.0 < n

-- the steps below a number have been followed
pub record IsFollowed (edges : List Edge) (firsts : List ℕ) (f : FieldId) (cut : List ℕ) (steps : List Step) (places : List (Option ℕ)) (n : ℕ) : Type 0 where
  pub paths : List (List EdgeId)
  pub search : IsSearch edges firsts f cut steps places paths
  pub rooted : IsRooted edges f cut steps paths (length edges)
  pub closed : IsClosed edges cut steps paths n
  pub earlier : ComeBefore steps n
  pub within : n ≤ length steps

-- the step at a place is along an edge
pub record IsAlong (steps : List Step) (n e : ℕ) : Type 0 where
  pub step : Step
  pub stands : slice_get steps n ≡ Some step
  pub edge : step.edge.0 ≡ e

-- and so have the first of the edges from the site of the next step
pub record IsFollowing (edges : List Edge) (firsts : List ℕ) (f : FieldId) (cut : List ℕ) (steps : List Step) (places : List (Option ℕ)) (n e : ℕ)
    (row : List ℕ) (t : ℕ) : Type 0 where
  pub paths : List (List EdgeId)
  pub next : IsAlong steps n e
  pub search : IsSearch edges firsts f cut steps places paths
  pub rooted : IsRooted edges f cut steps paths (length edges)
  pub closed : IsClosed edges cut steps paths n
  pub earlier : ComeBefore steps (n + 1)
  pub here : (m k : ℕ) (next : Edge) → m < t → slice_get row m ≡ Some k → slice_get edges k ≡ Some next → has cut k ≡ false
      → IsReached edges steps paths (end_of next) (path_at paths n ++ edge_id k ∷ [])
  pub ahead : (j m k : ℕ) → j < length steps → t < m + 1 → slice_get row m ≡ Some k → IsBefore (path_at paths j) (path_at paths n ++ edge_id k ∷ [])

-- ---- one edge

-- nothing changed: the edge is cut, or the site at which it ends has been found
pub record IsPassedBy (firsts : List ℕ) (marks : List Bool) (old new : Search) (k : ℕ) : Type 0 where
  pub steps : new.steps.items ≡ old.steps.items
  pub places : new.places.items ≡ old.places.items
  pub why : (slice_index_or marks k false ≡ true) ⊎ ((j : ℕ) × (place_at old.places.items (slice_index firsts k) ≡ Some j))

-- a step along the edge was added
pub record IsTaken (firsts : List ℕ) (marks : List Bool) (old new : Search) (k : ℕ) (before : Option ℕ) : Type 0 where
  pub free : slice_index_or marks k false ≡ false
  pub none : place_at old.places.items (slice_index firsts k) ≡ None
  pub steps : new.steps.items ≡ old.steps.items ++ record { edge = edge_id k; before = before } ∷ []
  pub places : new.places.items ≡ slice_set old.places.items (slice_index firsts k) (Some (length old.steps.items))

abbrev pub Offers : List ℕ → List Bool → Search → Search → ℕ → Option ℕ → Type 0
Offers firsts marks old new k before = IsPassedBy firsts marks old new k ⊎ IsTaken firsts marks old new k before

-- the row of the next step's site has been followed to a place
pub record IsInRow (links : Links) (f : FieldId) (cut : List ℕ) (s : Search) (n : ℕ) (row : List ℕ) (t : ℕ) : Type 0 where
  pub edge : ℕ
  pub from : Edge
  pub stands : slice_get links.edges edge ≡ Some from
  pub row_is : row ≡ row_of links.edges (slice_index links.firsts.items edge) links.edges
  pub following : IsFollowing links.edges links.firsts.items f cut s.steps.items s.places.items n edge row t

-- steps stay where they are
abbrev pub StepsStay : List Step → List Step → Type 0
StepsStay old new = (i : ℕ) (s : Step) → slice_get old i ≡ Some s → slice_get new i ≡ Some s

-- ---- a whole search

abbrev pub IsFollowedTo : Links → FieldId → List ℕ → Search → ℕ → Type 0
IsFollowedTo links f cut s n = IsFollowed links.edges links.firsts.items f cut s.steps.items s.places.items n

-- no step below a number is to a site of the goal
abbrev pub MissBelow : List Edge → List Step → List ℕ → ℕ → Type 0
MissBelow edges steps goal n =
    (i : ℕ) (s : Step) (edge : Edge) → i < n → slice_get steps i ≡ Some s → slice_get edges s.edge.0 ≡ Some edge → has goal (end_of edge) ≡ false

-- the step is to a site of the goal
pub record Arrives (edges : List Edge) (steps : List Step) (goal : List ℕ) (at : ℕ) : Type 0 where
  pub step : Step
  pub stands : slice_get steps at ≡ Some step
  pub edge : Edge
  pub edge_stands : slice_get edges step.edge.0 ≡ Some edge
  pub arrives : has goal (end_of edge) ≡ true

-- a search stopped at the first step to a site of the goal
pub record IsStopped (links : Links) (f : FieldId) (goal cut : List ℕ) (s : Search) (at : ℕ) : Type 0 where
  pub followed : IsFollowedTo links f cut s at
  pub misses : MissBelow links.edges s.steps.items goal at
  pub hits : Arrives links.edges s.steps.items goal at

-- a search went on to its end, and came to no site of the goal
pub record IsOver (links : Links) (f : FieldId) (goal cut : List ℕ) (s : Search) : Type 0 where
  pub followed : IsFollowedTo links f cut s (length s.steps.items)
  pub misses : MissBelow links.edges s.steps.items goal (length s.steps.items)

abbrev pub Ends : Links → FieldId → List ℕ → List ℕ → Search → Option ℕ → Type 0
Ends links f goal cut s None = IsOver links f goal cut s
Ends links f goal cut s (Some at) = IsStopped links f goal cut s at

-- ---- the nearest of several sites

-- the place of a site's step, by the table
abbrev pub site_place : List Edge → List (Option ℕ) → ℕ → Option ℕ
site_place edges places x = option_and_then (place_at places) (first_at edges x)

abbrev pub lesser_of : Option ℕ → Option ℕ → Option ℕ
lesser_of None b = b
lesser_of (Some a) None = Some a
lesser_of (Some a) (Some b) = Some (min a b)

-- the least place of a site of the goal; none where no site of it has a place
abbrev pub IsNearest : List Edge → List (Option ℕ) → List ℕ → Option ℕ → Type 0
IsNearest edges places goal None = (x : ℕ) → has goal x ≡ true → site_place edges places x ≡ None
IsNearest edges places goal (Some at) =
    ((x : ℕ) × (has goal x ≡ true) × (site_place edges places x ≡ Some at))
    × ((x j : ℕ) → has goal x ≡ true → site_place edges places x ≡ Some j → at ≤ j)

-- ---- a path read back

-- the path of a step, whatever the paths of the steps before it are
abbrev pub TellsPath : List Step → ℕ → List EdgeId → Type 0
TellsPath steps at path = (paths : List (List EdgeId)) → ArePaths steps paths → path ≡ path_at paths at
