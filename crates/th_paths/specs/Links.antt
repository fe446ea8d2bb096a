-- Private to the crate: which edges follow which, listed once for a graph. A site that edges end at is
-- known by the first of them.
use Rattle.std.specs.Prelude.{ℕ, ◌≡◌, ◌<◌, ◌^◌, ◌==◌, Bool, false, List, [], length, map, Option}
use Rattle.std.specs.List.{position_from, slice_index_or}
use Rattle.std.specs.Option.{option_and_then, option_map_or, unwrap_or}
use Rattle.std.specs.Ordering.{nat_cmp}
use Rattle.std.specs.BTreeMap as tree
use Rattle.th_ir.specs.declared.graph.Edge.{Edge}
use Rattle.th_ir.specs.WellFormed.{places_from}
use Rattle.th_paths.specs.Paths.{end_of, start_of}
use Rattle.th_paths.specs.declared.links.Links.{Links}

-- the first edge that ends at a site
abbrev pub first_at : List Edge → ℕ → Option ℕ
first_at edges x = position_from (λ e. end_of e == x) 0 edges

-- what a table has for a site
abbrev pub first_in : tree.BTreeMap ℕ ℕ → ℕ → Option ℕ
first_in sites x = tree.get nat_cmp sites x

abbrev pub FindsFirsts : List Edge → tree.BTreeMap ℕ ℕ → Type 0
FindsFirsts edges sites = (x : ℕ) → first_in sites x ≡ first_at edges x

-- for each edge the first that ends at the same site
abbrev pub firsts_of : List Edge → List ℕ
firsts_of edges = map (λ e. unwrap_or (first_at edges (end_of e)) 0) edges

-- the edge starts at the site that is known by this edge
abbrev pub follows : List Edge → ℕ → Edge → Bool
follows edges r e = option_map_or (λ first. first == r) (option_and_then (first_at edges) (start_of e)) false

-- the edges of a list that start at the site that is known by an edge, ascending
abbrev pub row_of : List Edge → ℕ → List Edge → List ℕ
row_of edges r list = places_from (follows edges r) 0 list

abbrev pub row_at : List (List ℕ) → ℕ → List ℕ
row_at rows r = slice_index_or rows r []

-- the tables are those of the edges
pub record AreLinks (links : Links) : Type 0 where
  pub few : length links.edges < 2 ^ 32
  pub sites : FindsFirsts links.edges links.sites
  pub firsts : links.firsts.items ≡ firsts_of links.edges
  pub rows : (r : ℕ) → row_at links.out.items r ≡ row_of links.edges r links.edges
  pub count : length links.out.items ≡ length links.edges
