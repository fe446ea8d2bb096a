-- Facts that list what was found.
use Rattle.std.specs.Prelude.{ℕ, ◌≡◌, ◌==◌, ◌&&◌, ◌<◌, ◌≤◌, ◌+◌, ◌↔◌, Bool, true, false, List, [], ◌∷◌, ◌++◌, map, take, drop, position, Some, slice_get, Contains}
use Rattle.std.specs.List.{list_any}
use Rattle.std.specs.declared.cmp.Ordering.{Ordering}
use Rattle.std.specs.Ordering.{ordering_then, nat_cmp}
use Rattle.std.specs.Option.{option_map_or}
use Rattle.th_base.specs.declared.class.ClassInfo.{ClassInfo}
use Rattle.th_base.specs.declared.number.FieldId.{FieldId}
use Rattle.th_base.specs.declared.number.MethodId.{MethodId}
use Rattle.th_base.specs.declared.number.NodeId.{NodeId}
use Rattle.th_base.specs.declared.number.SiteId.{SiteId}
use Rattle.th_base.specs.IdSet.{has, IsAscending}
use Rattle.th_incl.specs.Least.{set_at}
use Rattle.th_ir.specs.declared.facts.Facts.{Facts}
use Rattle.th_ir.specs.declared.program.RegProgram.{RegProgram}
use Rattle.th_ir.specs.FactSets.{sets_of, AscendBy, AreListed}
use Rattle.th_points_to.specs.declared.found.Found.{Found}
use Rattle.th_points_to.specs.declared.listing.Parts.{Parts}
use Rattle.th_points_to.specs.declared.place.Layout.{Layout}

-- ---- what the facts say

-- a cell has a set, and the set has the site
pub record HasCell (l : Layout) (g : Found) (s f x : ℕ) : Type 0 where
  pub place : ℕ
  pub key : slice_get g.cells.keys place ≡ Some (s, f)
  pub member : has (set_at g.solver.sets (l.first_cell + place)) x ≡ true

pub record IsListing (h : List ClassInfo) (l : Layout) (p : RegProgram) (g : Found) (facts : Facts) : Type 0 where
  pub reg : (r x : ℕ) → r < l.registers → (sets_of facts).reg r x ≡ has (set_at g.solver.sets r) x
  pub no_reg : (r x : ℕ) → l.registers ≤ r → (sets_of facts).reg r x ≡ false
  pub static : (f x : ℕ) → f < l.fields → (sets_of facts).static f x ≡ has (set_at g.solver.sets (l.registers + f)) x
  pub no_static : (f x : ℕ) → l.fields ≤ f → (sets_of facts).static f x ≡ false
  pub elem : (s x : ℕ) → s < l.sites → (sets_of facts).elem s x ≡ has (set_at g.solver.sets (l.registers + l.fields + s)) x
  pub no_elem : (s x : ℕ) → l.sites ≤ s → (sets_of facts).elem s x ≡ false
  pub cell : (s f x : ℕ) → ((sets_of facts).cell s f x ≡ true) ↔ HasCell l g s f x
  pub call : (n m : ℕ) → ((sets_of facts).call n m ≡ true) ↔ Contains g.calls.keys (n, m)
  pub reached : (m : ℕ) → ((sets_of facts).reached m ≡ true) ↔ Contains g.reached.keys m
  pub listed : AreListed h p facts

-- no cell has two sets
abbrev pub AreOnce : List (ℕ × ℕ) → Type 0
AreOnce keys = (i k : ℕ) (d : ℕ × ℕ) → slice_get keys i ≡ Some d → slice_get keys k ≡ Some d → i ≡ k

-- ---- the lists

-- an entry with the set, where it isn't empty
abbrev pub with_set : {X : Type 0} → (List ℕ → X) → List ℕ → List X
with_set entry [] = []
with_set entry (x ∷ xs) = entry (x ∷ xs) ∷ []

-- the sites from a number on, with their sets
abbrev pub elements_from : ℕ → List (List ℕ) → List (SiteId × List ℕ)
elements_from n [] = []
elements_from n (xs ∷ sets) = with_set (λ ys. (record { 0 = n }, ys)) xs ++ elements_from (n + 1) sets

-- cells with their sets
abbrev pub cells_of : (ℕ × ℕ → List ℕ) → List (ℕ × ℕ) → List (SiteId × FieldId × List ℕ)
cells_of set [] = []
cells_of set (d ∷ ds) = with_set (λ ys. (record { 0 = d.0 }, record { 0 = d.1 }, ys)) (set d) ++ cells_of set ds

abbrev pub is_pair : ℕ × ℕ → ℕ × ℕ → Bool
is_pair d e = e.0 == d.0 && e.1 == d.1

-- pairs by their first numbers, and then by their second
abbrev pub pair_cmp : ℕ × ℕ → ℕ × ℕ → Ordering
pair_cmp x y = ordering_then (nat_cmp x.0 y.0) (nat_cmp x.1 y.1)

abbrev pub pair_key : ℕ × ℕ → List ℕ
pair_key d = d.0 ∷ d.1 ∷ []

-- the same pairs, ascending, each once
pub record AreAscendingPairs (pairs ordered : List (ℕ × ℕ)) : Type 0 where
  pub same : (d : ℕ × ℕ) → list_any (is_pair d) ordered ≡ list_any (is_pair d) pairs
  pub ascend : AscendBy pair_key ordered

-- the set of a cell, where sets stand in the order of the cells
abbrev pub cell_set : List (ℕ × ℕ) → (ℕ → List ℕ) → ℕ × ℕ → List ℕ
cell_set cells set d = option_map_or set (position (λ e. d.0 == e.0 && d.1 == e.1) cells) []

-- the cells with their sets, ascending
pub record AreListedCells (cells : List (ℕ × ℕ)) (set : ℕ → List ℕ) (list : List (SiteId × FieldId × List ℕ)) : Type 0 where
  pub ordered : List (ℕ × ℕ)
  pub pairs : AreAscendingPairs cells ordered
  pub is : list ≡ cells_of (cell_set cells set) ordered

abbrev pub call_of : ℕ × ℕ → NodeId × MethodId
call_of d = (record { 0 = d.0 }, record { 0 = d.1 })

pub record AreListedCalls (calls : List (ℕ × ℕ)) (list : List (NodeId × MethodId)) : Type 0 where
  pub ordered : List (ℕ × ℕ)
  pub pairs : AreAscendingPairs calls ordered
  pub is : list ≡ map call_of ordered

-- the sets of each kind of place: of registers, of static fields and other fields, of elements, and of cells
pub record AreParts (l : Layout) (keys : List (ℕ × ℕ)) (sets : List (List ℕ)) (parts : Parts) : Type 0 where
  pub regs : parts.regs ≡ take l.registers sets
  pub statics : parts.statics ≡ take l.fields (drop l.registers sets)
  pub elems : parts.elems ≡ elements_from 0 (take l.sites (drop (l.registers + l.fields) sets))
  pub cells : AreListedCells keys (λ place. set_at sets (l.first_cell + place)) parts.cells

pub record IsListed (l : Layout) (g : Found) (facts : Facts) : Type 0 where
  pub regs : facts.regs ≡ take l.registers g.solver.sets
  pub statics : facts.statics ≡ take l.fields (drop l.registers g.solver.sets)
  pub elems : facts.elems ≡ elements_from 0 (take l.sites (drop (l.registers + l.fields) g.solver.sets))
  pub cells : AreListedCells g.cells.keys (λ place. set_at g.solver.sets (l.first_cell + place)) facts.cells
  pub calls : AreListedCalls g.calls.keys facts.calls
  pub reached : (x : ℕ) → has facts.reached x ≡ has g.reached.keys x
  pub reached_ascends : IsAscending facts.reached
