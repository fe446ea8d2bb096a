-- What is asked of facts so far.
use Rattle.std.specs.Prelude.{ℕ, ◌≡◌, ◌<◌, ◌+◌, ◌-◌, nat_lt, Bool, true, false, List, ◌++◌, length, Some, slice_get, Contains, if◌then◌else◌}
use Rattle.std.specs.Option.{option_map_or}
use Rattle.th_base.specs.IdSet.{has}
use Rattle.th_incl.specs.Least.{set_at, pair_count, IsClosed, IsInRange}
use Rattle.th_ir.specs.declared.program.Node.{Node}
use Rattle.th_ir.specs.declared.program.RegProgram.{RegProgram}
use Rattle.th_ir.specs.FactSets.{FactSets}
use Rattle.th_ir.specs.Program.{node_at}
use Rattle.th_points_to.specs.declared.found.Found.{Found}
use Rattle.th_points_to.specs.declared.found.TheConstants.{EVERY_SITE}
use Rattle.th_points_to.specs.declared.place.Layout.{Layout}
use Rattle.th_points_to.specs.declared.place.Place.{Place}
use Rattle.th_points_to.specs.Asked.{Goes}
use Rattle.th_points_to.specs.Places.{at, IsThere, AreInRange}

-- what facts say of the set of a number
abbrev pub holds : Layout → List (ℕ × ℕ) → FactSets → ℕ → ℕ → Bool
holds l cells t i x =
    if nat_lt i l.registers then t.reg i x
    else if nat_lt i (l.registers + l.fields) then t.static (i - l.registers) x
    else if nat_lt i l.first_cell then t.elem (i - (l.registers + l.fields)) x
    else option_map_or (λ c. t.cell c.0 c.1 x) (slice_get cells (i - l.first_cell)) false

-- the set is that of the place
pub record IsSet (l : Layout) (g : Found) (place : Place) (i : ℕ) : Type 0 where
  pub there : IsThere l place
  pub inside : i < g.solver.constraints.sets
  pub same : (t : FactSets) (x : ℕ) → holds l g.cells.keys t i x ≡ at t place x

pub record IsCell (l : Layout) (g : Found) (i s f : ℕ) : Type 0 where
  pub inside : i < g.solver.constraints.sets
  pub same : (t : FactSets) (x : ℕ) → holds l g.cells.keys t i x ≡ t.cell s f x

-- the places have their sets in order; what constraints name is there; the first filter passes every site
pub record IsLaid (l : Layout) (g : Found) : Type 0 where
  pub first : l.first_cell ≡ l.registers + l.fields + l.sites
  pub count : g.solver.constraints.sets ≡ l.first_cell + length g.cells.keys
  pub range : IsInRange g.solver.constraints
  pub sites : (i x : ℕ) → Contains g.solver.constraints.base (i, x) → x < l.sites
  pub filters : EVERY_SITE < length g.solver.constraints.filters
  pub every : (x : ℕ) → x < l.sites → has (set_at g.solver.constraints.filters EVERY_SITE) x ≡ true

-- facts hold all that is asked so far
pub record Holds (l : Layout) (g : Found) (t : FactSets) : Type 0 where
  pub sets : IsClosed g.solver.constraints (holds l g.cells.keys t)
  pub calls : (n m : ℕ) → Contains g.calls.keys (n, m) → t.call n m ≡ true
  pub reached : (m : ℕ) → Contains g.reached.keys m → t.reached m ≡ true

-- all that calls ask is asked
abbrev pub CallsGo : Layout → RegProgram → Found → Type 0
CallsGo l p g = (t : FactSets) → AreInRange l t → Holds l g t → (n m : ℕ) → Contains g.calls.keys (n, m)
    → (node : Node) → node_at p n ≡ Some node → Goes l p t node.stmt m

-- the places keep their sets, filters and sets stay, and methods that may run come last
pub record Keeps (l : Layout) (g g' : Found) : Type 0 where
  pub laid : IsLaid l g'
  pub filters : g'.solver.constraints.filters ≡ g.solver.constraints.filters
  pub grown : g'.solver.grown ≡ g.solver.grown
  pub pairs : pair_count g'.solver.sets ≡ pair_count g.solver.sets
  pub order : (rest : List ℕ) × (g'.reached.keys ≡ g.reached.keys ++ rest)

-- this is asked too, and nothing else; the sets stay as they are
pub record Adds (l : Layout) (p : RegProgram) (g g' : Found) (P : FactSets → Type 0) : Type 0 where
  pub laid : IsLaid l g'
  pub go : CallsGo l p g → CallsGo l p g'
  pub sound : (t : FactSets) → Holds l g t → P t → Holds l g' t
  pub complete : (t : FactSets) → AreInRange l t → Holds l g' t → Holds l g t × P t
  pub filters : g'.solver.constraints.filters ≡ g.solver.constraints.filters
  pub grown : g'.solver.grown ≡ g.solver.grown
  pub sets : (i : ℕ) → set_at g'.solver.sets i ≡ set_at g.solver.sets i
  pub stays : (i : ℕ) → i < g.solver.constraints.sets
      → (i < g'.solver.constraints.sets) × ((t : FactSets) (x : ℕ) → holds l g'.cells.keys t i x ≡ holds l g.cells.keys t i x)
  pub order : (rest : List ℕ) × (g'.reached.keys ≡ g.reached.keys ++ rest)
