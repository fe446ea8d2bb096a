-- What holds from round to round.
use Rattle.std.specs.Prelude.{ℕ, ◌≡◌, ◌<◌, ◌≤◌, ◌⊎◌, Bool, true, List, length, Some, slice_get, Contains}
use Rattle.th_base.specs.declared.class.ClassInfo.{ClassInfo}
use Rattle.std.specs.List.{AllByRecursion}
use Rattle.th_base.specs.IdSet.{has}
use Rattle.th_incl.specs.Least.{set_at, pair_count}
use Rattle.th_ir.specs.declared.program.Node.{Node}
use Rattle.th_ir.specs.declared.program.RegProgram.{RegProgram}
use Rattle.th_ir.specs.FactSets.{FactSets}
use Rattle.th_ir.specs.Program.{node_at}
use Rattle.th_ir.specs.Rules.{HoldsRules}
use Rattle.th_points_to.specs.declared.found.Found.{Found}
use Rattle.th_points_to.specs.declared.place.Layout.{Layout}
use Rattle.th_points_to.specs.declared.place.Place.TheVariants.{Static}
use Rattle.th_points_to.specs.declared.rounds.State.{State}
use Rattle.th_points_to.specs.declared.tables.Tables.{Tables}
use Rattle.th_points_to.specs.Found.{IsLaid, Holds, CallsGo}
use Rattle.th_points_to.specs.Tables.{AreTables}
use Rattle.th_points_to.specs.Initialisers.{InitsGo}
use Rattle.th_points_to.specs.Opening.{IsOpen, Opens}
use Rattle.th_points_to.specs.Places.{Gives, AreInRange}

-- the methods of the harness may run, and static fields hold their constants
pub record Begun (l : Layout) (p : RegProgram) (t : FactSets) : Type 0 where
  pub harness : AllByRecursion (λ m. t.reached m.0 ≡ true) p.harness
  pub constants : AllByRecursion (λ i. Gives l t (Static i.0) i.1.0) p.strings

-- all facts that hold the rules hold what is asked; the sites that were looked at, and the sets of registers,
-- are in all of them; a register whose set isn't what was looked at waits; open methods may run, and what
-- their nodes ask is asked
pub record IsRound (h : List ClassInfo) (l : Layout) (p : RegProgram) (handled : List (List ℕ)) (entered : List Bool)
    (waiting : List ℕ) (g : Found) : Type 0 where
  pub sound : (u : FactSets) → HoldsRules h p u → Holds l g u
  pub go : CallsGo l p g
  pub handled_sound : (u : FactSets) → HoldsRules h p u → (r a : ℕ) → has (set_at handled r) a ≡ true → u.reg r a ≡ true
  pub sets_sound : (u : FactSets) → HoldsRules h p u → (r a : ℕ) → r < l.registers → has (set_at g.solver.sets r) a ≡ true
      → u.reg r a ≡ true
  pub seen : (r : ℕ) → r < l.registers → (has waiting r ≡ true) ⊎ (set_at handled r ≡ set_at g.solver.sets r)
  pub begun : (t : FactSets) → AreInRange l t → Holds l g t → Begun l p t
  pub entered_reached : (m : ℕ) → IsOpen entered m → Contains g.reached.keys m
  pub done : (t : FactSets) → AreInRange l t → Holds l g t → (n : ℕ) (node : Node) → node_at p n ≡ Some node → IsOpen entered node.method.0
      → Opens h l p handled t n node.stmt

-- what holds of the state whatever the program: there are as many sets and flags as registers and methods, and
-- the first so many of the methods that may run are open
pub record IsState (h : List ClassInfo) (l : Layout) (p : RegProgram) (ts : Tables) (s : State) : Type 0 where
  pub laid : IsLaid l s.found
  pub tables : AreTables h l p s.found.solver.constraints.filters ts
  pub handled_len : length s.handled.items ≡ l.registers
  pub entered_len : length s.entered.items ≡ length p.methods
  pub opened : s.opened ≤ length s.found.reached.keys
  pub opened_are : (i m : ℕ) → i < s.opened → slice_get s.found.reached.keys i ≡ Some m → m < length p.methods → IsOpen s.entered.items m

-- the same of the state; and what the initialisation of the classes that were met asks is asked
pub record IsRoundOf (h : List ClassInfo) (l : Layout) (p : RegProgram) (waiting : List ℕ) (s : State) : Type 0 where
  pub round : IsRound h l p s.handled.items s.entered.items waiting s.found
  pub inits : InitsGo h l s.found s.met.keys

-- the sets have as many pairs as before, none of them grew, no open method is closed, and what may run may still run
pub record KeepsSets (s s' : State) : Type 0 where
  pub pairs : pair_count s'.found.solver.sets ≡ pair_count s.found.solver.sets
  pub grown : s'.found.solver.grown ≡ s.found.solver.grown
  pub opened : s.opened ≤ s'.opened
  pub reached : length s.found.reached.keys ≤ length s'.found.reached.keys
