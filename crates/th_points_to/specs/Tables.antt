-- What is looked up in tables of a program.
use Rattle.std.specs.Prelude.{ℕ, ◌≡◌, ◌<◌, true, List, length, Option, None, Some, slice_get, if◌then◌else◌}
use Rattle.std.specs.List.{slice_index_or}
use Rattle.th_base.specs.declared.class.ClassInfo.{ClassInfo}
use Rattle.std.specs.Option.{option_map}
use Rattle.th_base.specs.declared.number.ClassId.{ClassId}
use Rattle.th_base.specs.declared.number.Reg.{Reg}
use Rattle.th_base.specs.Subtype.{class_named}
use Rattle.th_ir.specs.declared.program.Site.{Site}
use Rattle.th_base.specs.IdSet.{has}
use Rattle.th_incl.specs.Least.{set_at}
use Rattle.th_ir.specs.declared.program.Node.{Node}
use Rattle.th_ir.specs.declared.program.RegProgram.{RegProgram}
use Rattle.th_ir.specs.declared.stmt.Stmt.TheVariants.{Return}
use Rattle.th_ir.specs.Program.{node_at}
use Rattle.th_ir.specs.Sites.{can_store, is_array_text, is_ref_array, launch_class}
use Rattle.th_points_to.specs.declared.place.Layout.{Layout}
use Rattle.th_points_to.specs.declared.tables.Tables.{Tables}
use Rattle.th_points_to.specs.Asked.{base_of}

-- a node of the method returns the register
pub record Returns (p : RegProgram) (m r : ℕ) : Type 0 where
  pub place : ℕ
  pub node : Node
  pub stands : node_at p place ≡ Some node
  pub within : node.method.0 ≡ m
  pub is : node.stmt ≡ Return (Some record { 0 = r })

-- the registers that each method returns
pub record AreReturned (p : RegProgram) (returned : List (List ℕ)) : Type 0 where
  pub len : length returned ≡ length p.methods
  pub all : (m r : ℕ) → m < length p.methods → Returns p m r → has (set_at returned m) r ≡ true
  pub only : (m r : ℕ) → has (set_at returned m) r ≡ true → Returns p m r

-- the sites of the launches of each class
pub record AreLaunched (h : List ClassInfo) (p : RegProgram) (launched : List (List ℕ)) : Type 0 where
  pub len : length launched ≡ length h
  pub all : (k s : ℕ) → k < length h → launch_class p s ≡ Some k → has (set_at launched k) s ≡ true
  pub only : (k s : ℕ) → has (set_at launched k) s ≡ true → launch_class p s ≡ Some k

-- for each site of arrays of references the number of the filter of what may stand in them
pub record AreFilters (h : List ClassInfo) (p : RegProgram) (filters : List (List ℕ)) (numbers : List ℕ) : Type 0 where
  pub len : length numbers ≡ length p.sites
  pub inside : (a : ℕ) → a < length p.sites → slice_index_or numbers a 0 < length filters
  pub exact : (a x : ℕ) → a < length p.sites → is_ref_array p a ≡ true
      → has (set_at filters (slice_index_or numbers a 0)) x ≡ can_store h p a x

-- the class of what a site makes; none for arrays
abbrev pub class_of : List ClassInfo → Site → Option ℕ
class_of h site = if is_array_text site.class then None else class_named h site.class

-- the class of each site
pub record AreClasses (h : List ClassInfo) (sites : List Site) (classes : List (Option ClassId)) : Type 0 where
  pub len : length classes ≡ length sites
  pub each : (s : ℕ) (site : Site) → slice_get sites s ≡ Some site
      → option_map (λ class. class.0) (slice_index_or classes s None) ≡ class_of h site

-- the nodes of each method
pub record AreNodesOf (p : RegProgram) (nodes : List (List ℕ)) : Type 0 where
  pub len : length nodes ≡ length p.methods
  pub all : (n : ℕ) (node : Node) → node_at p n ≡ Some node → node.method.0 < length p.methods → has (set_at nodes node.method.0) n ≡ true
  pub only : (m n : ℕ) → has (set_at nodes m) n ≡ true → (node : Node) → node_at p n ≡ Some node → node.method.0 ≡ m

-- the nodes whose base is each register
pub record AreBased (l : Layout) (p : RegProgram) (based : List (List ℕ)) : Type 0 where
  pub len : length based ≡ l.registers
  pub all : (n : ℕ) (node : Node) (r : Reg) → node_at p n ≡ Some node → base_of node.stmt ≡ Some r → r.0 < l.registers
      → has (set_at based r.0) n ≡ true
  pub only : (r n : ℕ) → has (set_at based r) n ≡ true → (node : Node) → node_at p n ≡ Some node → base_of node.stmt ≡ Some record { 0 = r }

pub record AreTables (h : List ClassInfo) (l : Layout) (p : RegProgram) (fs : List (List ℕ)) (tables : Tables) : Type 0 where
  pub nodes : AreNodesOf p tables.nodes.items
  pub based : AreBased l p tables.based.items
  pub returned : AreReturned p tables.returned.items
  pub launched : AreLaunched h p tables.launched.items
  pub classes : AreClasses h p.sites tables.classes.items
  pub filters : AreFilters h p fs tables.filters.items
