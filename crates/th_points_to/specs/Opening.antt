-- What nodes ask when their methods come to run, and when sites come to their bases.
use Rattle.std.specs.Prelude.{ℕ, ◌≡◌, Bool, true, false, List, Some}
use Rattle.std.specs.List.{AllByRecursion, slice_index_or}
use Rattle.th_base.specs.declared.class.ClassInfo.{ClassInfo}
use Rattle.th_base.specs.declared.number.Reg.{Reg}
use Rattle.th_incl.specs.Least.{set_at}
use Rattle.th_ir.specs.declared.program.Node.{Node}
use Rattle.th_ir.specs.declared.program.RegProgram.{RegProgram}
use Rattle.th_ir.specs.declared.stmt.Stmt.{Stmt}
use Rattle.th_ir.specs.FactSets.{FactSets}
use Rattle.th_ir.specs.Program.{node_at}
use Rattle.th_points_to.specs.declared.place.Layout.{Layout}
use Rattle.th_points_to.specs.Asked.{Asks, AsksOn, base_of}

-- the method is open: its nodes ask
abbrev pub IsOpen : List Bool → ℕ → Type 0
IsOpen entered m = slice_index_or entered m false ≡ true

-- what the node asks of each of these sites
abbrev pub AsksOnAll : List ClassInfo → Layout → RegProgram → FactSets → ℕ → Stmt → List ℕ → Type 0
AsksOnAll h l p t n stmt sites = AllByRecursion (λ a. AsksOn h l p t n stmt record { 0 = a }) sites

-- what a node asks at once, and of the sites of its base that were looked at
pub record Opens (h : List ClassInfo) (l : Layout) (p : RegProgram) (handled : List (List ℕ)) (t : FactSets) (n : ℕ)
    (stmt : Stmt) : Type 0 where
  pub asks : Asks h l p t n stmt
  pub on : (r : Reg) → base_of stmt ≡ Some r → AsksOnAll h l p t n stmt (set_at handled r.0)

abbrev pub OpensAt : List ClassInfo → Layout → RegProgram → List (List ℕ) → FactSets → ℕ → Type 0
OpensAt h l p handled t n = (node : Node) → node_at p n ≡ Some node → Opens h l p handled t n node.stmt

-- what the node asks of these sites, where its method is open
abbrev pub MeetsAt : List ClassInfo → Layout → RegProgram → List Bool → List ℕ → FactSets → ℕ → Type 0
MeetsAt h l p entered sites t n = (node : Node) → node_at p n ≡ Some node → IsOpen entered node.method.0
    → AsksOnAll h l p t n node.stmt sites
