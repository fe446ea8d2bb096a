-- What a method writes and makes with all that it may call and initialise, by the ways that lead there.
use Rattle.std.specs.Prelude.{ℕ, ◌≡◌, ◌↔◌, ◌⊎◌, true, List, Option, Some}
use Rattle.th_base.specs.declared.class.ClassInfo.{ClassInfo}
use Rattle.th_base.specs.declared.number.ClassId.{ClassId}
use Rattle.th_base.specs.declared.number.MethodId.{MethodId}
use Rattle.th_base.specs.declared.number.Reg.{Reg}
use Rattle.th_ir.specs.declared.program.Node.{Node}
use Rattle.th_ir.specs.declared.program.RegProgram.{RegProgram}
use Rattle.th_ir.specs.declared.stmt.CallKind.{CallKind}
use Rattle.th_ir.specs.declared.stmt.Stmt.{Stmt}
use Rattle.th_ir.specs.declared.stmt.Stmt.TheVariants.{PutStatic, PutField, PutElem, New, NewArray, Call, Init}
use Rattle.th_ir.specs.Calls.{IsInitialiser}
use Rattle.th_ir.specs.FactSets.{FactSets}
use Rattle.th_ir.specs.Program.{node_at}
use Rattle.th_ir.specs.Summaries.{ModSets}

-- a run of the first method may come to run the second: that is itself, or a call in the graph or an
-- initialisation leads there
pub data MayRun (h : List ClassInfo) (p : RegProgram) (t : FactSets) : ℕ → ℕ → Type 0 where
  itself : (m : ℕ) → MayRun h p t m m
  by_call : (n : ℕ) (node : Node) (dst : Option Reg) (kind : CallKind) (k : MethodId) (args : List Reg) (to last : ℕ)
      → node_at p n ≡ Some node → node.stmt ≡ Call dst kind k args → t.call n to ≡ true → MayRun h p t to last
      → MayRun h p t node.method.0 last
  by_init : (n : ℕ) (node : Node) (c : ClassId) (to last : ℕ) → node_at p n ≡ Some node → node.stmt ≡ Init c → IsInitialiser h c.0 to
      → MayRun h p t to last → MayRun h p t node.method.0 last

-- a node of the method has this statement
pub record HasStatement (p : RegProgram) (m : ℕ) (stmt : Stmt) : Type 0 where
  pub place : ℕ
  pub node : Node
  pub stands : node_at p place ≡ Some node
  pub within : node.method.0 ≡ m
  pub is : node.stmt ≡ stmt

abbrev pub WritesField : RegProgram → ℕ → ℕ → Type 0
WritesField p m f = (base : Reg) × (src : Reg) × HasStatement p m (PutField base record { 0 = f } src)

abbrev pub WritesStatic : RegProgram → ℕ → ℕ → Type 0
WritesStatic p m f = (src : Reg) × HasStatement p m (PutStatic record { 0 = f } src)

abbrev pub WritesElements : RegProgram → ℕ → Type 0
WritesElements p m = (array : Reg) × (src : Reg) × HasStatement p m (PutElem array src)

abbrev pub MakesObjects : RegProgram → ℕ → ℕ → Type 0
MakesObjects p m s = (dst : Reg) × HasStatement p m (New dst record { 0 = s })

abbrev pub MakesArrays : RegProgram → ℕ → ℕ → Type 0
MakesArrays p m s = (dst : Reg) × (count : Reg) × HasStatement p m (NewArray dst record { 0 = s } count)

-- each summary tells exactly what some method writes and makes that a run of its own may come to run
pub record AreTransitive (h : List ClassInfo) (p : RegProgram) (t : FactSets) (s : ModSets) : Type 0 where
  pub fields : (m f : ℕ) → (s.fields m f ≡ true) ↔ ((last : ℕ) × MayRun h p t m last × WritesField p last f)
  pub statics : (m f : ℕ) → (s.statics m f ≡ true) ↔ ((last : ℕ) × MayRun h p t m last × WritesStatic p last f)
  pub elements : (m : ℕ) → (s.elements m ≡ true) ↔ ((last : ℕ) × MayRun h p t m last × WritesElements p last)
  pub sites : (m x : ℕ) → (s.sites m x ≡ true) ↔ ((last : ℕ) × MayRun h p t m last × (MakesObjects p last x ⊎ MakesArrays p last x))
