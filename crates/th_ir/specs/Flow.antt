-- The flow of a method: where nodes lead, and which are loop heads.
use Rattle.std.specs.Prelude.{ℕ, ◌≡◌, List, Some}
use Rattle.th_base.specs.declared.number.NodeId.{NodeId}
use Rattle.th_base.specs.declared.number.Reg.{Reg}
use Rattle.th_ir.specs.declared.program.RegProgram.{RegProgram}
use Rattle.th_ir.specs.declared.program.Node.{Node}
use Rattle.th_ir.specs.declared.stmt.Stmt.TheVariants.{Copy}
use Rattle.th_ir.specs.Program.{Among, node_at}

-- a node is a successor of another
pub record FlowsTo (p : RegProgram) (n to : ℕ) : Type 0 where
  pub node : Node
  pub stands : node_at p n ≡ Some node
  pub next : NodeId
  pub follows : Among node.next next
  pub number : next.0 ≡ to

-- a path of one edge or more leads from a node to another
pub data LeadsOn (p : RegProgram) (n : ℕ) : ℕ → Type 0 where
  one : {to : ℕ} → FlowsTo p n to → LeadsOn p n to
  more : {via to : ℕ} → LeadsOn p n via → FlowsTo p via to → LeadsOn p n to

-- the node is the first of an instruction at which edges merge: a Copy leads to it
pub record IsMergePoint (p : RegProgram) (n : ℕ) : Type 0 where
  pub source : ℕ
  pub node : Node
  pub stands : node_at p source ≡ Some node
  pub pairs : List (Reg × Reg)
  pub copies : node.stmt ≡ Copy pairs
  pub flows : FlowsTo p source n

-- a merge point from which the flow leads back to it
pub record IsLoopHead (p : RegProgram) (n : ℕ) : Type 0 where
  pub merges : IsMergePoint p n
  pub returns : LeadsOn p n n
