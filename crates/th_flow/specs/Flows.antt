-- What leads to a node, calls a method, or may enter an initialiser, and lists of it.
use Rattle.std.specs.Prelude.{ℕ, ◌≡◌, ◌↔◌, true, List, length, map, Option, None, Some, slice_get}
use Rattle.th_base.specs.declared.class.ClassInfo.{ClassInfo}
use Rattle.th_base.specs.declared.number.ClassId.{ClassId}
use Rattle.th_base.specs.declared.number.MethodId.{MethodId}
use Rattle.th_base.specs.declared.number.NodeId.{NodeId}
use Rattle.th_base.specs.declared.number.Reg.{Reg}
use Rattle.th_base.specs.IdSet.{has, IsAscending}
use Rattle.th_ir.specs.declared.facts.Facts.{Facts}
use Rattle.th_ir.specs.declared.program.RegProgram.{RegProgram}
use Rattle.th_ir.specs.declared.program.Method.{Method}
use Rattle.th_ir.specs.declared.program.Node.{Node}
use Rattle.th_ir.specs.declared.stmt.Stmt.TheVariants.{Init, Copy}
use Rattle.th_ir.specs.Calls.{IsInitialiser}
use Rattle.th_ir.specs.FactSets.{sets_of}
use Rattle.th_ir.specs.Flow.{FlowsTo, IsLoopHead}
use Rattle.th_ir.specs.Program.{Among, method_at, node_at}

-- a node is a predecessor of another: its successors have it
abbrev pub Precedes : RegProgram → ℕ → ℕ → Type 0
Precedes p n before = FlowsTo p before n

-- a node of the program may call a method, by the call graph
pub record IsCaller (p : RegProgram) (facts : Facts) (m n : ℕ) : Type 0 where
  pub node : Node
  pub stands : node_at p n ≡ Some node
  pub calls : (sets_of facts).call n m ≡ true

-- a node initialises a class, and the method is the initialiser of it or of a superclass of it
pub record IsInitSite (h : List ClassInfo) (p : RegProgram) (m n : ℕ) : Type 0 where
  pub node : Node
  pub stands : node_at p n ≡ Some node
  pub class : ClassId
  pub initialises : node.stmt ≡ Init class
  pub enters : IsInitialiser h class.0 m

-- the node is marked as a loop head
pub record IsMarked (p : RegProgram) (n : ℕ) : Type 0 where
  pub node : Node
  pub stands : node_at p n ≡ Some node
  pub marked : node.loop_head ≡ true

-- loop heads are marked, and nothing else is, as in every well-formed program
abbrev pub MarksLoopHeads : RegProgram → Type 0
MarksLoopHeads p = (n : ℕ) (node : Node) → node_at p n ≡ Some node → (node.loop_head ≡ true) ↔ IsLoopHead p n

-- a Copy that leads to a node sets the register
pub record IsMergeRegister (p : RegProgram) (n r : ℕ) : Type 0 where
  pub source : ℕ
  pub node : Node
  pub stands : node_at p source ≡ Some node
  pub pairs : List (Reg × Reg)
  pub copies : node.stmt ≡ Copy pairs
  pub flows : FlowsTo p source n
  pub pair : Reg × Reg
  pub among : Among pairs pair
  pub sets : pair.0.0 ≡ r

-- the node is one of the method, and its entry
pub record IsEntered (p : RegProgram) (n m : ℕ) : Type 0 where
  pub node : Node
  pub stands : node_at p n ≡ Some node
  pub within : node.method.0 ≡ m
  pub method : Method
  pub method_stands : method_at p m ≡ Some method
  pub entry : method.entry.0 ≡ n

-- the method whose entry a node is; none exactly where it is no method's
abbrev pub TellsEntered : RegProgram → ℕ → Option MethodId → Type 0
TellsEntered p n None = (m : ℕ) → IsEntered p n m → ⊥
TellsEntered p n (Some m) = IsEntered p n m.0

-- ---- lists

abbrev pub numbers_of : List NodeId → List ℕ
numbers_of nodes = map (λ n. n.0) nodes

-- exactly the nodes of which something holds, ascending
pub record Lists (holds : ℕ → Type 0) (nodes : List NodeId) : Type 0 where
  pub members : (n : ℕ) → (has (numbers_of nodes) n ≡ true) ↔ holds n
  pub ascend : IsAscending (numbers_of nodes)

-- for each number below a count such a list
pub record ListEach (count : ℕ) (holds : ℕ → ℕ → Type 0) (lists : List (List NodeId)) : Type 0 where
  pub count_is : length lists ≡ count
  pub each : (k : ℕ) (nodes : List NodeId) → slice_get lists k ≡ Some nodes → Lists (holds k) nodes
