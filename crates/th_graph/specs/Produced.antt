-- Where an edge that a state realises comes from: an earlier state of the same run, at a producer.
use Rattle.std.specs.Prelude.{ℕ, ◌≡◌, List, [], ◌∷◌, ◌++◌, Some}
use Rattle.th_base.specs.declared.class.ClassInfo.{ClassInfo}
use Rattle.th_ir.specs.declared.graph.Edge.{Edge}
use Rattle.th_ir.specs.declared.graph.Edge.TheVariants.{Static, Field, Element}
use Rattle.th_ir.specs.declared.graph.Producer.{Producer}
use Rattle.th_ir.specs.declared.graph.Producer.TheVariants.{Node as StoreAt, Constant}
use Rattle.th_ir.specs.declared.program.RegProgram.{RegProgram}
use Rattle.th_ir.specs.declared.program.Node.{Node}
use Rattle.th_ir.specs.declared.stmt.Stmt.{Stmt}
use Rattle.th_ir.specs.declared.stmt.Stmt.TheVariants.{PutStatic, PutField, PutElem}
use Rattle.th_ir.specs.Program.{node_at}
use Rattle.th_ir.specs.Machine.{RegFrame, RegState, initial_state}
use Rattle.th_ir.specs.FactSets.{FactSets}
use Rattle.th_ir.specs.Step.{RegRun}
use Rattle.th_ir.specs.Graph.{IsOfSite, Realises, Produces}

-- the source register of a store, and its base register if it has one, hold objects of the edge's sites
abbrev pub HoldsSites : RegState → RegFrame → Stmt → Edge → Type 0
HoldsSites s f (PutStatic g src) (Static k x) = IsOfSite s (f.regs src.0) x.0
HoldsSites s f (PutField base g src) (Field x k y) = IsOfSite s (f.regs base.0) x.0 × IsOfSite s (f.regs src.0) y.0
HoldsSites s f (PutElem array src) (Element x y) = IsOfSite s (f.regs array.0) x.0 × IsOfSite s (f.regs src.0) y.0
HoldsSites s f _ _ = ⊥

-- the innermost frame stands at the node, a store, and the store's registers hold objects of the edge's sites
pub record StandsToStore (p : RegProgram) (s : RegState) (n : ℕ) (e : Edge) : Type 0 where
  pub frame : RegFrame
  pub below : List RegFrame
  pub frames : s.frames ≡ frame ∷ below
  pub at : frame.node ≡ n
  pub node : Node
  pub stands : node_at p n ≡ Some node
  pub holds : HoldsSites s frame node.stmt e

-- the state is the first of its run, the initial one, and realises the edge
pub record IsFirst (h : List ClassInfo) (p : RegProgram) (s : RegState) (earlier : List RegState) (e : Edge) : Type 0 where
  pub none : earlier ≡ []
  pub initial : s ≡ initial_state h p
  pub realises : Realises s e

-- a state, which these come before in its run, is at a producer of the edge
abbrev pub IsAtProducer : List ClassInfo → RegProgram → RegState → List RegState → Edge → Producer → Type 0
IsAtProducer h p s earlier e (StoreAt n) = StandsToStore p s n.0 e
IsAtProducer h p s earlier e (Constant f) = IsFirst h p s earlier e

-- some state of a run, its last state first, is at a producer of the edge
pub record IsProduced (h : List ClassInfo) (p : RegProgram) (t : FactSets) (run : List RegState) (e : Edge) : Type 0 where
  pub producer : Producer
  pub produces : Produces h p t e producer
  pub since : List RegState
  pub state : RegState
  pub earlier : List RegState
  pub parts : run ≡ since ++ state ∷ earlier
  pub run_before : RegRun h p (state ∷ earlier)
  pub at : IsAtProducer h p state earlier e producer
