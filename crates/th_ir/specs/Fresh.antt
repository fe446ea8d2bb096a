-- A new object is held by one register alone.
use Rattle.std.specs.Prelude.{ℕ, ◌≡◌, false, List, ◌∷◌, Some, slice_get}
use Rattle.th_base.specs.declared.class.ClassInfo.{ClassInfo}
use Rattle.th_base.specs.IdSet.{has}
use Rattle.th_ir.specs.declared.program.RegProgram.{RegProgram}
use Rattle.th_ir.specs.declared.program.Node.{Node}
use Rattle.th_ir.specs.Program.{node_at}
use Rattle.th_ir.specs.Machine.{Address, RegObject, RegFrame, RegState, field_value, element_value}
use Rattle.th_ir.specs.Effects.{Makes, Effect}
use Rattle.th_ir.specs.Step.{Happens}

-- a step in which the statement of the innermost frame makes an object and sets a register to it
pub record IsMaking (h : List ClassInfo) (p : RegProgram) (s u : RegState) (dst : ℕ) : Type 0 where
  pub frame : RegFrame
  pub below : List RegFrame
  pub frames : s.frames ≡ frame ∷ below
  pub node : Node
  pub stands : node_at p frame.node ≡ Some node
  pub object : RegObject
  pub effect : Effect h p s frame.regs node.stmt (Makes dst object)
  pub happens : Happens p s frame below node (Makes dst object) u

-- no place but the register of the innermost frame has the address, and it isn't launched
pub record IsFresh (a dst : ℕ) (u : RegState) : Type 0 where
  pub regs : (k : ℕ) (f : RegFrame) (r : ℕ) → slice_get u.frames k ≡ Some f → f.regs r ≡ Address a → (k ≡ 0) × (r ≡ dst)
  pub statics : (f : ℕ) → u.statics f ≡ Address a → ⊥
  pub fields : (b : ℕ) (o : RegObject) (f : ℕ) → slice_get u.heap b ≡ Some o → field_value f o.contents ≡ Some (Address a) → ⊥
  pub elements : (b : ℕ) (o : RegObject) (k : ℕ) → slice_get u.heap b ≡ Some o → element_value k o.contents ≡ Some (Address a) → ⊥
  pub launched : has u.launched a ≡ false
