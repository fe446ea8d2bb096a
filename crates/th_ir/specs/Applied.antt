-- Steps as a function, for runs that are worked out: a change and the place of a successor give the
-- next state.
use Rattle.std.specs.Prelude.{ℕ, ◌≡◌, List, [], ◌∷◌, ◌++◌, length, Option, None, Some, slice_get}
use Rattle.std.specs.Option.{option_map, option_and_then}
use Rattle.th_base.specs.declared.class.ClassInfo.{ClassInfo}
use Rattle.th_base.specs.declared.number.NodeId.{NodeId}
use Rattle.th_ir.specs.declared.program.RegProgram.{RegProgram}
use Rattle.th_ir.specs.declared.program.Method.{Method}
use Rattle.th_ir.specs.declared.program.Node.{Node}
use Rattle.th_ir.specs.declared.stmt.Stmt.{Stmt}
use Rattle.th_ir.specs.declared.stmt.Stmt.TheVariants.{Nop, Call, Init}
use Rattle.th_ir.specs.Program.{method_at, node_at}
use Rattle.th_ir.specs.Machine.{RegValue, Address, RegObject, RegFrame, RegState, written, static_written, changed_at, with_field, with_element}
use Rattle.th_ir.specs.Effects.{Change, Sets, SetsStatic, SetsField, SetsElement, Makes, Enters, Leaves, Effect}
use Rattle.th_ir.specs.Step.{moved, entry_regs, result_writes, launched_by}

-- the frame goes on to the successor at this place
abbrev pub gone_on : RegState → RegFrame → List RegFrame → Node → (ℕ → RegValue) → List RegObject → (ℕ → RegValue) → ℕ → Option RegState
gone_on s f below node regs heap statics k =
    option_map
    (λ (next : NodeId).
    let after : RegState = record { heap = heap; statics = statics; frames = moved f next.0 regs ∷ below; launched = s.launched } in after)
    (slice_get node.next k)

abbrev pub begun_in : RegProgram → RegState → List RegFrame → ℕ → List RegValue → Option RegState
begun_in p s frames m arguments =
    option_map
    (λ (method : Method).
    record s { frames = record { method = m; node = method.entry.0; regs = entry_regs p method arguments } ∷ frames })
    (method_at p m)

abbrev pub resumed_in : RegState → Option RegValue → RegFrame → List RegFrame → Node → Stmt → ℕ → Option RegState
resumed_in s v g below node Nop k = None
resumed_in s v g below node (Call dst kind m args) k = gone_on s g below node (written (result_writes dst v) g.regs) s.heap s.statics k
resumed_in s v g below node (Init c) k = Some record s { frames = g ∷ below }
resumed_in s v g below node _ k = None

abbrev pub returned_in : RegProgram → RegState → RegFrame → List RegFrame → Option RegValue → ℕ → Option RegState
returned_in p s f [] v k = Some record s { frames = []; launched = s.launched ++ launched_by p f }
returned_in p s f (g ∷ below) v k = option_and_then (λ (node : Node). resumed_in s v g below node node.stmt k) (node_at p g.node)

-- the state after a change; of several successors the one at this place comes
abbrev pub applied : RegProgram → RegState → RegFrame → List RegFrame → Node → Change → ℕ → Option RegState
applied p s f below node (Sets ws) k = gone_on s f below node (written ws f.regs) s.heap s.statics k
applied p s f below node (SetsStatic g v) k = gone_on s f below node f.regs s.heap (static_written g v s.statics) k
applied p s f below node (SetsField a g v) k = gone_on s f below node f.regs (changed_at a (with_field g v) s.heap) s.statics k
applied p s f below node (SetsElement a i v) k = gone_on s f below node f.regs (changed_at a (with_element i v) s.heap) s.statics k
applied p s f below node (Makes dst o) k =
    gone_on s f below node (written ((dst, Address (length s.heap)) ∷ []) f.regs) (s.heap ++ o ∷ []) s.statics k
applied p s f below node (Enters m arguments) k = begun_in p s (f ∷ below) m arguments
applied p s f below node (Leaves src) k = returned_in p s f below (option_map f.regs src) k

-- ---- states of worked runs

abbrev pub or_same : RegState → Option RegState → RegState
or_same s None = s
or_same s (Some u) = u

abbrev pub stepped_at : RegProgram → RegState → RegFrame → List RegFrame → Change → ℕ → Option Node → RegState
stepped_at p s f below c k None = s
stepped_at p s f below c k (Some node) = or_same s (applied p s f below node c k)

abbrev pub stepped_from : RegProgram → RegState → List RegFrame → Change → ℕ → RegState
stepped_from p s [] c k = s
stepped_from p s (f ∷ below) c k = stepped_at p s f below c k (node_at p f.node)

-- the state after a change; the same state where there is none
abbrev pub stepped : RegProgram → RegState → Change → ℕ → RegState
stepped p s c k = stepped_from p s s.frames c k

-- the state after a method of the harness starts
abbrev pub started : RegProgram → RegState → ℕ → RegState
started p s m = or_same s (begun_in p s [] m [])

-- a step: a change that the statement may make, and the place of the successor that comes
pub record IsChosen (h : List ClassInfo) (p : RegProgram) (s u : RegState) : Type 0 where
  pub frame : RegFrame
  pub below : List RegFrame
  pub frames : s.frames ≡ frame ∷ below
  pub node : Node
  pub stands : node_at p frame.node ≡ Some node
  pub change : Change
  pub effect : Effect h p s frame.regs node.stmt change
  pub successor : ℕ
  pub next : applied p s frame below node change successor ≡ Some u
