-- What a change does to a state, said once for each kind of change; the steps and the runs of the
-- register machine.
use Rattle.std.specs.Prelude.{ℕ, ◌≡◌, ◌==◌, ◌&&◌, List, [], ◌∷◌, ◌++◌, length, map, zip, Option, None, Some, if◌then◌else◌}
use Rattle.std.specs.Option.{option_map, option_map_or}
use Rattle.th_base.specs.declared.class.ClassInfo.{ClassInfo}
use Rattle.th_base.specs.declared.number.Reg.{Reg}
use Rattle.th_base.specs.declared.number.NodeId.{NodeId}
use Rattle.th_base.specs.declared.number.MethodId.{MethodId}
use Rattle.th_base.specs.Hierarchy.{first_some}
use Rattle.th_ir.specs.declared.program.RegProgram.{RegProgram}
use Rattle.th_ir.specs.declared.program.Method.{Method}
use Rattle.th_ir.specs.declared.program.Node.{Node}
use Rattle.th_ir.specs.declared.stmt.Stmt.{Stmt}
use Rattle.th_ir.specs.declared.stmt.Stmt.TheVariants.{Nop, Const, Null, Str, Copy, Arith, Neg, AddConst, Narrow, AnyInt, Assume, GetStatic, PutStatic, GetField, PutField, GetElem, PutElem, Length, New, NewArray, Cast, InstanceOf, Call, Init, Return, Pick, NonNull, Halt}
use Rattle.th_ir.specs.Program.{Among, method_at, node_at, is_ref}
use Rattle.th_ir.specs.Sites.{launch_class}
use Rattle.th_ir.specs.Machine.{RegValue, IntValue, NullValue, Address, RegObject, RegFrame, RegState, first_value, written, static_written, changed_at, with_field, with_element, initial_state}
use Rattle.th_ir.specs.Effects.{Change, Sets, SetsStatic, SetsField, SetsElement, Makes, Enters, Leaves, Effect}

-- ---- going on

-- the frame at another node, with other registers
abbrev pub moved : RegFrame → ℕ → (ℕ → RegValue) → RegFrame
moved f n regs = record { method = f.method; node = n; regs = regs }

-- the innermost frame, at this node and above these frames, goes on to a successor with these
-- registers, in a state with this heap and these static fields
pub record GoesOn (s : RegState) (f : RegFrame) (below : List RegFrame) (node : Node) (regs : ℕ → RegValue) (heap : List RegObject)
    (statics : ℕ → RegValue) (t : RegState) : Type 0 where
  pub next : NodeId
  pub follows : Among node.next next
  pub after : t
      ≡ record { heap = heap; statics = statics; frames = moved f next.0 regs ∷ below; launched = s.launched }

-- ---- entering a method

-- the registers at the entry: the parameters hold the arguments, all others 0 or null
abbrev pub entry_regs : RegProgram → Method → List RegValue → ℕ → RegValue
entry_regs p method arguments = written (zip (map (λ r. r.0) method.params) arguments) (λ r. first_value (is_ref p r))

-- a method is entered with these arguments, above these frames
pub record Begins (p : RegProgram) (s : RegState) (frames : List RegFrame) (m : ℕ) (arguments : List RegValue) (t : RegState) : Type 0 where
  pub method : Method
  pub stands : method_at p m ≡ Some method
  pub after : t ≡ record s { frames = record { method = m; node = method.entry.0; regs = entry_regs p method arguments } ∷ frames }

-- ---- leaving a method

-- what a Call with this result register writes when its callee returned this
abbrev pub result_writes : Option Reg → Option RegValue → List (ℕ × RegValue)
result_writes (Some dst) (Some v) = (dst.0, v) ∷ []
result_writes (Some dst) None = []
result_writes None v = []

-- a frame whose Call was in progress goes on with the result; one whose Init was, is back at it
abbrev pub Resumes : RegState → Option RegValue → RegFrame → List RegFrame → Node → Stmt → RegState → Type 0
Resumes s v f below node (Call dst kind m args) t = GoesOn s f below node (written (result_writes dst v) f.regs) s.heap s.statics t
Resumes s v f below node (Init k) t = t ≡ record s { frames = f ∷ below }
Resumes s v f below node _ t = ⊥

-- the register that a New at a site of launches sets
abbrev pub launch_dst : RegProgram → Stmt → Option ℕ
launch_dst p (New dst site) = option_map (λ c. dst.0) (launch_class p site.0)
launch_dst p _ = None

-- the register in which a method that launches has the new object
abbrev pub launch_register : RegProgram → ℕ → Option ℕ
launch_register p m = first_some (λ n. if n.method.0 == m then launch_dst p n.stmt else None) p.nodes

abbrev pub address_in : RegValue → List ℕ
address_in (IntValue n) = []
address_in NullValue = []
address_in (Address a) = a ∷ []

-- what the Return of a method launches: the object of its launch
abbrev pub launched_by : RegProgram → RegFrame → List ℕ
launched_by p f = option_map_or (λ r. address_in (f.regs r)) (launch_register p f.method) []

-- the innermost frame, above these frames, returns this; the last frame's Return makes the state idle
abbrev pub Returns : RegProgram → RegState → RegFrame → List RegFrame → Option RegValue → RegState → Type 0
Returns p s f [] v t = t ≡ record s { frames = []; launched = s.launched ++ launched_by p f }
Returns p s f (g ∷ below) v t = (node : Node) × (node_at p g.node ≡ Some node) × Resumes s v g below node node.stmt t

-- ---- each kind of change

-- what a change does to a state whose innermost frame f, at this node, stands above these frames
abbrev pub Happens : RegProgram → RegState → RegFrame → List RegFrame → Node → Change → RegState → Type 0
Happens p s f below node (Sets ws) t = GoesOn s f below node (written ws f.regs) s.heap s.statics t
Happens p s f below node (SetsStatic g v) t = GoesOn s f below node f.regs s.heap (static_written g v s.statics) t
Happens p s f below node (SetsField a g v) t = GoesOn s f below node f.regs (changed_at a (with_field g v) s.heap) s.statics t
Happens p s f below node (SetsElement a k v) t = GoesOn s f below node f.regs (changed_at a (with_element k v) s.heap) s.statics t
Happens p s f below node (Makes dst o) t =
    GoesOn s f below node (written ((dst, Address (length s.heap)) ∷ []) f.regs) (s.heap ++ o ∷ []) s.statics t
Happens p s f below node (Enters m arguments) t = Begins p s (f ∷ below) m arguments t
Happens p s f below node (Leaves src) t = Returns p s f below (option_map f.regs src) t

-- ---- steps and runs

-- a step of the innermost frame: its statement makes a change
pub record FrameStep (h : List ClassInfo) (p : RegProgram) (s : RegState) (f : RegFrame) (below : List RegFrame)
    (t : RegState) : Type 0 where
  pub node : Node
  pub stands : node_at p f.node ≡ Some node
  pub change : Change
  pub effect : Effect h p s f.regs node.stmt change
  pub happens : Happens p s f below node change t

-- from an idle state a method of the harness starts
pub record HarnessStep (p : RegProgram) (s t : RegState) : Type 0 where
  pub method : MethodId
  pub listed : Among p.harness method
  pub begins : Begins p s [] method.0 [] t

abbrev pub StepFrom : List ClassInfo → RegProgram → RegState → List RegFrame → RegState → Type 0
StepFrom h p s [] t = HarnessStep p s t
StepFrom h p s (f ∷ below) t = FrameStep h p s f below t

-- a state follows another by one step
abbrev pub RegStep : List ClassInfo → RegProgram → RegState → RegState → Type 0
RegStep h p s t = StepFrom h p s s.frames t

-- a run, its last state first: each state follows the one before it, the first is the initial one
abbrev pub RegRun : List ClassInfo → RegProgram → List RegState → Type 0
RegRun h p [] = ⊥
RegRun h p (s ∷ []) = s ≡ initial_state h p
RegRun h p (t ∷ s ∷ before) = RegStep h p s t × RegRun h p (s ∷ before)

-- a state is the last of some run
abbrev pub RegReachable : List ClassInfo → RegProgram → RegState → Type 0
RegReachable h p s = (before : List RegState) × RegRun h p (s ∷ before)
