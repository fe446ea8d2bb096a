-- The function of steps gives steps.
use Rattle.std.proofs.Common.{◌≡◌, ℕ, List, [], ◌∷◌, Option, None, Some, slice_get, refl, sym, subst}
use Rattle.std.specs.Option.{option_map, option_and_then}
use Rattle.th_base.specs.declared.class.ClassInfo.{ClassInfo}
use Rattle.th_base.specs.declared.number.MethodId.{MethodId}
use Rattle.th_base.specs.declared.number.NodeId.{NodeId}
use Rattle.th_ir.specs.declared.program.RegProgram.{RegProgram}
use Rattle.th_ir.specs.declared.program.Method.{Method}
use Rattle.th_ir.specs.declared.program.Node.{Node}
use Rattle.th_ir.specs.declared.stmt.Stmt.{Stmt}
use Rattle.th_ir.specs.declared.stmt.Stmt.TheVariants.{Nop, Call, Init}
use Rattle.th_ir.specs.Program.{Among, node_at, method_at}
use Rattle.th_ir.specs.Machine.{RegValue, RegObject, RegFrame, RegState, written}
use Rattle.th_ir.specs.Effects.{Change, Sets, SetsStatic, SetsField, SetsElement, Makes, Enters, Leaves}
use Rattle.th_ir.specs.Step.{GoesOn, Begins, Resumes, Returns, Happens, StepFrom, RegStep, RegReachable, moved, entry_regs, result_writes}
use Rattle.th_ir.specs.Applied.{begun_in, resumed_in, returned_in, applied, IsChosen}

goes_by : (s u : RegState) (f : RegFrame) (below : List RegFrame) (node : Node) (regs : ℕ → RegValue) (heap : List RegObject) (statics : ℕ → RegValue) (k : ℕ) (next : Option NodeId)
    → slice_get node.next k ≡ next
    → option_map (λ (n : NodeId). let t : RegState = record { heap = heap; statics = statics; frames = moved f n.0 regs ∷ below; launched = s.launched } in t) next ≡ Some u
    → GoesOn s f below node regs heap statics u
goes_by s u f below node regs heap statics k None is e = absurd cc
goes_by s u f below node regs heap statics k (Some n) is e = record { next = n; follows = (k, is); after = sym cc }

begins_by : (p : RegProgram) (s u : RegState) (frames : List RegFrame) (m : ℕ) (arguments : List RegValue) (method : Option Method)
    → method_at p m ≡ method
    → option_map (λ (x : Method). record s { frames = record { method = m; node = x.entry.0; regs = entry_regs p x arguments } ∷ frames }) method ≡ Some u
    → Begins p s frames m arguments u
begins_by p s u frames m arguments None is e = absurd cc
begins_by p s u frames m arguments (Some x) is e = record { method = x; stands = is; after = sym cc }

resumes_by : (s u : RegState) (v : Option RegValue) (g : RegFrame) (below : List RegFrame) (node : Node) (stmt : Stmt) (k : ℕ)
    → resumed_in s v g below node stmt k ≡ Some u → Resumes s v g below node stmt u
resumes_by s u v g below node Nop k e = absurd cc
resumes_by s u v g below node (Call dst kind m args) k e =
    goes_by s u g below node (written (result_writes dst v) g.regs) s.heap s.statics k (slice_get node.next k) refl e
resumes_by s u v g below node (Init c) k e = sym cc
resumes_by s u v g below node stmt k e = absurd cc

outer_by : (p : RegProgram) (s u : RegState) (v : Option RegValue) (g : RegFrame) (below : List RegFrame) (k : ℕ) (node : Option Node)
    → node_at p g.node ≡ node → option_and_then (λ (n : Node). resumed_in s v g below n n.stmt k) node ≡ Some u
    → (n : Node) × (node_at p g.node ≡ Some n) × Resumes s v g below n n.stmt u
outer_by p s u v g below k None is e = absurd cc
outer_by p s u v g below k (Some n) is e = (n, is, resumes_by s u v g below n n.stmt k e)

returns_by : (p : RegProgram) (s u : RegState) (f : RegFrame) (below : List RegFrame) (v : Option RegValue) (k : ℕ)
    → returned_in p s f below v k ≡ Some u → Returns p s f below v u
returns_by p s u f [] v k e = sym cc
returns_by p s u f (g ∷ below) v k e = outer_by p s u v g below k (node_at p g.node) refl e

happens_by : (p : RegProgram) (s u : RegState) (f : RegFrame) (below : List RegFrame) (node : Node) (c : Change) (k : ℕ)
    → applied p s f below node c k ≡ Some u → Happens p s f below node c u
happens_by p s u f below node (Sets ws) k e = goes_by s u f below node _ _ _ k (slice_get node.next k) refl e
happens_by p s u f below node (SetsStatic g v) k e = goes_by s u f below node _ _ _ k (slice_get node.next k) refl e
happens_by p s u f below node (SetsField a g v) k e = goes_by s u f below node _ _ _ k (slice_get node.next k) refl e
happens_by p s u f below node (SetsElement a i v) k e = goes_by s u f below node _ _ _ k (slice_get node.next k) refl e
happens_by p s u f below node (Makes dst o) k e = goes_by s u f below node _ _ _ k (slice_get node.next k) refl e
happens_by p s u f below node (Enters m arguments) k e = begins_by p s u (f ∷ below) m arguments (method_at p m) refl e
happens_by p s u f below node (Leaves src) k e = returns_by p s u f below (option_map f.regs src) k e

-- a step of a reachable state leads to one
pub chosen : (h : List ClassInfo) (p : RegProgram) (s u : RegState) → RegReachable h p s → IsChosen h p s u → RegReachable h p u
chosen h p s u run c =
    let happens = happens_by p s u c.frame c.below c.node c.change c.successor c.next in
    let step : RegStep h p s u =
    subst (λ (frames : List RegFrame). StepFrom h p s frames u) (sym c.frames)
    record { node = c.node; stands = c.stands; change = c.change; effect = c.effect; happens = happens } in
    (s ∷ run.0, (step, run.1))

-- so does the start of a method of the harness in an idle one
pub begun : (h : List ClassInfo) (p : RegProgram) (s u : RegState) (m : MethodId) → RegReachable h p s → s.frames ≡ [] → Among p.harness m
    → begun_in p s [] m.0 [] ≡ Some u → RegReachable h p u
begun h p s u m run idle among e =
    let begins = begins_by p s u [] m.0 [] (method_at p m.0) refl e in
    let step : RegStep h p s u =
    subst (λ (frames : List RegFrame). StepFrom h p s frames u) (sym idle) record { method = m; listed = among; begins = begins } in
    (s ∷ run.0, (step, run.1))
