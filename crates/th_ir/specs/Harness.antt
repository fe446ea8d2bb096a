-- The methods of the harness, node by node, under each lifecycle.
use Rattle.std.specs.Prelude.{ℕ, pos, ◌+◌, ◌<◌, ◌≤◌, ◌≡◌, ◌≢◌, ⊤, true, false, List, [], ◌∷◌, ◌++◌, length, flat_map, map, None, Some, if◌then◌else◌}
use Rattle.th_base.specs.declared.built_in.TheConstants.{ACTIVITY_NUMBER, BUNDLE_NUMBER, CONSTRUCTOR}
use Rattle.th_base.specs.declared.class.ClassInfo.{ClassInfo}
use Rattle.th_base.specs.declared.class.MethodInfo.{MethodInfo}
use Rattle.th_base.specs.declared.lifecycle.Lifecycle.{Lifecycle}
use Rattle.th_base.specs.declared.lifecycle.Lifecycle.TheVariants.{Any, Chart}
use Rattle.th_base.specs.declared.number.MethodId.{MethodId}
use Rattle.th_base.specs.declared.number.NodeId.{NodeId}
use Rattle.th_base.specs.declared.number.Reg.{Reg}
use Rattle.th_base.specs.declared.number.SiteId.{SiteId}
use Rattle.th_base.specs.declared.handler.TheConstants.{TAKES_NOTHING}
use Rattle.th_base.specs.Handlers.{Handler, handlers, takes_bundle, ChartRow, chart}
use Rattle.th_base.specs.Hierarchy.{declared_method}
use Rattle.th_base.specs.Launchable.{launchable}
use Rattle.th_ir.specs.declared.program.RegProgram.{RegProgram}
use Rattle.th_ir.specs.declared.program.Method.{Method}
use Rattle.th_ir.specs.declared.program.Node.{Node}
use Rattle.th_ir.specs.declared.program.Site.{Site}
use Rattle.th_ir.specs.declared.program.Place.TheVariants.{Event}
use Rattle.th_ir.specs.declared.stmt.CallKind.TheVariants.{Virtual, Special}
use Rattle.th_ir.specs.declared.stmt.Condition.TheVariants.{Key}
use Rattle.th_ir.specs.declared.stmt.Stmt.{Stmt}
use Rattle.th_ir.specs.declared.stmt.Stmt.TheVariants.{Const, Null, Assume, GetField, PutField, New, Call, Init, Return, Pick}
use Rattle.th_ir.specs.Program.{method_at, node_at, site_at}
use Rattle.th_ir.specs.Sites.{site_class, launch_class}
use Rattle.th_ir.specs.Fields.{stage_field}
use Rattle.th_ir.specs.Calls.{owned_methods}

-- what a method of the harness does: it launches a class; or it calls a handler on an object of a
-- class, at any stage, or as a row of the chart says
pub data HarnessMethod : Type 0 where
  Launches : (class : ℕ) → HarnessMethod
  Handles : (class : ℕ) (handler : Handler) → HarnessMethod
  HandlesAt : (class : ℕ) (row : ChartRow) → HarnessMethod

-- the calls of handlers on objects of a class
abbrev pub handled_by : Lifecycle → ℕ → List HarnessMethod
handled_by Any c = map (Handles c) handlers
handled_by Chart c = map (HandlesAt c) chart

-- the methods of the harness, in order
abbrev pub harness_methods : List ClassInfo → Lifecycle → List HarnessMethod
harness_methods h lifecycle = map Launches (launchable h) ++ flat_map (handled_by lifecycle) (launchable h)

-- ---- their statements, each with its successors

abbrev pub to : ℕ → List NodeId
to n = record { 0 = n } ∷ []

abbrev pub NodeList : Type 0
NodeList = List (Stmt × List NodeId)

-- what the nodes of a method of the harness name: its first node; the registers of the object, of
-- its stage before and after, and of the Bundle; the sites of the launch and of the Bundle; and the
-- method that is called
pub record Parts : Type 0 where
  pub first : ℕ
  pub object : Reg
  pub stage : Reg
  pub next_stage : Reg
  pub bundle : Reg
  pub site : SiteId
  pub event : SiteId
  pub callee : MethodId

abbrev pub launch_nodes : ℕ → Parts → NodeList
launch_nodes c q =
    (Init record { 0 = c }, to (q.first + 1))
    ∷ (New q.object q.site, to (q.first + 2))
    ∷ (Call None (Special (Some q.callee)) q.callee (q.object ∷ []), to (q.first + 3))
    ∷ (Return None, [])
    ∷ []

-- where a handler is called, from the node n on: with a Bundle there is a null and a fresh one
abbrev pub call_entries : Handler → ℕ → List NodeId
call_entries k n = if takes_bundle k then record { 0 = n } ∷ record { 0 = n + 1 } ∷ [] else to n

abbrev pub call_nodes : Handler → Parts → ℕ → NodeList
call_nodes k q n =
    if takes_bundle k
    then (Null q.bundle, to (n + 2))
    ∷ (New q.bundle q.event, to (n + 2))
    ∷ (Call None Virtual q.callee (q.object ∷ q.bundle ∷ []), to (n + 3))
    ∷ (Return None, [])
    ∷ []
    else (Call None Virtual q.callee (q.object ∷ []), to (n + 1)) ∷ (Return None, []) ∷ []

abbrev pub handler_nodes : ℕ → Handler → Parts → NodeList
handler_nodes c k q = (Pick q.object record { 0 = c }, call_entries k (q.first + 1)) ∷ call_nodes k q (q.first + 1)

abbrev pub row_nodes : ℕ → ChartRow → Parts → NodeList
row_nodes c row q =
    (Pick q.object record { 0 = c }, to (q.first + 1))
    ∷ (GetField q.stage q.object record { 0 = stage_field }, to (q.first + 2))
    ∷ (Assume (Key q.stage (pos row.before)), to (q.first + 3))
    ∷ (Const q.next_stage (pos row.after), to (q.first + 4))
    ∷ (PutField q.object record { 0 = stage_field } q.next_stage, call_entries row.handler (q.first + 5))
    ∷ call_nodes row.handler q (q.first + 5)

-- ---- the methods

-- a node of a method of the harness
abbrev pub harness_node : ℕ → Stmt → List NodeId → Node
harness_node m stmt next = record { method = record { 0 = m }; offset = 0; stmt = stmt; next = next; loop_head = false }

-- these nodes of a method stand from this one on
abbrev pub StandFrom : RegProgram → ℕ → ℕ → NodeList → Type 0
StandFrom p m n [] = ⊤
StandFrom p m n (x ∷ nodes) = (node_at p n ≡ Some (harness_node m x.0 x.1)) × StandFrom p m (n + 1) nodes

-- the method has no class and no parameters, and these nodes, from the first on, and no others
pub record HasNodes (p : RegProgram) (m first : ℕ) (nodes : NodeList) : Type 0 where
  pub method : Method
  pub stands : method_at p m ≡ Some method
  pub owner : method.owner ≡ None
  pub params : method.params ≡ []
  pub entry : method.entry.0 ≡ first
  pub nodes_stand : StandFrom p m first nodes
  pub only : (n : ℕ) (node : Node) → node_at p n ≡ Some node → node.method.0 ≡ m → (first ≤ n) × (n < first + length nodes)

-- the register of the object is none of the others
pub record IsApartObject (q : Parts) : Type 0 where
  pub stage : q.object.0 ≢ q.stage.0
  pub next_stage : q.object.0 ≢ q.next_stage.0
  pub bundle : q.object.0 ≢ q.bundle.0

-- the site of the harness's Bundle
pub record IsEventSite (h : List ClassInfo) (p : RegProgram) (s : ℕ) : Type 0 where
  pub site : Site
  pub stands : site_at p s ≡ Some site
  pub place : site.place ≡ Event
  pub class : site_class h p s ≡ Some BUNDLE_NUMBER

-- the number of the method of this name and descriptor that a class declares
pub record IsDeclared (h : List ClassInfo) (c : ℕ) (name descriptor : List ℕ) (m : ℕ) : Type 0 where
  pub info : MethodInfo
  pub declared : declared_method h name descriptor c ≡ Some info
  pub number : info.id.0 ≡ m

-- the method calls Activity's method for the handler
pub record CallsHandler (h : List ClassInfo) (p : RegProgram) (k : Handler) (q : Parts) : Type 0 where
  pub event : IsEventSite h p q.event.0
  pub callee : IsDeclared h ACTIVITY_NUMBER k.name k.descriptor q.callee.0

-- the method with this number is the one of the harness that does this, with these parts
abbrev pub DoesThis : List ClassInfo → RegProgram → ℕ → Parts → HarnessMethod → Type 0
DoesThis h p m q (Launches c) =
    (launch_class p q.site.0 ≡ Some c) × IsDeclared h c CONSTRUCTOR.now TAKES_NOTHING.now q.callee.0
    × HasNodes p m q.first (launch_nodes c q)
DoesThis h p m q (Handles c k) = CallsHandler h p k q × HasNodes p m q.first (handler_nodes c k q)
DoesThis h p m q (HandlesAt c row) = CallsHandler h p row.handler q × HasNodes p m q.first (row_nodes c row q)

-- methods of the harness stand one after the other from a number on, and are listed
abbrev pub AreHarness : List ClassInfo → RegProgram → ℕ → List HarnessMethod → List MethodId → Type 0
AreHarness h p m [] [] = ⊤
AreHarness h p m [] (x ∷ xs) = ⊥
AreHarness h p m (k ∷ ks) [] = ⊥
AreHarness h p m (k ∷ ks) (x ∷ xs) = (x.0 ≡ m) × ((q : Parts) × IsApartObject q × DoesThis h p m q k) × AreHarness h p (m + 1) ks xs

-- the harness is that of the lifecycle; its methods stand after those of the classes
abbrev pub HasHarness : List ClassInfo → Lifecycle → RegProgram → Type 0
HasHarness h lifecycle p = AreHarness h p (length (owned_methods h)) (harness_methods h lifecycle) p.harness
