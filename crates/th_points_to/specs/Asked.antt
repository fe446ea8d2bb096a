-- What the nodes of methods that may run ask of facts, place by place: the twelve rules, cut into what a
-- node asks at once, what it asks of each site of its base, and what a call asks of its method.
use Rattle.std.specs.Prelude.{ℕ, ◌≡◌, ◌<◌, ⊤, true, List, length, drop, zip, Option, None, Some, slice_get, if◌then◌else◌}
use Rattle.std.specs.List.{AllByRecursion}
use Rattle.th_base.specs.declared.class.ClassInfo.{ClassInfo}
use Rattle.th_base.specs.declared.number.Reg.{Reg}
use Rattle.th_base.specs.declared.number.SiteId.{SiteId}
use Rattle.th_ir.specs.declared.program.RegProgram.{RegProgram}
use Rattle.th_ir.specs.declared.program.Method.{Method}
use Rattle.th_ir.specs.declared.program.Node.{Node}
use Rattle.th_ir.specs.declared.stmt.CallKind.{CallKind}
use Rattle.th_ir.specs.declared.stmt.CallKind.TheVariants.{Virtual, Special, Static as StaticCall}
use Rattle.th_ir.specs.declared.stmt.Stmt.{Stmt}
use Rattle.th_ir.specs.declared.stmt.Stmt.TheVariants.{Str, Copy, GetStatic, PutStatic, GetField, PutField, GetElem, PutElem, New, NewArray, Cast, Call, Init, Return, Pick}
use Rattle.th_ir.specs.Program.{method_at, node_at}
use Rattle.th_ir.specs.Fields.{has_field}
use Rattle.th_ir.specs.Sites.{is_ref_array, is_ref_elem, site_is, can_store, launch_class}
use Rattle.th_ir.specs.Calls.{site_target, static_target}
use Rattle.th_ir.specs.FactSets.{FactSets}
use Rattle.th_ir.specs.Rules.{ReachesInitialisers}
use Rattle.th_points_to.specs.declared.place.Layout.{Layout}
use Rattle.th_points_to.specs.declared.place.Place.TheVariants.{Register, Static, Elements, Cell}
use Rattle.th_points_to.specs.Places.{Includes, IncludesThrough, Gives}

-- the registers that a call passes on as a whole: all but the receiver
abbrev pub passed : CallKind → List Reg → List Reg
passed Virtual args = drop 1 args
passed (Special k) args = drop 1 args
passed StaticCall args = args

-- each of the first registers flows to its partner
abbrev pub FlowAll : Layout → FactSets → List (Reg × Reg) → Type 0
FlowAll l t pairs = AllByRecursion (λ m. Includes l t (Register m.0) (Register m.1)) pairs

abbrev pub ArgumentsGo : Layout → RegProgram → FactSets → CallKind → List Reg → ℕ → Type 0
ArgumentsGo l p t kind args to = (method : Method) → method_at p to ≡ Some method
    → FlowAll l t (zip (passed kind args) (passed kind method.params))

-- what the method returns flows to the result
abbrev pub ResultGoes : Layout → RegProgram → FactSets → Option Reg → ℕ → Type 0
ResultGoes l p t None to = ⊤
ResultGoes l p t (Some dst) to = to < length p.methods →
    (n : ℕ) (node : Node) (src : Reg) → node_at p n ≡ Some node → node.method.0 ≡ to → node.stmt ≡ Return (Some src)
    → Includes l t (Register src) (Register dst)

-- what a call asks of a method that it may take
pub record CallGoes (l : Layout) (p : RegProgram) (t : FactSets) (dst : Option Reg) (kind : CallKind) (args : List Reg)
    (to : ℕ) : Type 0 where
  pub reached : t.reached to ≡ true
  pub arguments : ArgumentsGo l p t kind args to
  pub result : ResultGoes l p t dst to

abbrev pub Goes : Layout → RegProgram → FactSets → Stmt → ℕ → Type 0
Goes l p t (Call dst kind m args) to = CallGoes l p t dst kind args to
Goes l p t _ to = ⊤

-- the node may call the method, with all that the call asks
pub record Calls (l : Layout) (p : RegProgram) (t : FactSets) (n : ℕ) (stmt : Stmt) (to : ℕ) : Type 0 where
  pub call : t.call n to ≡ true
  pub goes : Goes l p t stmt to

-- ---- at once

abbrev pub CallAsks : List ClassInfo → Layout → RegProgram → FactSets → ℕ → CallKind → ℕ → Stmt → Type 0
CallAsks h l p t n Virtual m stmt = ⊤
CallAsks h l p t n (Special k) m stmt = ⊤
CallAsks h l p t n StaticCall m stmt = (to : ℕ) → static_target h m ≡ Some to → Calls l p t n stmt to

abbrev pub Asks : List ClassInfo → Layout → RegProgram → FactSets → ℕ → Stmt → Type 0
Asks h l p t n (Str dst site) = Gives l t (Register dst) site.0
Asks h l p t n (Copy pairs) = AllByRecursion (λ m. Includes l t (Register m.1) (Register m.0)) pairs
Asks h l p t n (GetStatic dst f) = Includes l t (Static f) (Register dst)
Asks h l p t n (PutStatic f src) = Includes l t (Register src) (Static f)
Asks h l p t n (New dst site) = Gives l t (Register dst) site.0
Asks h l p t n (NewArray dst site count) = Gives l t (Register dst) site.0
Asks h l p t n (Call dst kind m args) = CallAsks h l p t n kind m.0 (Call dst kind m args)
Asks h l p t n (Init k) = k.0 < length h → ReachesInitialisers h t k.0
Asks h l p t n (Pick dst k) = k.0 < length h → (s : ℕ) → launch_class p s ≡ Some k.0 → Gives l t (Register dst) s
Asks h l p t n _ = ⊤

-- ---- of each site of its base

abbrev pub receiver_of : CallKind → List Reg → Option Reg
receiver_of Virtual args = slice_get args 0
receiver_of (Special k) args = slice_get args 0
receiver_of StaticCall args = None

-- the register whose sites a node asks of
abbrev pub base_of : Stmt → Option Reg
base_of (GetField dst base f) = Some base
base_of (PutField base f src) = Some base
base_of (GetElem dst array kind) = if is_ref_elem (Some kind) then Some array else None
base_of (PutElem array src) = Some array
base_of (Cast dst src text) = Some src
base_of (Call dst kind m args) = receiver_of kind args
base_of _ = None

-- the receiver's site flows to the parameter of the method that it gives
abbrev pub ReceiverGoes : Layout → RegProgram → FactSets → ℕ → ℕ → Type 0
ReceiverGoes l p t to a = (method : Method) (q : Reg) → method_at p to ≡ Some method → slice_get method.params 0 ≡ Some q
    → Gives l t (Register q) a

pub record CallsOn (l : Layout) (p : RegProgram) (t : FactSets) (n : ℕ) (stmt : Stmt) (to a : ℕ) : Type 0 where
  pub calls : Calls l p t n stmt to
  pub receiver : ReceiverGoes l p t to a

abbrev pub AsksOn : List ClassInfo → Layout → RegProgram → FactSets → ℕ → Stmt → SiteId → Type 0
AsksOn h l p t n (GetField dst base f) a = has_field h p a.0 f.0 ≡ true → Includes l t (Cell a f) (Register dst)
AsksOn h l p t n (PutField base f src) a = has_field h p a.0 f.0 ≡ true → Includes l t (Register src) (Cell a f)
AsksOn h l p t n (GetElem dst array kind) a = is_ref_array p a.0 ≡ true → Includes l t (Elements a) (Register dst)
AsksOn h l p t n (PutElem array src) a = is_ref_array p a.0 ≡ true → IncludesThrough l t (can_store h p a.0) (Register src) (Elements a)
AsksOn h l p t n (Cast dst src text) a = site_is h p text a.0 ≡ true → Gives l t (Register dst) a.0
AsksOn h l p t n (Call dst kind m args) a =
    (to : ℕ) → site_target h p kind m.0 a.0 ≡ Some to → CallsOn l p t n (Call dst kind m args) to a.0
AsksOn h l p t n _ a = ⊤
