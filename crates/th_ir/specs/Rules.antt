-- The twelve rules of the points-to facts and the call graph, and the least facts that hold them.
-- Rules 2 to 12 speak of the nodes of methods that may run.
use Rattle.std.specs.Prelude.{ℕ, ◌≡◌, ⊤, Bool, true, List, [], ◌∷◌, Option, None, Some, slice_get}
use Rattle.std.specs.List.{AllByRecursion}
use Rattle.th_base.specs.declared.class.ClassInfo.{ClassInfo}
use Rattle.th_base.specs.declared.number.Reg.{Reg}
use Rattle.th_base.specs.declared.number.SiteId.{SiteId}
use Rattle.th_base.specs.declared.number.MethodId.{MethodId}
use Rattle.th_base.specs.declared.operation.Elem.{Elem}
use Rattle.th_base.specs.declared.operation.Elem.TheVariants.{Int as IntElem, Ref as RefElem, Byte as ByteElem, Char as CharElem, Short as ShortElem}
use Rattle.th_ir.specs.declared.facts.Facts.{Facts}
use Rattle.th_ir.specs.declared.program.RegProgram.{RegProgram}
use Rattle.th_ir.specs.declared.program.Method.{Method}
use Rattle.th_ir.specs.declared.program.Node.{Node}
use Rattle.th_ir.specs.declared.stmt.CallKind.{CallKind}
use Rattle.th_ir.specs.declared.stmt.CallKind.TheVariants.{Virtual, Special, Static}
use Rattle.th_ir.specs.declared.stmt.Stmt.{Stmt}
use Rattle.th_ir.specs.declared.stmt.Stmt.TheVariants.{Nop, Const, Null, Str, Copy, Arith, Neg, AddConst, Narrow, AnyInt, Assume, GetStatic, PutStatic, GetField, PutField, GetElem, PutElem, Length, New, NewArray, Cast, InstanceOf, Call, Init, Return, Pick, NonNull, Halt}
use Rattle.th_ir.specs.Program.{Among, method_at, node_at}
use Rattle.th_ir.specs.Fields.{has_field}
use Rattle.th_ir.specs.Sites.{is_ref_array, site_is, can_store, launch_class}
use Rattle.th_ir.specs.Calls.{site_target, static_target, IsInitialiser}
use Rattle.th_ir.specs.FactSets.{FactSets, IsWithin, SaysWithin, sets_of, AreListed}

-- rule 1: every method of the harness may run
abbrev pub ReachesHarness : RegProgram → FactSets → Type 0
ReachesHarness p t = (m : MethodId) → Among p.harness m → t.reached m.0 ≡ true

-- rule 1: a Pick gives the site of the launches of its class
abbrev pub GivesLaunched : RegProgram → FactSets → Reg → ℕ → Type 0
GivesLaunched p t dst k = (s : ℕ) → launch_class p s ≡ Some k → t.reg dst.0 s ≡ true

-- rules 2 and 3: New, NewArray and Str give their site
abbrev pub GivesSite : FactSets → Reg → SiteId → Type 0
GivesSite t dst site = t.reg dst.0 site.0 ≡ true

-- rule 3: a static field with a String constant has its site
abbrev pub HoldsConstants : RegProgram → FactSets → Type 0
HoldsConstants p t = AllByRecursion (λ i. t.static i.0.0 i.1.0 ≡ true) p.strings

-- rule 4: a Copy gives each target what its source has
abbrev pub Copies : FactSets → List (Reg × Reg) → Type 0
Copies t pairs = AllByRecursion (λ m. IsWithin (t.reg m.1.0) (t.reg m.0.0)) pairs

-- rule 5: a Cast gives the sites of its source that are of a subtype
abbrev pub CastsTo : List ClassInfo → RegProgram → FactSets → Reg → Reg → List ℕ → Type 0
CastsTo h p t dst src text = (s : ℕ) → t.reg src.0 s ≡ true → site_is h p text s ≡ true → t.reg dst.0 s ≡ true

-- rule 6: GetStatic
abbrev pub ReadsStatic : FactSets → Reg → ℕ → Type 0
ReadsStatic t dst f = IsWithin (t.static f) (t.reg dst.0)

-- rule 7: PutStatic
abbrev pub WritesStatic : FactSets → ℕ → Reg → Type 0
WritesStatic t f src = IsWithin (t.reg src.0) (t.static f)

-- rule 8: GetField, for each site of the base that has the field
abbrev pub ReadsField : List ClassInfo → RegProgram → FactSets → Reg → Reg → ℕ → Type 0
ReadsField h p t dst base f = (a : ℕ) → t.reg base.0 a ≡ true → has_field h p a f ≡ true → IsWithin (t.cell a f) (t.reg dst.0)

-- rule 9: PutField, for each site of the base that has the field
abbrev pub WritesField : List ClassInfo → RegProgram → FactSets → Reg → ℕ → Reg → Type 0
WritesField h p t base f src = (a : ℕ) → t.reg base.0 a ≡ true → has_field h p a f ≡ true → IsWithin (t.reg src.0) (t.cell a f)

-- rule 10: PutElem, for each site of arrays of references the sites that may stand in them
abbrev pub WritesElem : List ClassInfo → RegProgram → FactSets → Reg → Reg → Type 0
WritesElem h p t array src =
    (a s : ℕ) → t.reg array.0 a ≡ true → is_ref_array p a ≡ true → t.reg src.0 s ≡ true → can_store h p a s ≡ true → t.elem a s ≡ true

-- rule 10: GetElem of references, for each site of arrays of references
abbrev pub ReadsElem : RegProgram → FactSets → Reg → Reg → Elem → Type 0
ReadsElem p t dst array RefElem = (a : ℕ) → t.reg array.0 a ≡ true → is_ref_array p a ≡ true → IsWithin (t.elem a) (t.reg dst.0)
ReadsElem p t dst array IntElem = ⊤
ReadsElem p t dst array ByteElem = ⊤
ReadsElem p t dst array CharElem = ⊤
ReadsElem p t dst array ShortElem = ⊤

-- rule 11: a call with a receiver may call what each site of the receiver gives
abbrev pub CallsOnSites : List ClassInfo → RegProgram → FactSets → ℕ → CallKind → ℕ → List Reg → Type 0
CallsOnSites h p t n kind m args =
    (r : Reg) (s to : ℕ) → slice_get args 0 ≡ Some r → t.reg r.0 s ≡ true → site_target h p kind m s ≡ Some to → t.call n to ≡ true

-- rule 11: what a node may call
abbrev pub CallsTargets : List ClassInfo → RegProgram → FactSets → ℕ → CallKind → ℕ → List Reg → Type 0
CallsTargets h p t n Virtual m args = CallsOnSites h p t n Virtual m args
CallsTargets h p t n (Special k) m args = CallsOnSites h p t n (Special k) m args
CallsTargets h p t n Static m args = (to : ℕ) → static_target h m ≡ Some to → t.call n to ≡ true

-- rule 11: arguments flow to parameters
abbrev pub ArgumentsFlow : FactSets → List Reg → List Reg → Type 0
ArgumentsFlow t [] params = ⊤
ArgumentsFlow t (a ∷ args) [] = ⊤
ArgumentsFlow t (a ∷ args) (q ∷ params) = IsWithin (t.reg a.0) (t.reg q.0) × ArgumentsFlow t args params

-- rule 11: the receiver flows too, of its sites only those that give the method
abbrev pub ReceiverFlows : List ClassInfo → RegProgram → FactSets → CallKind → ℕ → ℕ → List Reg → List Reg → Type 0
ReceiverFlows h p t kind m to [] params = ⊤
ReceiverFlows h p t kind m to (a ∷ args) [] = ⊤
ReceiverFlows h p t kind m to (a ∷ args) (q ∷ params) =
    ((s : ℕ) → t.reg a.0 s ≡ true → site_target h p kind m s ≡ Some to → t.reg q.0 s ≡ true) × ArgumentsFlow t args params

abbrev pub FlowsIn : List ClassInfo → RegProgram → FactSets → CallKind → ℕ → ℕ → List Reg → List Reg → Type 0
FlowsIn h p t Virtual m to args params = ReceiverFlows h p t Virtual m to args params
FlowsIn h p t (Special k) m to args params = ReceiverFlows h p t (Special k) m to args params
FlowsIn h p t Static m to args params = ArgumentsFlow t args params

-- rule 11: what the Returns of the method return flows to the result
abbrev pub FlowsOut : RegProgram → FactSets → Option Reg → ℕ → Type 0
FlowsOut p t None to = ⊤
FlowsOut p t (Some dst) to =
    (n : ℕ) (node : Node) (src : Reg) → node_at p n ≡ Some node → node.method.0 ≡ to → node.stmt ≡ Return (Some src)
    → IsWithin (t.reg src.0) (t.reg dst.0)

-- rule 11: what a node may call may run, and arguments and result flow
pub record CallFlows (h : List ClassInfo) (p : RegProgram) (t : FactSets) (dst : Option Reg) (kind : CallKind) (m : ℕ) (args : List Reg)
    (to : ℕ) : Type 0 where
  pub reached : t.reached to ≡ true
  pub arguments : (method : Method) → method_at p to ≡ Some method → FlowsIn h p t kind m to args method.params
  pub result : FlowsOut p t dst to

-- rule 11
pub record CallsAll (h : List ClassInfo) (p : RegProgram) (t : FactSets) (n : ℕ) (dst : Option Reg) (kind : CallKind) (m : ℕ)
    (args : List Reg) : Type 0 where
  pub targets : CallsTargets h p t n kind m args
  pub flows : (to : ℕ) → t.call n to ≡ true → CallFlows h p t dst kind m args to

-- rule 12: an Init may run the initialisers of its class and of the superclasses
abbrev pub ReachesInitialisers : List ClassInfo → FactSets → ℕ → Type 0
ReachesInitialisers h t k = (m : ℕ) → IsInitialiser h k m → t.reached m ≡ true

-- the rules for a statement at a node
abbrev pub Obeys : List ClassInfo → RegProgram → FactSets → ℕ → Stmt → Type 0
Obeys h p t n Nop = ⊤
Obeys h p t n (Const dst k) = ⊤
Obeys h p t n (Null dst) = ⊤
Obeys h p t n (Str dst site) = GivesSite t dst site
Obeys h p t n (Copy pairs) = Copies t pairs
Obeys h p t n (Arith dst op a b) = ⊤
Obeys h p t n (Neg dst a) = ⊤
Obeys h p t n (AddConst dst a k) = ⊤
Obeys h p t n (Narrow dst op a) = ⊤
Obeys h p t n (AnyInt dst) = ⊤
Obeys h p t n (Assume condition) = ⊤
Obeys h p t n (GetStatic dst f) = ReadsStatic t dst f.0
Obeys h p t n (PutStatic f src) = WritesStatic t f.0 src
Obeys h p t n (GetField dst base f) = ReadsField h p t dst base f.0
Obeys h p t n (PutField base f src) = WritesField h p t base f.0 src
Obeys h p t n (GetElem dst array kind) = ReadsElem p t dst array kind
Obeys h p t n (PutElem array src) = WritesElem h p t array src
Obeys h p t n (Length dst array) = ⊤
Obeys h p t n (New dst site) = GivesSite t dst site
Obeys h p t n (NewArray dst site count) = GivesSite t dst site
Obeys h p t n (Cast dst src text) = CastsTo h p t dst src text
Obeys h p t n (InstanceOf dst src text) = ⊤
Obeys h p t n (Call dst kind m args) = CallsAll h p t n dst kind m.0 args
Obeys h p t n (Init k) = ReachesInitialisers h t k.0
Obeys h p t n (Return src) = ⊤
Obeys h p t n (Pick dst k) = GivesLaunched p t dst k.0
Obeys h p t n (NonNull src) = ⊤
Obeys h p t n Halt = ⊤

-- facts hold all rules
pub record HoldsRules (h : List ClassInfo) (p : RegProgram) (t : FactSets) : Type 0 where
  pub harness : ReachesHarness p t
  pub constants : HoldsConstants p t
  pub nodes : (n : ℕ) (node : Node) → node_at p n ≡ Some node → t.reached node.method.0 ≡ true → Obeys h p t n node.stmt

-- the least facts that hold the rules: they are within all that do
pub record IsLeast (h : List ClassInfo) (p : RegProgram) (t : FactSets) : Type 0 where
  pub holds : HoldsRules h p t
  pub least : (u : FactSets) → HoldsRules h p u → SaysWithin t u

-- the facts of a program: the least ones, listed
pub record LeastFacts (h : List ClassInfo) (p : RegProgram) (facts : Facts) : Type 0 where
  pub least : IsLeast h p (sets_of facts)
  pub listed : AreListed h p facts
