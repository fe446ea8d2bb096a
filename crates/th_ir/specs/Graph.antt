-- The heap graph of the facts, alarms, and what produces an edge.
use Rattle.std.specs.Prelude.{ℕ, ◌≡◌, ◌⊎◌, ◌↔◌, true, List, [], ◌∷◌, Some, slice_get}
use Rattle.th_base.specs.declared.class.ClassInfo.{ClassInfo}
use Rattle.th_base.specs.declared.number.FieldId.{FieldId}
use Rattle.th_base.specs.declared.number.SiteId.{SiteId}
use Rattle.th_base.specs.Launchable.{is_activity}
use Rattle.th_ir.specs.declared.graph.Alarm.{Alarm}
use Rattle.th_ir.specs.declared.graph.Edge.{Edge}
use Rattle.th_ir.specs.declared.graph.Edge.TheVariants.{Static, Field, Element}
use Rattle.th_ir.specs.declared.graph.Producer.{Producer}
use Rattle.th_ir.specs.declared.graph.Producer.TheVariants.{Node as StoreAt, Constant}
use Rattle.th_ir.specs.declared.program.RegProgram.{RegProgram}
use Rattle.th_ir.specs.declared.program.Node.{Node}
use Rattle.th_ir.specs.declared.stmt.Stmt.{Stmt}
use Rattle.th_ir.specs.declared.stmt.Stmt.TheVariants.{Nop, PutStatic, PutField, PutElem}
use Rattle.th_ir.specs.Program.{Among, node_at}
use Rattle.th_ir.specs.Fields.{is_file_static, is_ref_field, has_field}
use Rattle.th_ir.specs.Sites.{site_class, is_ref_array, can_store}
use Rattle.th_ir.specs.Machine.{RegValue, RegObject, RegState, PointsTo, field_value, element_value}
use Rattle.th_ir.specs.FactSets.{FactSets, AscendBy}

-- ---- edges that a state realises

-- the value is the address of an object of this site
pub record IsOfSite (s : RegState) (v : RegValue) (site : ℕ) : Type 0 where
  pub at : PointsTo s.heap v
  pub made : at.object.site ≡ site

-- an object of this site is in the heap
pub record IsThere (s : RegState) (site : ℕ) : Type 0 where
  pub address : ℕ
  pub object : RegObject
  pub stands : slice_get s.heap address ≡ Some object
  pub made : object.site ≡ site

-- a static field, a field of some object of the edge's first site, or an element of some array of it,
-- holds an object of the last site
abbrev pub Realises : RegState → Edge → Type 0
Realises s (Static f x) = IsOfSite s (s.statics f.0) x.0
Realises s (Field x f y) = (o : IsThere s x.0) × (v : RegValue) × (field_value f.0 o.object.contents ≡ Some v) × IsOfSite s v y.0
Realises s (Element x y) = (o : IsThere s x.0) × (k : ℕ) × (v : RegValue) × (element_value k o.object.contents ≡ Some v) × IsOfSite s v y.0

-- ---- the graph

-- the facts have the edge; a static edge is one of a class of a file
abbrev pub HasEdge : List ClassInfo → FactSets → Edge → Type 0
HasEdge h t (Static f x) = (is_file_static h f.0 ≡ true) × (t.static f.0 x.0 ≡ true)
HasEdge h t (Field x f y) = t.cell x.0 f.0 y.0 ≡ true
HasEdge h t (Element x y) = t.elem x.0 y.0 ≡ true

-- the order of edges: of static fields, of fields, of elements, each by its numbers
abbrev pub edge_key : Edge → List ℕ
edge_key (Static f x) = 0 ∷ f.0 ∷ x.0 ∷ []
edge_key (Field x f y) = 1 ∷ x.0 ∷ f.0 ∷ y.0 ∷ []
edge_key (Element x y) = 2 ∷ x.0 ∷ y.0 ∷ []

-- exactly the edges that the facts have, in order
pub record IsGraph (h : List ClassInfo) (t : FactSets) (edges : List Edge) : Type 0 where
  pub edges_are : (e : Edge) → Among edges e ↔ HasEdge h t e
  pub ascend : AscendBy edge_key edges

-- ---- alarms

-- a path of edges leads from a static field to a site
pub data LeadsTo (edges : List Edge) (f : FieldId) : SiteId → Type 0 where
  begins : {x : SiteId} → Among edges (Static f x) → LeadsTo edges f x
  by_field : {x y : SiteId} → (g : FieldId) → LeadsTo edges f x → Among edges (Field x g y) → LeadsTo edges f y
  by_element : {x y : SiteId} → LeadsTo edges f x → Among edges (Element x y) → LeadsTo edges f y

-- a static field of reference type of a class of a file leads to a site of exactly this class, which
-- is an Activity's
pub record IsAlarm (h : List ClassInfo) (p : RegProgram) (edges : List Edge) (alarm : Alarm) : Type 0 where
  pub static : is_file_static h alarm.field.0 ≡ true
  pub reference : is_ref_field h alarm.field.0 ≡ true
  pub activity : is_activity h alarm.class.0 ≡ true
  pub site : SiteId
  pub leads : LeadsTo edges alarm.field site
  pub class : site_class h p site.0 ≡ Some alarm.class.0

abbrev pub alarm_key : Alarm → List ℕ
alarm_key a = a.field.0 ∷ a.class.0 ∷ []

-- exactly the alarms, by field and class
pub record AreAlarms (h : List ClassInfo) (p : RegProgram) (edges : List Edge) (alarms : List Alarm) : Type 0 where
  pub alarms_are : (a : Alarm) → Among alarms a ↔ IsAlarm h p edges a
  pub ascend : AscendBy alarm_key alarms

-- ---- producers

-- by the rule of its statement a store gives the edge
abbrev pub StoreGives : List ClassInfo → RegProgram → FactSets → Stmt → Edge → Type 0
StoreGives h p t (PutStatic g src) (Static f x) = (g ≡ f) × (t.reg src.0 x.0 ≡ true)
StoreGives h p t (PutField base g src) (Field x f y) =
    (g ≡ f) × (t.reg base.0 x.0 ≡ true) × (has_field h p x.0 f.0 ≡ true) × (t.reg src.0 y.0 ≡ true)
StoreGives h p t (PutElem array src) (Element x y) =
    (t.reg array.0 x.0 ≡ true) × (is_ref_array p x.0 ≡ true) × (t.reg src.0 y.0 ≡ true) × (can_store h p x.0 y.0 ≡ true)
StoreGives h p t _ _ = ⊥

-- the store at a node of a method that may run gives the edge
pub record StoresAt (h : List ClassInfo) (p : RegProgram) (t : FactSets) (n : ℕ) (e : Edge) : Type 0 where
  pub node : Node
  pub stands : node_at p n ≡ Some node
  pub reached : t.reached node.method.0 ≡ true
  pub gives : StoreGives h p t node.stmt e

-- a static field holds the String constant of a site from the start, and this is the edge
abbrev pub HoldsConstant : RegProgram → FieldId → Edge → Type 0
HoldsConstant p g (Static f x) = (g ≡ f) × Among p.strings (f, x)
HoldsConstant p g (Field x f y) = ⊥
HoldsConstant p g (Element x y) = ⊥

abbrev pub Produces : List ClassInfo → RegProgram → FactSets → Edge → Producer → Type 0
Produces h p t e (StoreAt n) = StoresAt h p t n.0 e
Produces h p t e (Constant f) = HoldsConstant p f e

-- a constant comes first, then nodes by number
abbrev pub producer_key : Producer → List ℕ
producer_key (Constant f) = 0 ∷ f.0 ∷ []
producer_key (StoreAt n) = 1 ∷ n.0 ∷ []

-- exactly the producers of an edge, in order
pub record AreProducers (h : List ClassInfo) (p : RegProgram) (t : FactSets) (e : Edge) (producers : List Producer) : Type 0 where
  pub producers_are : (x : Producer) → Among producers x ↔ Produces h p t e x
  pub ascend : AscendBy producer_key producers
