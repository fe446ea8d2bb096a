-- Private to the crate: the stores of a program, by what they store into, and what each gives.
use Rattle.std.specs.Prelude.{ℕ, ◌≡◌, ◌==◌, ◌&&◌, ◌+◌, ◌<◌, nat_lt, Bool, true, false, List, [], ◌∷◌, length, map, Option, None, Some, slice_get, if◌then◌else◌}
use Rattle.std.specs.List.{list_any}
use Rattle.std.specs.Option.{option_map_or}
use Rattle.th_base.specs.declared.class.ClassInfo.{ClassInfo}
use Rattle.th_base.specs.declared.number.FieldId.{FieldId}
use Rattle.th_base.specs.declared.number.NodeId.{NodeId}
use Rattle.th_base.specs.declared.number.SiteId.{SiteId}
use Rattle.th_base.specs.ValueKinds.{is_reference}
use Rattle.th_ir.specs.declared.graph.Edge.{Edge}
use Rattle.th_ir.specs.declared.graph.Edge.TheVariants.{Static, Field, Element}
use Rattle.th_ir.specs.declared.graph.Producer.{Producer}
use Rattle.th_ir.specs.declared.graph.Producer.TheVariants.{Node as StoreAt, Constant}
use Rattle.th_ir.specs.declared.program.Node.{Node}
use Rattle.th_ir.specs.declared.program.RegProgram.{RegProgram}
use Rattle.th_ir.specs.declared.stmt.Stmt.{Stmt}
use Rattle.th_ir.specs.declared.stmt.Stmt.TheVariants.{PutStatic, PutField, PutElem}
use Rattle.th_ir.specs.Fields.{has_field}
use Rattle.th_ir.specs.FactSets.{FactSets}
use Rattle.th_ir.specs.Program.{node_at}
use Rattle.th_ir.specs.Sites.{is_ref_array, can_store}
use Rattle.th_ir.specs.WellFormed.{places_from}
use Rattle.th_graph.specs.Searching.{row_at, row_of}
use Rattle.th_graph.specs.declared.store_index.StoreIndex.{StoreIndex}

-- ---- the index

-- the row of a field: its own, or the last one
abbrev pub bucket : ℕ → ℕ → ℕ
bucket f count = if nat_lt f count then f else count

abbrev pub static_key_of : ℕ → Stmt → Option ℕ
static_key_of count (PutStatic f src) = Some (bucket f.0 count)
static_key_of count _ = None

abbrev pub static_key : ℕ → Node → Option ℕ
static_key count node = static_key_of count node.stmt

abbrev pub field_key_of : ℕ → Stmt → Option ℕ
field_key_of count (PutField base f src) = Some (bucket f.0 count)
field_key_of count _ = None

abbrev pub field_key : ℕ → Node → Option ℕ
field_key count node = field_key_of count node.stmt

abbrev pub constant_key : ℕ → FieldId × SiteId → Option ℕ
constant_key count i = Some (bucket i.0.0 count)

abbrev pub stores_element : Stmt → Bool
stores_element (PutElem array src) = true
stores_element _ = false

abbrev pub element_places : List Node → List ℕ
element_places nodes = places_from (λ node. stores_element node.stmt) 0 nodes

-- rows of some keys
pub record AreRows (count : ℕ) (keys : List (Option ℕ)) (rows : List (List ℕ)) : Type 0 where
  pub count_is : length rows ≡ count + 1
  pub rows_are : (r : ℕ) → r < count + 1 → row_at rows r ≡ row_of r keys

-- the index is that of this program
pub record IsIndexOf (p : RegProgram) (index : StoreIndex) : Type 0 where
  pub statics : AreRows index.count (map (static_key index.count) p.nodes) index.statics.items
  pub fields : AreRows index.count (map (field_key index.count) p.nodes) index.fields.items
  pub constants : AreRows index.count (map (constant_key index.count) p.strings) index.constants.items
  pub elements : index.elements.items ≡ element_places p.nodes

-- the nodes among which the stores of an edge are
abbrev pub candidates : StoreIndex → Edge → List ℕ
candidates index (Static f x) = row_at index.statics.items (bucket f.0 index.count)
candidates index (Field x f y) = row_at index.fields.items (bucket f.0 index.count)
candidates index (Element x y) = index.elements.items

-- ---- what a store gives

-- the text is the descriptor of an array of references
abbrev pub is_ref_array_text : List ℕ → Bool
is_ref_array_text [] = false
is_ref_array_text (x ∷ xs) = x == 91 && is_reference xs

-- whether a statement gives an edge, by its rule
abbrev pub store_test : List ClassInfo → RegProgram → FactSets → Stmt → Edge → Bool
store_test h p t (PutStatic g src) (Static f x) = g.0 == f.0 && t.reg src.0 x.0
store_test h p t (PutField base g src) (Field x f y) = g.0 == f.0 && (t.reg base.0 x.0 && (has_field h p x.0 f.0 && t.reg src.0 y.0))
store_test h p t (PutElem array src) (Element x y) = t.reg array.0 x.0 && (is_ref_array p x.0 && (t.reg src.0 y.0 && can_store h p x.0 y.0))
store_test h p t _ _ = false

-- whether the store at a node of a method that may run gives an edge
abbrev pub stores_test : List ClassInfo → RegProgram → FactSets → ℕ → Edge → Bool
stores_test h p t n e = option_map_or (λ node. t.reached node.method.0 && store_test h p t node.stmt e) (node_at p n) false

abbrev pub store_at : ℕ → Producer
store_at n = let node : NodeId = record { 0 = n } in StoreAt node

-- whether the constant at a place of the list is this one
abbrev pub holds_at : List (FieldId × SiteId) → ℕ → ℕ → ℕ → Bool
holds_at strings f x place = option_map_or (λ i. i.0.0 == f && i.1.0 == x) (slice_get strings place) false

-- whether one of these places has it
abbrev pub any_holds : List (FieldId × SiteId) → ℕ → ℕ → List ℕ → Bool
any_holds strings f x places = list_any (holds_at strings f x) places

-- the String constant of a static edge, if there is one
abbrev pub constants_at : StoreIndex → RegProgram → Edge → List Producer
constants_at index p (Static f x) = if any_holds p.strings f.0 x.0 (row_at index.constants.items (bucket f.0 index.count)) then Constant f ∷ [] else []
constants_at index p (Field x f y) = []
constants_at index p (Element x y) = []
