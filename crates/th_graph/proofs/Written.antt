-- A step writes one place at most: an edge that a state realises was realised before the step, or the
-- step stores it.
use Rattle.std.proofs.Common.{◌≡◌, ℕ, zero, suc, ◌==◌, ◌⊎◌, inl, inr, Bool, true, false, List, [], ◌∷◌, ◌++◌, Option, Some, slice_get, refl, sym, ap, subst, ◌∙◌, if◌then◌else◌}
use Rattle.std.specs.Prelude.{slice_set}
use Rattle.std.specs.Option.{option_map, option_map_or}
use Rattle.std.specs.List.{AllByRecursion}
use Rattle.std.proofs.lemmas.Bool.{eqb-true}
use Rattle.th_base.specs.declared.class.ClassInfo.{ClassInfo}
use Rattle.th_base.specs.declared.number.FieldId.{FieldId}
use Rattle.th_base.specs.declared.number.NodeId.{NodeId}
use Rattle.th_base.specs.declared.number.SiteId.{SiteId}
use Rattle.th_ir.specs.declared.graph.Edge.{Edge}
use Rattle.th_ir.specs.declared.graph.Edge.TheVariants.{Static, Field, Element}
use Rattle.th_ir.specs.declared.graph.Producer.TheVariants.{Node as StoreAt}
use Rattle.th_ir.specs.declared.program.RegProgram.{RegProgram}
use Rattle.th_ir.specs.declared.program.Node.{Node}
use Rattle.th_ir.specs.declared.stmt.Stmt.{Stmt}
use Rattle.th_ir.specs.declared.stmt.Stmt.TheVariants.{Call, Init}
use Rattle.th_ir.specs.Program.{node_at}
use Rattle.th_ir.specs.Fields.{has_field}
use Rattle.th_ir.specs.Sites.{is_ref_elem, is_ref_array, can_store}
use Rattle.th_ir.specs.Machine.{RegValue, Address, Contents, Instance, Array, RegObject, RegFrame, RegState, PointsTo, field_value, element_value, with_field, with_element, changed_at}
use Rattle.th_ir.specs.Effects.{is_storable, Change, Sets, SetsStatic, SetsField, SetsElement, Makes, Enters, Leaves}
use Rattle.th_ir.specs.Step.{Resumes, Returns, Happens, StepFrom}
use Rattle.th_ir.specs.FactSets.{FactSets}
use Rattle.th_ir.specs.Covered.{HasSite, Covers}
use Rattle.th_ir.specs.Good.{IsFrame, IsGood}
use Rattle.th_ir.specs.Graph.{IsOfSite, IsThere, Realises, StoreGives, Produces}
use Rattle.th_ir.proofs.Plain.{some_is, same_found}
use Rattle.th_ir.proofs.Heaps.{IsExtended, same_heap, grown, grown_cases, changed, changed_cases}
use Rattle.th_ir.proofs.Changes.{node_within}
use Rattle.th_graph.specs.Produced.{HoldsSites, StandsToStore}
use Rattle.th_graph.proofs.Stores.{StoresStatic, StoresField, StoresElement, HoldsNothing, Stored, stored}

-- ---- what a place holds

-- the site of what a covered place holds is in its set
in_set : (s : RegState) (set : ℕ → Bool) (v : RegValue) (x : ℕ) → HasSite s.heap set v → IsOfSite s v x → set x ≡ true
in_set s set v x has_it is =
    let there : HasSite s.heap set (Address is.at.address) = subst (HasSite s.heap set) is.at.value has_it in
    let same : there.0 ≡ is.at.object = same_found (slice_get s.heap is.at.address) there.0 is.at.object there.1 is.at.stands in
    subst (λ (k : ℕ). set k ≡ true) (ap (λ (o : RegObject). o.site) same ∙ is.made) there.2

-- what a place held before the step is of the same site then
was_of_site : (s u : RegState) (set : ℕ → Bool) (v : RegValue) (x : ℕ) → IsExtended s.heap u.heap → HasSite s.heap set v → IsOfSite u v x → IsOfSite s v x
was_of_site s u set v x grows has_it is =
    let there : HasSite s.heap set (Address is.at.address) = subst (HasSite s.heap set) is.at.value has_it in
    let new = grows is.at.address there.0 there.1 in
    let same : new.0 ≡ is.at.object = same_found (slice_get u.heap is.at.address) new.0 is.at.object new.1 is.at.stands in
    record {
      at = record { address = is.at.address; object = there.0; value = is.at.value; stands = there.1 };
      made = sym new.2 ∙ ap (λ (o : RegObject). o.site) same ∙ is.made;
    }

-- ---- what holds of an object

-- an object of a site, with this in a field, or in an element
record HasField (s : RegState) (x f : ℕ) (v : RegValue) : Type 0 where
  there : IsThere s x
  value : field_value f there.object.contents ≡ Some v

record HasElement (s : RegState) (x : ℕ) (v : RegValue) : Type 0 where
  there : IsThere s x
  place : ℕ
  value : element_value place there.object.contents ≡ Some v

was_field : (h : List ClassInfo) (p : RegProgram) (t : FactSets) (s u : RegState) (x f y : ℕ) (v : RegValue) → Covers h p t s → IsExtended s.heap u.heap → HasField s x f v → IsOfSite u v y → IsOfSite s v y
was_field h p t s u x f y v covers grows had is =
    let o = had.there in
    was_of_site s u (t.cell o.object.site f) v y grows (covers.fields o.address o.object f v o.stands had.value).site is

was_element : (h : List ClassInfo) (p : RegProgram) (t : FactSets) (s u : RegState) (x y : ℕ) (v : RegValue) → Covers h p t s → IsExtended s.heap u.heap → HasElement s x v → IsOfSite u v y → IsOfSite s v y
was_element h p t s u x y v covers grows had is =
    let o = had.there in
    was_of_site s u (t.elem o.object.site) v y grows (covers.elements o.address o.object had.place v o.stands had.value).site is

-- an object that stood at its address before
abbrev there_before : (s u : RegState) (x : ℕ) (o : IsThere u x) → slice_get s.heap o.address ≡ Some o.object → IsThere s x
there_before s u x o stands = record { address = o.address; object = o.object; stands = stands; made = o.made }

-- ---- the store at which the innermost frame stands

record AtStore (h : List ClassInfo) (p : RegProgram) (t : FactSets) (s : RegState) (f : RegFrame) (below : List RegFrame) (node : Node) : Type 0 where
  covers : Covers h p t s
  frames : s.frames ≡ f ∷ below
  stands : node_at p f.node ≡ Some node
  reached : t.reached node.method.0 ≡ true

-- the innermost frame stands at a producer of the edge
pub record IsStoredNow (h : List ClassInfo) (p : RegProgram) (t : FactSets) (s : RegState) (e : Edge) : Type 0 where
  pub node : NodeId
  pub produces : Produces h p t e (StoreAt node)
  pub at : StandsToStore p s node.0 e

stored_now : (h : List ClassInfo) (p : RegProgram) (t : FactSets) (s : RegState) (f : RegFrame) (below : List RegFrame) (node : Node) (e : Edge) → AtStore h p t s f below node → StoreGives h p t node.stmt e
    → HoldsSites s f node.stmt e → IsStoredNow h p t s e
stored_now h p t s f below node e at gives holds = record {
  node = record { 0 = f.node };
  produces = record { node = node; stands = at.stands; reached = at.reached; gives = gives };
  at = record { frame = f; below = below; frames = at.frames; at = refl; node = node; stands = at.stands; holds = holds };
}

-- a register of the innermost frame
reg_site : (h : List ClassInfo) (p : RegProgram) (t : FactSets) (s : RegState) (f : RegFrame) (below : List RegFrame) (node : Node) (r : ℕ) → AtStore h p t s f below node → HasSite s.heap (t.reg r) (f.regs r)
reg_site h p t s f below node r at = at.covers.regs f (0, ap (λ (l : List RegFrame). slice_get l 0) at.frames) r

static_now : (h : List ClassInfo) (p : RegProgram) (t : FactSets) (s u : RegState) (f : RegFrame) (below : List RegFrame) (node : Node) (g : FieldId) (x : SiteId) (v : RegValue) → AtStore h p t s f below node
    → IsExtended s.heap u.heap → StoresStatic f.regs node.stmt g.0 v → IsOfSite u v x.0 → IsStoredNow h p t s (Static g x)
static_now h p t s u f below node g x v at grows put is =
    let make : ℕ → FieldId = λ n. record { 0 = n } in
    let held = reg_site h p t s f below node put.src.0 at in
    let source = was_of_site s u (t.reg put.src.0) (f.regs put.src.0) x.0 grows held (subst (λ w. IsOfSite u w x.0) put.value is) in
    let given = in_set s (t.reg put.src.0) (f.regs put.src.0) x.0 held source in
    stored_now h p t s f below node (Static g x) at (subst (λ stmt. StoreGives h p t stmt (Static g x)) (sym put.is) (ap make put.number, given))
    (subst (λ stmt. HoldsSites s f stmt (Static g x)) (sym put.is) source)

-- the object at the address that a store names
object_there : (s : RegState) (v : RegValue) (a x : ℕ) (at : PointsTo s.heap v) (o : RegObject) → at.address ≡ a → slice_get s.heap a ≡ Some o → o.site ≡ x → at.object.site ≡ x
object_there s v a x at o same stands made =
    ap (λ (w : RegObject). w.site) (same_found (slice_get s.heap at.address) at.object o at.stands (ap (λ k. slice_get s.heap k) same ∙ stands)) ∙ made

field_now : (h : List ClassInfo) (p : RegProgram) (t : FactSets) (s u : RegState) (f : RegFrame) (below : List RegFrame) (node : Node) (x : SiteId) (g : FieldId) (y : SiteId) (a : ℕ) (o : RegObject) (v : RegValue)
    → AtStore h p t s f below node → IsExtended s.heap u.heap → StoresField s f.regs node.stmt a g.0 v → slice_get s.heap a ≡ Some o → o.site ≡ x.0 → IsOfSite u v y.0 → IsStoredNow h p t s (Field x g y)
field_now h p t s u f below node x g y a o v at grows put stands made is =
    let make : ℕ → FieldId = λ n. record { 0 = n } in
    let held = reg_site h p t s f below node put.src.0 at in
    let source = was_of_site s u (t.reg put.src.0) (f.regs put.src.0) y.0 grows held (subst (λ w. IsOfSite u w y.0) put.value is) in
    let site : put.at.object.site ≡ x.0 = object_there s (f.regs put.base.0) a x.0 put.at o put.address stands made in
    let base : IsOfSite s (f.regs put.base.0) x.0 = record { at = put.at; made = site } in
    let slot = (at.covers.fields put.at.address put.at.object put.field.0 put.old put.at.stands put.slot).has_slot in
    let has_it : has_field h p x.0 g.0 ≡ true = subst (λ k. has_field h p x.0 k ≡ true) put.number (subst (λ k. has_field h p k put.field.0 ≡ true) site slot) in
    let in_base = in_set s (t.reg put.base.0) (f.regs put.base.0) x.0 (reg_site h p t s f below node put.base.0 at) base in
    let in_source = in_set s (t.reg put.src.0) (f.regs put.src.0) y.0 held source in
    stored_now h p t s f below node (Field x g y) at (subst (λ stmt. StoreGives h p t stmt (Field x g y)) (sym put.is) (ap make put.number, in_base, has_it, in_source))
    (subst (λ stmt. HoldsSites s f stmt (Field x g y)) (sym put.is) (base, source))

storable_is : (h : List ClassInfo) (p : RegProgram) (s : RegState) (array : ℕ) (v : RegValue) (y : ℕ) → is_storable h p s.heap array v ≡ true → IsOfSite s v y → can_store h p array y ≡ true
storable_is h p s array v y e is =
    let here : option_map_or (λ (o : RegObject). can_store h p array o.site) (slice_get s.heap is.at.address) false ≡ true =
    ap (is_storable h p s.heap array) (sym is.at.value) ∙ e in
    let there : can_store h p array is.at.object.site ≡ true =
    ap (λ (o : Option RegObject). option_map_or (λ (w : RegObject). can_store h p array w.site) o false) (sym is.at.stands) ∙ here in
    subst (λ k. can_store h p array k ≡ true) is.made there

element_now : (h : List ClassInfo) (p : RegProgram) (t : FactSets) (s u : RegState) (f : RegFrame) (below : List RegFrame) (node : Node) (x y : SiteId) (a : ℕ) (o : RegObject) (v : RegValue)
    → AtStore h p t s f below node → IsExtended s.heap u.heap → StoresElement h p s f.regs node.stmt a v → slice_get s.heap a ≡ Some o → o.site ≡ x.0 → IsOfSite u v y.0 → IsStoredNow h p t s (Element x y)
element_now h p t s u f below node x y a o v at grows put stands made is =
    let held = reg_site h p t s f below node put.src.0 at in
    let source = was_of_site s u (t.reg put.src.0) (f.regs put.src.0) y.0 grows held (subst (λ w. IsOfSite u w y.0) put.value is) in
    let site : put.element.at.object.site ≡ x.0 = object_there s (f.regs put.array.0) a x.0 put.element.at o put.address stands made in
    let array : IsOfSite s (f.regs put.array.0) x.0 = record { at = put.element.at; made = site } in
    let refs : is_ref_array p x.0 ≡ true = subst (λ k. is_ref_array p k ≡ true) site (ap is_ref_elem put.element.kind_is) in
    let fits : can_store h p x.0 y.0 ≡ true = subst (λ k. can_store h p k y.0 ≡ true) site (storable_is h p s put.element.at.object.site (f.regs put.src.0) y.0 put.storable source) in
    let in_array = in_set s (t.reg put.array.0) (f.regs put.array.0) x.0 (reg_site h p t s f below node put.array.0 at) array in
    let in_source = in_set s (t.reg put.src.0) (f.regs put.src.0) y.0 held source in
    stored_now h p t s f below node (Element x y) at (subst (λ stmt. StoreGives h p t stmt (Element x y)) (sym put.is) (in_array, refs, in_source, fits))
    (subst (λ stmt. HoldsSites s f stmt (Element x y)) (sym put.is) (array, source))

-- ---- a step, by the edge

-- before a step the state realised the edge, or the step stores it
abbrev pub Looks : List ClassInfo → RegProgram → FactSets → RegState → RegState → Edge → Type 0
Looks h p t s u e = Realises u e → Realises s e ⊎ IsStoredNow h p t s e

-- how a step finds fields and elements of objects: as they were, or as what it stores
record LooksBack (h : List ClassInfo) (p : RegProgram) (t : FactSets) (s u : RegState) : Type 0 where
  grows : IsExtended s.heap u.heap
  statics : (g : FieldId) (x : SiteId) → IsOfSite u (u.statics g.0) x.0 → (u.statics g.0 ≡ s.statics g.0) ⊎ IsStoredNow h p t s (Static g x)
  fields : (x : SiteId) (g : FieldId) (y : SiteId) (v : RegValue) → HasField u x.0 g.0 v → IsOfSite u v y.0 → HasField s x.0 g.0 v ⊎ IsStoredNow h p t s (Field x g y)
  elements : (x y : SiteId) (v : RegValue) → HasElement u x.0 v → IsOfSite u v y.0 → HasElement s x.0 v ⊎ IsStoredNow h p t s (Element x y)

looks : (h : List ClassInfo) (p : RegProgram) (t : FactSets) (s u : RegState) (e : Edge) → Covers h p t s → LooksBack h p t s u → Looks h p t s u e
looks h p t s u (Static g x) covers back is = elim (back.statics g x is) [
  | inl same ↦ inl (was_of_site s u (t.static g.0) (s.statics g.0) x.0 back.grows (covers.statics g.0) (subst (λ w. IsOfSite u w x.0) same is))
  | inr now ↦ inr now
]
looks h p t s u (Field x g y) covers back is = elim (back.fields x g y is.1 (record { there = is.0; value = is.2 }) is.3) [
  | inl had ↦ inl (had.there, is.1, had.value, was_field h p t s u x.0 g.0 y.0 is.1 covers back.grows had is.3)
  | inr now ↦ inr now
]
looks h p t s u (Element x y) covers back is = elim (back.elements x y is.2 (record { there = is.0; place = is.1; value = is.3 }) is.4) [
  | inl had ↦ inl (had.there, had.place, is.2, had.value, was_element h p t s u x.0 y.0 is.2 covers back.grows had is.4)
  | inr now ↦ inr now
]

-- ---- a step, by its change

grows_same : (s u : RegState) → u.heap ≡ s.heap → IsExtended s.heap u.heap
grows_same s u same = subst (IsExtended s.heap) (sym same) (same_heap s.heap)

abbrev there_same : (s u : RegState) (x : ℕ) (o : IsThere u x) → u.heap ≡ s.heap → IsThere s x
there_same s u x o same = there_before s u x o (ap (λ (l : List RegObject). slice_get l o.address) (sym same) ∙ o.stands)

-- the heap is as before
same_data : (h : List ClassInfo) (p : RegProgram) (t : FactSets) (s u : RegState) → u.heap ≡ s.heap
    → ((g : FieldId) (x : SiteId) → IsOfSite u (u.statics g.0) x.0 → (u.statics g.0 ≡ s.statics g.0) ⊎ IsStoredNow h p t s (Static g x)) → LooksBack h p t s u
same_data h p t s u same statics = record {
  grows = grows_same s u same;
  statics = statics;
  fields = λ x g y v had is. inl (record { there = there_same s u x.0 had.there same; value = had.value });
  elements = λ x y v had is. inl (record { there = there_same s u x.0 had.there same; place = had.place; value = had.value });
}

static_cases : (v w : RegValue) (k g : ℕ) (b : Bool) → (k == g) ≡ b → ((if b then v else w) ≡ w) ⊎ ((k ≡ g) × ((if b then v else w) ≡ v))
static_cases v w k g true e = inr (eqb-true k g e, refl)
static_cases v w k g false e = inl refl

field_cases : (f g : ℕ) (v w : RegValue) (b : Contents) → field_value f (with_field g v b) ≡ Some w → (field_value f b ≡ Some w) ⊎ ((f ≡ g) × (v ≡ w))
field_cases f g v w (Instance fields) e = by_test (f == g) refl e
  where
    by_test : (b : Bool) → (f == g) ≡ b → (if b then Some v else fields f) ≡ Some w → (fields f ≡ Some w) ⊎ ((f ≡ g) × (v ≡ w))
    by_test true is e = inr (eqb-true f g is, some_is v w e)
    by_test false is e = inl e
field_cases f g v w (Array elements) e = inl e

element_same : (k g : ℕ) (v w : RegValue) (b : Contents) → element_value k (with_field g v b) ≡ Some w → element_value k b ≡ Some w
element_same k g v w (Instance fields) e = e
element_same k g v w (Array elements) e = e

field_same : (f k : ℕ) (v w : RegValue) (b : Contents) → field_value f (with_element k v b) ≡ Some w → field_value f b ≡ Some w
field_same f k v w (Instance fields) e = e
field_same f k v w (Array elements) e = e

set_cases : (xs : List RegValue) (k j : ℕ) (v w : RegValue) → slice_get (slice_set xs k v) j ≡ Some w → (slice_get xs j ≡ Some w) ⊎ (v ≡ w)
set_cases [] k j v w e = absurd cc
set_cases (x ∷ xs) zero zero v w e = inr (some_is v w e)
set_cases (x ∷ xs) zero (suc j) v w e = inl e
set_cases (x ∷ xs) (suc k) zero v w e = inl e
set_cases (x ∷ xs) (suc k) (suc j) v w e = set_cases xs k j v w e

element_cases : (j k : ℕ) (v w : RegValue) (b : Contents) → element_value j (with_element k v b) ≡ Some w → (element_value j b ≡ Some w) ⊎ (v ≡ w)
element_cases j k v w (Instance fields) e = inl e
element_cases j k v w (Array elements) e = set_cases elements k j v w e

-- an object of a heap in which the contents at one address changed
record WasThere (s : RegState) (x a : ℕ) (change : Contents → Contents) (now : RegObject) : Type 0 where
  object : RegObject
  stands : slice_get s.heap a ≡ Some object
  site : object.site ≡ x
  contents : change object.contents ≡ now.contents

was_there : (s u : RegState) (x a : ℕ) (change : Contents → Contents) (o : IsThere u x) → u.heap ≡ changed_at a change s.heap → (slice_get s.heap o.address ≡ Some o.object) ⊎ WasThere s x a change o.object
was_there s u x a change o heap =
    elim (changed_cases s.heap a change o.address o.object (ap (λ (l : List RegObject). slice_get l o.address) (sym heap) ∙ o.stands)) [
      | inl old ↦ inl old
      | inr new ↦ inr (record {
        object = new.0;
        stands = new.1;
        site = ap (λ (w : RegObject). w.site) new.3 ∙ o.made;
        contents = ap (λ (w : RegObject). w.contents) new.3;
      })
    ]

abbrev there_at : (s : RegState) (x a : ℕ) (change : Contents → Contents) (now : RegObject) → WasThere s x a change now → IsThere s x
there_at s x a change now was = record { address = a; object = was.object; stands = was.stands; made = was.site }

field_stored : (h : List ClassInfo) (p : RegProgram) (t : FactSets) (s u : RegState) (f : RegFrame) (below : List RegFrame) (node : Node) (a k : ℕ) (v : RegValue) → AtStore h p t s f below node
    → StoresField s f.regs node.stmt a k v → u.heap ≡ changed_at a (with_field k v) s.heap → ((j : ℕ) → u.statics j ≡ s.statics j) → LooksBack h p t s u
field_stored h p t s u f below node a k v at put heap statics =
    let grows : IsExtended s.heap u.heap = subst (IsExtended s.heap) (sym heap) (changed s.heap a (with_field k v)) in
    record {
      grows = grows;
      statics = λ g x is. inl (statics g.0);
      fields = λ x g y w had is. elim (was_there s u x.0 a (with_field k v) had.there heap) [
        | inl old ↦ inl (record { there = there_before s u x.0 had.there old; value = had.value })
        | inr was ↦ elim (field_cases g.0 k v w was.object.contents (ap (field_value g.0) was.contents ∙ had.value)) [
          | inl value ↦ inl (record { there = there_at s x.0 a (with_field k v) had.there.object was; value = value })
          | inr new ↦ inr (field_now h p t s u f below node x g y a was.object v at grows (subst (λ j. StoresField s f.regs node.stmt a j v) (sym new.0) put) was.stands was.site
              (subst (λ z. IsOfSite u z y.0) (sym new.1) is))
        ]
      ];
      elements = λ x y w had is. elim (was_there s u x.0 a (with_field k v) had.there heap) [
        | inl old ↦ inl (record { there = there_before s u x.0 had.there old; place = had.place; value = had.value })
        | inr was ↦ inl (record {
          there = there_at s x.0 a (with_field k v) had.there.object was;
          place = had.place;
          value = element_same had.place k v w was.object.contents (ap (element_value had.place) was.contents ∙ had.value);
        })
      ];
    }

element_stored : (h : List ClassInfo) (p : RegProgram) (t : FactSets) (s u : RegState) (f : RegFrame) (below : List RegFrame) (node : Node) (a k : ℕ) (v : RegValue) → AtStore h p t s f below node
    → StoresElement h p s f.regs node.stmt a v → u.heap ≡ changed_at a (with_element k v) s.heap → ((j : ℕ) → u.statics j ≡ s.statics j) → LooksBack h p t s u
element_stored h p t s u f below node a k v at put heap statics =
    let grows : IsExtended s.heap u.heap = subst (IsExtended s.heap) (sym heap) (changed s.heap a (with_element k v)) in
    record {
      grows = grows;
      statics = λ g x is. inl (statics g.0);
      fields = λ x g y w had is. elim (was_there s u x.0 a (with_element k v) had.there heap) [
        | inl old ↦ inl (record { there = there_before s u x.0 had.there old; value = had.value })
        | inr was ↦ inl (record {
          there = there_at s x.0 a (with_element k v) had.there.object was;
          value = field_same g.0 k v w was.object.contents (ap (field_value g.0) was.contents ∙ had.value);
        })
      ];
      elements = λ x y w had is. elim (was_there s u x.0 a (with_element k v) had.there heap) [
        | inl old ↦ inl (record { there = there_before s u x.0 had.there old; place = had.place; value = had.value })
        | inr was ↦ elim (element_cases had.place k v w was.object.contents (ap (element_value had.place) was.contents ∙ had.value)) [
          | inl value ↦ inl (record { there = there_at s x.0 a (with_element k v) had.there.object was; place = had.place; value = value })
          | inr new ↦ inr (element_now h p t s u f below node x y a was.object v at grows put was.stands was.site (subst (λ z. IsOfSite u z y.0) (sym new) is))
        ]
      ];
    }

object_made : (h : List ClassInfo) (p : RegProgram) (t : FactSets) (s u : RegState) (o : RegObject) → HoldsNothing o → u.heap ≡ s.heap ++ o ∷ [] → ((j : ℕ) → u.statics j ≡ s.statics j) → LooksBack h p t s u
object_made h p t s u o nothing heap statics = record {
  grows = subst (IsExtended s.heap) (sym heap) (grown s.heap o);
  statics = λ g x is. inl (statics g.0);
  fields = λ x g y w had is. elim (grown_cases s.heap o had.there.address had.there.object (ap (λ (l : List RegObject). slice_get l had.there.address) (sym heap) ∙ had.there.stands)) [
    | inl old ↦ inl (record { there = there_before s u x.0 had.there old; value = had.value })
    | inr new ↦ absurd (nothing.fields g.0 is.at.address (ap (λ (z : RegObject). field_value g.0 z.contents) new.0 ∙ had.value ∙ ap Some is.at.value))
  ];
  elements = λ x y w had is. elim (grown_cases s.heap o had.there.address had.there.object (ap (λ (l : List RegObject). slice_get l had.there.address) (sym heap) ∙ had.there.stands)) [
    | inl old ↦ inl (record { there = there_before s u x.0 had.there old; place = had.place; value = had.value })
    | inr new ↦ absurd (nothing.elements had.place is.at.address (ap (λ (z : RegObject). element_value had.place z.contents) new.0 ∙ had.value ∙ ap Some is.at.value))
  ];
}

nothing_stored : (h : List ClassInfo) (p : RegProgram) (t : FactSets) (s u : RegState) → u.heap ≡ s.heap → ((j : ℕ) → u.statics j ≡ s.statics j) → LooksBack h p t s u
nothing_stored h p t s u heap statics = same_data h p t s u heap (λ g x is. inl (statics g.0))

resumed : (h : List ClassInfo) (p : RegProgram) (t : FactSets) (s u : RegState) (v : Option RegValue) (g : RegFrame) (below : List RegFrame) (node : Node) (stmt : Stmt) → Resumes s v g below node stmt u → LooksBack h p t s u
resumed h p t s u v g below node (Call dst kind k args) step = nothing_stored h p t s u (ap (λ (x : RegState). x.heap) step.after) (λ j. ap (λ (x : RegState). x.statics j) step.after)
resumed h p t s u v g below node (Init k) step = nothing_stored h p t s u (ap (λ (x : RegState). x.heap) step) (λ j. ap (λ (x : RegState). x.statics j) step)
resumed h p t s u v g below node stmt step = absurd step

returned : (h : List ClassInfo) (p : RegProgram) (t : FactSets) (s u : RegState) (f : RegFrame) (below : List RegFrame) (v : Option RegValue) → Returns p s f below v u → LooksBack h p t s u
returned h p t s u f [] v step = nothing_stored h p t s u (ap (λ (x : RegState). x.heap) step) (λ j. ap (λ (x : RegState). x.statics j) step)
returned h p t s u f (g ∷ below) v step = resumed h p t s u v g below step.0 step.0.stmt step.2

changed_by : (h : List ClassInfo) (p : RegProgram) (t : FactSets) (s u : RegState) (f : RegFrame) (below : List RegFrame) (node : Node) (c : Change) → AtStore h p t s f below node → Stored h p s f.regs node.stmt c
    → Happens p s f below node c u → LooksBack h p t s u
changed_by h p t s u f below node (Sets ws) at put step = nothing_stored h p t s u (ap (λ (x : RegState). x.heap) step.after) (λ j. ap (λ (x : RegState). x.statics j) step.after)
changed_by h p t s u f below node (SetsStatic k v) at put step =
    let heap : u.heap ≡ s.heap = ap (λ (x : RegState). x.heap) step.after in
    same_data h p t s u heap (λ g x is.
    let now : u.statics g.0 ≡ (if g.0 == k then v else s.statics g.0) = ap (λ (y : RegState). y.statics g.0) step.after in
    elim (static_cases v (s.statics g.0) g.0 k (g.0 == k) refl) [
      | inl same ↦ inl (now ∙ same)
      | inr new ↦ inr (static_now h p t s u f below node g x v at (grows_same s u heap) (subst (λ j. StoresStatic f.regs node.stmt j v) (sym new.0) put) (subst (λ z. IsOfSite u z x.0) (now ∙ new.1) is))
    ])
changed_by h p t s u f below node (SetsField a k v) at put step = field_stored h p t s u f below node a k v at put (ap (λ (x : RegState). x.heap) step.after) (λ j. ap (λ (x : RegState). x.statics j) step.after)
changed_by h p t s u f below node (SetsElement a k v) at put step = element_stored h p t s u f below node a k v at put (ap (λ (x : RegState). x.heap) step.after) (λ j. ap (λ (x : RegState). x.statics j) step.after)
changed_by h p t s u f below node (Makes dst o) at put step = object_made h p t s u o put (ap (λ (x : RegState). x.heap) step.after) (λ j. ap (λ (x : RegState). x.statics j) step.after)
changed_by h p t s u f below node (Enters m arguments) at put step = nothing_stored h p t s u (ap (λ (x : RegState). x.heap) step.after) (λ j. ap (λ (x : RegState). x.statics j) step.after)
changed_by h p t s u f below node (Leaves src) at put step = returned h p t s u f below (option_map f.regs src) step

stepped : (h : List ClassInfo) (p : RegProgram) (t : FactSets) (s u : RegState) (frames : List RegFrame) → Covers h p t s → IsGood h p t s → s.frames ≡ frames → StepFrom h p s frames u → LooksBack h p t s u
stepped h p t s u [] covers good is step = nothing_stored h p t s u (ap (λ (x : RegState). x.heap) step.begins.after) (λ j. ap (λ (x : RegState). x.statics j) step.begins.after)
stepped h p t s u (f ∷ below) covers good is step =
    let frame = (subst (AllByRecursion (IsFrame p t s.heap s.launched)) is good.frames).0 in
    let at : AtStore h p t s f below step.node = record {
      covers = covers;
      frames = is;
      stands = step.stands;
      reached = ap t.reached (node_within p t s.heap s.launched f step.node frame step.stands) ∙ frame.reached;
    } in
    changed_by h p t s u f below step.node step.change at (stored h p s f.regs step.node.stmt step.change step.effect) step.happens

pub step_looks : (h : List ClassInfo) (p : RegProgram) (t : FactSets) (s u : RegState) (e : Edge) → Covers h p t s → IsGood h p t s → StepFrom h p s s.frames u → Looks h p t s u e
step_looks h p t s u e covers good step = looks h p t s u e covers (stepped h p t s u s.frames covers good refl step)
