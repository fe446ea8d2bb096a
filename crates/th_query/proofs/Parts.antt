-- Queries whose facts are facts of a well-formed query, under new names, are well formed.
use Rattle.std.proofs.Common.{◌≡◌, ℕ, ◌≤◌, Bool, true, false, cond, List, [], ◌∷◌, length, map, Option, None, Some, refl, sym, ap, subst, ◌∙◌}
use Rattle.std.proofs.lemmas.Bool.{both_ways}
use Rattle.std.proofs.lemmas.List.{length-map}
use Rattle.th_base.specs.declared.class.ClassInfo.{ClassInfo}
use Rattle.th_base.specs.declared.number.FieldId.{FieldId}
use Rattle.th_base.specs.declared.number.NodeId.{NodeId}
use Rattle.th_base.specs.declared.number.Reg.{Reg}
use Rattle.th_linear.specs.Forms.{Form}
use Rattle.th_ir.specs.declared.program.RegProgram.{RegProgram}
use Rattle.th_ir.specs.Program.{Among, node_at, is_ref}
use Rattle.th_ir.specs.Fields.{is_ref_field}
use Rattle.th_ir.specs.FactSets.{FactSets}
use Rattle.th_ir.specs.Good.{Waits}
use Rattle.th_ir.specs.WellFormed.{Uses}
use Rattle.th_query.specs.declared.query.TheConstants.{MOST_FRAMES}
use Rattle.th_query.specs.declared.query.Cell.{Cell}
use Rattle.th_query.specs.declared.query.Element.{Element}
use Rattle.th_query.specs.declared.query.Frame.{Frame}
use Rattle.th_query.specs.declared.query.Sym.{Sym}
use Rattle.th_query.specs.declared.query.Sym.TheVariants.{Ref, Int, Carry}
use Rattle.th_query.specs.declared.query.Query.{Query}
use Rattle.th_query.specs.Symbols.{cell_link, element_link, is_named, symbol_at, is_ref_symbol, is_int_symbol, is_number_symbol}
use Rattle.th_query.specs.WellFormed.{IsRef, Fits, AreNested, IsStaticOf, IsCellOf, IsFactOf, IsSymbolOf, IsQueryOf}
use Rattle.th_query.proofs.InLists.{among_map, among_left, among_right}
use Rattle.th_query.proofs.Naming.{register_named, static_named, base_named, value_named}

-- ---- kinds

pub data Kind : Type 0 where
  NoKind : Kind
  RefKind : Kind
  IntKind : Kind
  CarryKind : Kind

abbrev pub kind_of : Option Sym → Kind
kind_of None = NoKind
kind_of (Some (Ref null sites)) = RefKind
kind_of (Some Int) = IntKind
kind_of (Some Carry) = CarryKind

abbrev pub is_ref_kind : Kind → Bool
is_ref_kind NoKind = false
is_ref_kind RefKind = true
is_ref_kind IntKind = false
is_ref_kind CarryKind = false

abbrev pub is_int_kind : Kind → Bool
is_int_kind NoKind = false
is_int_kind RefKind = false
is_int_kind IntKind = true
is_int_kind CarryKind = false

abbrev pub is_number_kind : Kind → Bool
is_number_kind NoKind = false
is_number_kind RefKind = false
is_number_kind IntKind = true
is_number_kind CarryKind = true

ref_kind : (o : Option Sym) → is_ref_symbol o ≡ is_ref_kind (kind_of o)
ref_kind None = refl
ref_kind (Some (Ref null sites)) = refl
ref_kind (Some Int) = refl
ref_kind (Some Carry) = refl

int_kind : (o : Option Sym) → is_int_symbol o ≡ is_int_kind (kind_of o)
int_kind None = refl
int_kind (Some (Ref null sites)) = refl
int_kind (Some Int) = refl
int_kind (Some Carry) = refl

number_kind : (o : Option Sym) → is_number_symbol o ≡ is_number_kind (kind_of o)
number_kind None = refl
number_kind (Some (Ref null sites)) = refl
number_kind (Some Int) = refl
number_kind (Some Carry) = refl

pub ref_by_kind : (o k : Option Sym) → kind_of o ≡ kind_of k → is_ref_symbol k ≡ true → is_ref_symbol o ≡ true
ref_by_kind o k e h = ref_kind o ∙ ap is_ref_kind e ∙ sym (ref_kind k) ∙ h

int_by_kind : (o k : Option Sym) → kind_of o ≡ kind_of k → is_int_symbol k ≡ true → is_int_symbol o ≡ true
int_by_kind o k e h = int_kind o ∙ ap is_int_kind e ∙ sym (int_kind k) ∙ h

pub number_by_kind : (o k : Option Sym) → kind_of o ≡ kind_of k → is_number_symbol k ≡ true → is_number_symbol o ≡ true
number_by_kind o k e h = number_kind o ∙ ap is_number_kind e ∙ sym (number_kind k) ∙ h

fits_by_kind : (ref : Bool) (o k : Option Sym) → kind_of o ≡ kind_of k → cond ref (is_ref_symbol k) (is_int_symbol k) ≡ true → cond ref (is_ref_symbol o) (is_int_symbol o) ≡ true
fits_by_kind true o k e h = ref_by_kind o k e h
fits_by_kind false o k e h = int_by_kind o k e h

ref_is : (o : Option Sym) → is_ref_symbol o ≡ true → kind_of o ≡ RefKind
ref_is None h = absurd (both_ways _ refl h)
ref_is (Some (Ref null sites)) h = refl
ref_is (Some Int) h = absurd (both_ways _ refl h)
ref_is (Some Carry) h = absurd (both_ways _ refl h)

int_is : (o : Option Sym) → is_int_symbol o ≡ true → kind_of o ≡ IntKind
int_is None h = absurd (both_ways _ refl h)
int_is (Some (Ref null sites)) h = absurd (both_ways _ refl h)
int_is (Some Int) h = refl
int_is (Some Carry) h = absurd (both_ways _ refl h)

-- two symbols that fit one place are of one kind
pub one_kind : (ref : Bool) (o k : Option Sym) → cond ref (is_ref_symbol o) (is_int_symbol o) ≡ true → cond ref (is_ref_symbol k) (is_int_symbol k) ≡ true → kind_of o ≡ kind_of k
one_kind true o k a b = ref_is o a ∙ sym (ref_is k b)
one_kind false o k a b = int_is o a ∙ sym (int_is k b)

-- ---- parts

abbrev pub node_of : Frame → NodeId
node_of f = f.node

-- each fact of r is one of q, with m s in the place of each symbol s
pub record IsPart (p : RegProgram) (m : ℕ → ℕ) (q r : Query) : Type 0 where
  pub nodes : map node_of r.frames ≡ map node_of q.frames
  pub frames : (f : Frame) → Among r.frames f → (g : Frame) × Among q.frames g × (f.node ≡ g.node) × ((x : Reg × ℕ) → Among f.regs x → (y : Reg × ℕ) × Among g.regs y × (x ≡ (y.0, m y.1)))
  pub statics : (x : FieldId × ℕ) → Among r.statics x → (y : FieldId × ℕ) × Among q.statics y × (x ≡ (y.0, m y.1))
  pub cells : (c : Cell) → Among r.cells c → (d : Cell) × Among q.cells d × (c ≡ record { base = m d.base; field = d.field; value = m d.value })
  pub elems : (e : Element) → Among r.elems e → (d : Element) × Among q.elems d × (e ≡ record { array = m d.array; value = m d.value })
  pub kinds : (s : ℕ) → is_named q s ≡ true → kind_of (symbol_at r (m s)) ≡ kind_of (symbol_at q s)
  pub diffs : (d : ℕ × ℕ) → Among r.diffs d → IsRef r d.0 × IsRef r d.1
  pub facts : (f : Form) → Among r.facts f → IsFactOf r f
  pub symbols : (s : ℕ) (x : Sym) → symbol_at r s ≡ Some x → IsSymbolOf p x

nested_same : (h : List ClassInfo) (p : RegProgram) (t : FactSets) (fs gs : List Frame) → map node_of fs ≡ map node_of gs → AreNested h p t gs → AreNested h p t fs
nested_same h p t [] gs e n = tt
nested_same h p t (f ∷ []) gs e n = tt
nested_same h p t (f ∷ g ∷ fs) [] e n = absurd cc
nested_same h p t (f ∷ g ∷ fs) (x ∷ []) e n = absurd cc
nested_same h p t (f ∷ g ∷ fs) (x ∷ y ∷ ys) e n =
    let first : f.node ≡ x.node = cc in
    let second : g.node ≡ y.node = cc in
    let rest : map node_of (g ∷ fs) ≡ map node_of (y ∷ ys) = cc in
    let w = n.0 in (
      record {
        node = w.node;
        stands = subst (λ (k : NodeId). node_at p k.0 ≡ Some w.node) (sym second) w.stands;
        callee = w.callee;
        within = subst (λ (k : NodeId). node_at p k.0 ≡ Some w.callee) (sym first) w.within;
        waits = subst (λ (k : NodeId). Waits h p t k.0 w.node.stmt w.callee.method.0) (sym second) w.waits;
      },
      nested_same h p t (g ∷ fs) (y ∷ ys) rest n.1,
    )

pub same_nodes : (F : Frame → Frame) → ((f : Frame) → (F f).node ≡ f.node) → (fs : List Frame) → map node_of (map F fs) ≡ map node_of fs
same_nodes F e [] = refl
same_nodes F e (f ∷ fs) = λ i. e f i ∷ same_nodes F e fs i

cell_base_named : (q : Query) (d : Cell) → Among q.cells d → is_named q d.base ≡ true
cell_base_named q d a = base_named q (cell_link d) (among_left (cell_link d) _ _ (among_map cell_link d q.cells a))

cell_value_named : (q : Query) (d : Cell) → Among q.cells d → is_named q d.value ≡ true
cell_value_named q d a = value_named q (cell_link d) (among_left (cell_link d) _ _ (among_map cell_link d q.cells a))

array_named : (q : Query) (d : Element) → Among q.elems d → is_named q d.array ≡ true
array_named q d a = base_named q (element_link d) (among_right (element_link d) _ _ (among_map element_link d q.elems a))

element_named : (q : Query) (d : Element) → Among q.elems d → is_named q d.value ≡ true
element_named q d a = value_named q (element_link d) (among_right (element_link d) _ _ (among_map element_link d q.elems a))

pub formed_part : (h : List ClassInfo) (p : RegProgram) (t : FactSets) (m : ℕ → ℕ) (q r : Query) → IsQueryOf h p t q → IsPart p m q r → IsQueryOf h p t r
formed_part h p t m q r w k = record {
  few = let e : length r.frames ≡ length q.frames = sym (length-map r.frames node_of) ∙ ap length k.nodes ∙ length-map q.frames node_of in subst (λ n. n ≤ MOST_FRAMES) (sym e) w.few;
  frames = λ f a.
      let g = k.frames f a in
      let old = w.frames g.0 g.1 in
      record {
        node = old.node;
        stands = subst (λ (n : NodeId). node_at p n.0 ≡ Some old.node) (sym g.2) old.stands;
        own = λ x b. let y = g.3 x b in subst (λ (z : Reg × ℕ). Uses p old.node.method.0 z.0.0) (sym y.2) (old.own y.0 y.1);
        kinds = λ x b.
            let y = g.3 x b in
            subst (λ (z : Reg × ℕ). Fits r (is_ref p z.0.0) z.1) (sym y.2)
            (fits_by_kind (is_ref p y.0.0.0) (symbol_at r (m y.0.1)) (symbol_at q y.0.1) (k.kinds y.0.1 (register_named q g.0 y.0 g.1 y.1)) (old.kinds y.0 y.1));
      };
  nested = nested_same h p t r.frames q.frames k.nodes w.nested;
  statics = λ x a.
      let y = k.statics x a in
      let old = w.statics y.0 y.1 in
      subst (IsStaticOf h r) (sym y.2)
      record { static = old.static; kind = fits_by_kind (is_ref_field h y.0.0.0) (symbol_at r (m y.0.1)) (symbol_at q y.0.1) (k.kinds y.0.1 (static_named q y.0 y.1)) old.kind };
  cells = λ c a.
      let d = k.cells c a in
      let old = w.cells d.0 d.1 in
      subst (IsCellOf h r) (sym d.2)
      record {
        field = old.field;
        base = ref_by_kind (symbol_at r (m d.0.base)) (symbol_at q d.0.base) (k.kinds d.0.base (cell_base_named q d.0 d.1)) old.base;
        kind = fits_by_kind (is_ref_field h d.0.field.0) (symbol_at r (m d.0.value)) (symbol_at q d.0.value) (k.kinds d.0.value (cell_value_named q d.0 d.1)) old.kind;
      };
  arrays = λ e a. let d = k.elems e a in subst (λ (z : Element). IsRef r z.array) (sym d.2) (ref_by_kind (symbol_at r (m d.0.array)) (symbol_at q d.0.array) (k.kinds d.0.array (array_named q d.0 d.1)) (w.arrays d.0 d.1));
  elements = λ e a. let d = k.elems e a in subst (λ (z : Element). IsRef r z.value) (sym d.2) (ref_by_kind (symbol_at r (m d.0.value)) (symbol_at q d.0.value) (k.kinds d.0.value (element_named q d.0 d.1)) (w.elements d.0 d.1));
  diffs = k.diffs;
  facts = k.facts;
  symbols = k.symbols;
}
