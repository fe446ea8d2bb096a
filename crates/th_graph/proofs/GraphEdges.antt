-- The edges that are made of facts are those of the heap graph, in order.
use Rattle.std.proofs.Common.{◌≡◌, inl, inr, ℕ, zero, suc, ◌≤◌, ◌==◌, true, false, List, [], ◌∷◌, ◌++◌, length, Option, None, Some, slice_get, refl, ap, subst, arith}
use Rattle.std.specs.Prelude.{◌&&◌}
use Rattle.std.specs.List.{flat_map, list_any}
use Rattle.std.specs.Option.{option_map_or}
use Rattle.std.proofs.lemmas.Bool.{eqb-true, eq-eqb}
use Rattle.th_base.specs.declared.class.ClassInfo.{ClassInfo}
use Rattle.th_base.specs.declared.number.FieldId.{FieldId}
use Rattle.th_base.specs.declared.number.SiteId.{SiteId}
use Rattle.th_base.specs.IdSet.{has, IsAscending}
use Rattle.th_ir.specs.declared.facts.Facts.{Facts}
use Rattle.th_ir.specs.declared.graph.Edge.{Edge}
use Rattle.th_ir.specs.declared.graph.Edge.TheVariants.{Static, Field, Element}
use Rattle.th_ir.specs.declared.program.RegProgram.{RegProgram}
use Rattle.th_ir.specs.FactSets.{set_at, sets_of, AscendBy, IsListedSet, cell_key, elem_key, AreListed}
use Rattle.th_ir.specs.Graph.{HasEdge, edge_key, IsGraph}
use Rattle.th_ir.specs.Program.{Among}
use Rattle.th_ir.proofs.Plain.{and_parts, and_both, all_at}
use Rattle.th_graph.specs.Graphs.{AreFieldsNumbered}
use Rattle.th_graph.specs.Tables.{file_statics_from, site_id, edges_of_static, edges_of_cell, edges_of_elem, static_edges_at, static_edges, edges_of}
use Rattle.th_graph.proofs.FileStatics.{numbers_of, statics_are, statics_ascend}
use Rattle.th_graph.proofs.Orders.{IsBelow, below_first, below_next, below_longer, among_either, among_left, among_right, among_mapped, mapped_among, among_flat, flat_among, has_among, among_has, any_among, among_any, ascend_none, ascend_append, ascend_flat, ascend_numbers, ascend_by_number}

field_id : ℕ → FieldId
field_id n = record { 0 = n }

site_of : ℕ → SiteId
site_of n = record { 0 = n }

-- ---- edges of static fields

record IsStaticEdge (statics : List (List ℕ)) (fields : List FieldId) (e : Edge) : Type 0 where
  field : FieldId
  site : SiteId
  is : Static field site ≡ e
  listed : has (numbers_of fields) field.0 ≡ true
  held : set_at statics field.0 site.0 ≡ true

at_static : (statics : List (List ℕ)) (f : FieldId) (e : Edge) → Among (static_edges_at statics f) e → (x : ℕ) × (Static f (site_id x) ≡ e) × (set_at statics f.0 x ≡ true)
at_static statics f e a = by_set (slice_get statics f.0) a
  where
    by_set : (o : Option (List ℕ)) → Among (option_map_or (edges_of_static f) o []) e → (x : ℕ) × (Static f (site_id x) ≡ e) × (option_map_or (λ xs. has xs x) o false ≡ true)
    by_set None b = let is = b.1 in absurd cc
    by_set (Some xs) b = let m = among_mapped (λ x. Static f (site_id x)) xs e b in (m.0, m.2, among_has xs m.0 m.1)

static_at : (statics : List (List ℕ)) (f : FieldId) (x : SiteId) → set_at statics f.0 x.0 ≡ true → Among (static_edges_at statics f) (Static f x)
static_at statics f x e = by_set (slice_get statics f.0) e
  where
    by_set : (o : Option (List ℕ)) → option_map_or (λ xs. has xs x.0) o false ≡ true → Among (option_map_or (edges_of_static f) o []) (Static f x)
    by_set None b = absurd cc
    by_set (Some xs) b = mapped_among (λ y. Static f (site_id y)) xs x.0 (has_among xs x.0 b)

get_past : {A : Type 0} (xs : List A) (k : ℕ) → length xs ≤ k → slice_get xs k ≡ None
get_past [] k past = refl
get_past (x ∷ xs) zero past = absurd (omega arith)
get_past (x ∷ xs) (suc k) past = get_past xs k (omega arith)

-- a static field past the list of sets has no edge
pub nothing_past : (statics : List (List ℕ)) (f : FieldId) → length statics ≤ f.0 → static_edges_at statics f ≡ []
nothing_past statics f past = ap (λ o. option_map_or (edges_of_static f) o []) (get_past statics f.0 past)

static_edge : (statics : List (List ℕ)) (fields : List FieldId) (e : Edge) → Among (static_edges statics fields) e → IsStaticEdge statics fields e
static_edge statics fields e a =
    let m = among_flat (static_edges_at statics) fields e a in
    let s = at_static statics m.0 e m.2 in
    record { field = m.0; site = site_id s.0; is = s.1; listed = among_has (numbers_of fields) m.0.0 (mapped_among (λ f. f.0) fields m.0 m.1); held = s.2 }

edge_static : (statics : List (List ℕ)) (fields : List FieldId) (f : FieldId) (x : SiteId) → has (numbers_of fields) f.0 ≡ true → set_at statics f.0 x.0 ≡ true → Among (static_edges statics fields) (Static f x)
unfolding field_id
edge_static statics fields f x listed held =
    let m = among_mapped (λ g. g.0) fields f.0 (has_among (numbers_of fields) f.0 listed) in
    flat_among (static_edges_at statics) fields f (Static f x) (subst (Among fields) (ap field_id m.2) m.1) (static_at statics f x held)

-- ---- edges of fields and elements

record IsCellEdge (cells : List (SiteId × FieldId × List ℕ)) (e : Edge) : Type 0 where
  cell : SiteId × FieldId × List ℕ
  among : Among cells cell
  site : ℕ
  is : Field cell.0 cell.1 (site_id site) ≡ e
  held : has cell.2 site ≡ true

cell_edge : (cells : List (SiteId × FieldId × List ℕ)) (e : Edge) → Among (flat_map edges_of_cell cells) e → IsCellEdge cells e
cell_edge cells e a =
    let m = among_flat edges_of_cell cells e a in
    let s = among_mapped (λ y. Field m.0.0 m.0.1 (site_id y)) m.0.2 e m.2 in
    record { cell = m.0; among = m.1; site = s.0; is = s.2; held = among_has m.0.2 s.0 s.1 }

record IsElemEdge (elems : List (SiteId × List ℕ)) (e : Edge) : Type 0 where
  elem : SiteId × List ℕ
  among : Among elems elem
  site : ℕ
  is : Element elem.0 (site_id site) ≡ e
  held : has elem.1 site ≡ true

elem_edge : (elems : List (SiteId × List ℕ)) (e : Edge) → Among (flat_map edges_of_elem elems) e → IsElemEdge elems e
elem_edge elems e a =
    let m = among_flat edges_of_elem elems e a in
    let s = among_mapped (λ y. Element m.0.0 (site_id y)) m.0.1 e m.2 in
    record { elem = m.0; among = m.1; site = s.0; is = s.2; held = among_has m.0.1 s.0 s.1 }

edge_cell : (cells : List (SiteId × FieldId × List ℕ)) (x : SiteId) (f : FieldId) (y : SiteId) → list_any (λ c. (c.0.0 == x.0 && c.1.0 == f.0) && has c.2 y.0) cells ≡ true → Among (flat_map edges_of_cell cells) (Field x f y)
unfolding field_id site_of
edge_cell cells x f y e =
    let m = any_among (λ (c : SiteId × FieldId × List ℕ). (c.0.0 == x.0 && c.1.0 == f.0) && has c.2 y.0) cells e in
    let c : SiteId × FieldId × List ℕ = m.0 in
    let parts = and_parts (c.0.0 == x.0 && c.1.0 == f.0) (has c.2 y.0) m.2 in
    let key = and_parts (c.0.0 == x.0) (c.1.0 == f.0) parts.0 in
    let made : Among (edges_of_cell c) (Field c.0 c.1 y) = mapped_among (λ z. Field c.0 c.1 (site_id z)) c.2 y.0 (has_among c.2 y.0 parts.1) in
    flat_among edges_of_cell cells c (Field x f y) m.1
    (subst (λ z. Among (edges_of_cell c) (Field x z y)) (ap field_id (eqb-true c.1.0 f.0 key.1)) (subst (λ z. Among (edges_of_cell c) (Field z c.1 y)) (ap site_of (eqb-true c.0.0 x.0 key.0)) made))

edge_elem : (elems : List (SiteId × List ℕ)) (x y : SiteId) → list_any (λ c. c.0.0 == x.0 && has c.1 y.0) elems ≡ true → Among (flat_map edges_of_elem elems) (Element x y)
unfolding site_of
edge_elem elems x y e =
    let m = any_among (λ (c : SiteId × List ℕ). c.0.0 == x.0 && has c.1 y.0) elems e in
    let c : SiteId × List ℕ = m.0 in
    let parts = and_parts (c.0.0 == x.0) (has c.1 y.0) m.2 in
    let made : Among (edges_of_elem c) (Element c.0 y) = mapped_among (λ z. Element c.0 (site_id z)) c.1 y.0 (has_among c.1 y.0 parts.1) in
    flat_among edges_of_elem elems c (Element x y) m.1 (subst (λ z. Among (edges_of_elem c) (Element z y)) (ap site_of (eqb-true c.0.0 x.0 parts.0)) made)

-- ---- which edges there are

abbrev cells_of : Facts → List Edge
cells_of facts = flat_map edges_of_cell facts.cells

abbrev elems_of : Facts → List Edge
elems_of facts = flat_map edges_of_elem facts.elems

abbrev statics_of : List ClassInfo → Facts → List Edge
statics_of h facts = static_edges facts.statics (file_statics_from 0 h)

from_static : (h : List ClassInfo) (facts : Facts) (e : Edge) → AreFieldsNumbered h → Among (statics_of h facts) e → HasEdge h (sets_of facts) e
from_static h facts e all a =
    let s = static_edge facts.statics (file_statics_from 0 h) e a in
    subst (HasEdge h (sets_of facts)) s.is ((statics_are h s.field.0 all).0 s.listed, s.held)

from_cell : (h : List ClassInfo) (facts : Facts) (e : Edge) → Among (cells_of facts) e → HasEdge h (sets_of facts) e
from_cell h facts e a =
    let s = cell_edge facts.cells e a in
    let c : SiteId × FieldId × List ℕ = s.cell in
    subst (HasEdge h (sets_of facts)) s.is
    (among_any (λ (d : SiteId × FieldId × List ℕ). (d.0.0 == c.0.0 && d.1.0 == c.1.0) && has d.2 s.site) facts.cells c s.among
    (and_both (c.0.0 == c.0.0 && c.1.0 == c.1.0) (has c.2 s.site) (and_both (c.0.0 == c.0.0) (c.1.0 == c.1.0) (eq-eqb c.0.0 c.0.0 refl) (eq-eqb c.1.0 c.1.0 refl)) s.held))

from_elem : (h : List ClassInfo) (facts : Facts) (e : Edge) → Among (elems_of facts) e → HasEdge h (sets_of facts) e
from_elem h facts e a =
    let s = elem_edge facts.elems e a in
    let c : SiteId × List ℕ = s.elem in
    subst (HasEdge h (sets_of facts)) s.is
    (among_any (λ (d : SiteId × List ℕ). d.0.0 == c.0.0 && has d.1 s.site) facts.elems c s.among (and_both (c.0.0 == c.0.0) (has c.1 s.site) (eq-eqb c.0.0 c.0.0 refl) s.held))

made_had : (h : List ClassInfo) (facts : Facts) (e : Edge) → AreFieldsNumbered h → Among (edges_of h facts) e → HasEdge h (sets_of facts) e
made_had h facts e all a = elim (among_either (statics_of h facts) (cells_of facts ++ elems_of facts) e a) [
  | inl static ↦ from_static h facts e all static
  | inr other ↦ elim (among_either (cells_of facts) (elems_of facts) e other) [ inl cell ↦ from_cell h facts e cell | inr elem ↦ from_elem h facts e elem ]
]

had_made : (h : List ClassInfo) (facts : Facts) (e : Edge) → AreFieldsNumbered h → HasEdge h (sets_of facts) e → Among (edges_of h facts) e
had_made h facts (Static f x) all is =
    among_left (statics_of h facts) (cells_of facts ++ elems_of facts) (Static f x) (edge_static facts.statics (file_statics_from 0 h) f x ((statics_are h f.0 all).1 is.0) is.1)
had_made h facts (Field x f y) all is =
    among_right (statics_of h facts) (cells_of facts ++ elems_of facts) (Field x f y) (among_left (cells_of facts) (elems_of facts) (Field x f y) (edge_cell facts.cells x f y is))
had_made h facts (Element x y) all is =
    among_right (statics_of h facts) (cells_of facts ++ elems_of facts) (Element x y) (among_right (cells_of facts) (elems_of facts) (Element x y) (edge_elem facts.elems x y is))

-- ---- their order

set_ascends : (xs : List ℕ) → IsListedSet xs → IsAscending xs
set_ascends [] is = absurd is
set_ascends (x ∷ xs) is = is

statics_order : (h : List ClassInfo) (p : RegProgram) (facts : Facts) → AreFieldsNumbered h → AreListed h p facts → AscendBy edge_key (statics_of h facts)
statics_order h p facts all listed =
    ascend_flat (λ (f : FieldId). f.0 ∷ []) edge_key (static_edges_at facts.statics) (file_statics_from 0 h) (ascend_by_number (λ (f : FieldId). f.0) (file_statics_from 0 h) (statics_ascend h all))
    (λ f a. by_set f (slice_get facts.statics f.0) refl)
    (λ f g e d less in_f in_g.
    let s = at_static facts.statics f e in_f in
    let r = at_static facts.statics g d in_g in
    subst (λ z. IsBelow (edge_key z) (edge_key d)) s.1 (subst (λ z. IsBelow (edge_key (Static f (site_id s.0))) (edge_key z)) r.1
    (below_next 0 (f.0 ∷ s.0 ∷ []) (g.0 ∷ r.0 ∷ []) (below_longer (f.0 ∷ []) (g.0 ∷ []) (s.0 ∷ []) (r.0 ∷ []) refl less))))
  where
    by_set : (f : FieldId) (o : Option (List ℕ)) → slice_get facts.statics f.0 ≡ o → AscendBy edge_key (option_map_or (edges_of_static f) o [])
    by_set f None is = ascend_none edge_key
    by_set f (Some xs) is =
        ascend_numbers edge_key (λ x. Static f (site_id x)) xs (all_at IsAscending facts.statics f.0 xs listed.statics_ascend is)
        (λ m n less. below_next 0 (f.0 ∷ m ∷ []) (f.0 ∷ n ∷ []) (below_next f.0 (m ∷ []) (n ∷ []) (below_first m n [] [] less)))

cells_order : (h : List ClassInfo) (p : RegProgram) (facts : Facts) → AreListed h p facts → AscendBy edge_key (cells_of facts)
cells_order h p facts listed =
    ascend_flat cell_key edge_key edges_of_cell facts.cells listed.cells_ascend
    (λ c a.
    ascend_numbers edge_key (λ y. Field c.0 c.1 (site_id y)) c.2 (set_ascends c.2 (all_at (λ (d : SiteId × FieldId × List ℕ). IsListedSet d.2) facts.cells a.0 c listed.cells a.1))
    (λ m n less. below_next 1 (c.0.0 ∷ c.1.0 ∷ m ∷ []) (c.0.0 ∷ c.1.0 ∷ n ∷ []) (below_next c.0.0 (c.1.0 ∷ m ∷ []) (c.1.0 ∷ n ∷ []) (below_next c.1.0 (m ∷ []) (n ∷ []) (below_first m n [] [] less)))))
    (λ c d e b less in_c in_d.
    let s = among_mapped (λ y. Field c.0 c.1 (site_id y)) c.2 e in_c in
    let r = among_mapped (λ y. Field d.0 d.1 (site_id y)) d.2 b in_d in
    subst (λ z. IsBelow (edge_key z) (edge_key b)) s.2 (subst (λ z. IsBelow (edge_key (Field c.0 c.1 (site_id s.0))) (edge_key z)) r.2
    (below_next 1 (c.0.0 ∷ c.1.0 ∷ s.0 ∷ []) (d.0.0 ∷ d.1.0 ∷ r.0 ∷ []) (below_longer (c.0.0 ∷ c.1.0 ∷ []) (d.0.0 ∷ d.1.0 ∷ []) (s.0 ∷ []) (r.0 ∷ []) refl less))))

elems_order : (h : List ClassInfo) (p : RegProgram) (facts : Facts) → AreListed h p facts → AscendBy edge_key (elems_of facts)
elems_order h p facts listed =
    ascend_flat elem_key edge_key edges_of_elem facts.elems listed.elems_ascend
    (λ c a.
    ascend_numbers edge_key (λ y. Element c.0 (site_id y)) c.1 (set_ascends c.1 (all_at (λ (d : SiteId × List ℕ). IsListedSet d.1) facts.elems a.0 c listed.elems a.1))
    (λ m n less. below_next 2 (c.0.0 ∷ m ∷ []) (c.0.0 ∷ n ∷ []) (below_next c.0.0 (m ∷ []) (n ∷ []) (below_first m n [] [] less))))
    (λ c d e b less in_c in_d.
    let s = among_mapped (λ y. Element c.0 (site_id y)) c.1 e in_c in
    let r = among_mapped (λ y. Element d.0 (site_id y)) d.1 b in_d in
    subst (λ z. IsBelow (edge_key z) (edge_key b)) s.2 (subst (λ z. IsBelow (edge_key (Element c.0 (site_id s.0))) (edge_key z)) r.2
    (below_next 2 (c.0.0 ∷ s.0 ∷ []) (d.0.0 ∷ r.0 ∷ []) (below_longer (c.0.0 ∷ []) (d.0.0 ∷ []) (s.0 ∷ []) (r.0 ∷ []) refl less))))

cell_before_elem : (facts : Facts) (e d : Edge) → Among (cells_of facts) e → Among (elems_of facts) d → IsBelow (edge_key e) (edge_key d)
cell_before_elem facts e d in_cells in_elems =
    let s = cell_edge facts.cells e in_cells in
    let r = elem_edge facts.elems d in_elems in
    subst (λ z. IsBelow (edge_key z) (edge_key d)) s.is (subst (λ z. IsBelow (edge_key (Field s.cell.0 s.cell.1 (site_id s.site))) (edge_key z)) r.is
    (below_first 1 2 (s.cell.0.0 ∷ s.cell.1.0 ∷ s.site ∷ []) (r.elem.0.0 ∷ r.site ∷ []) (omega arith)))

static_before : (h : List ClassInfo) (facts : Facts) (e d : Edge) → Among (statics_of h facts) e → Among (cells_of facts ++ elems_of facts) d → IsBelow (edge_key e) (edge_key d)
static_before h facts e d in_statics in_rest =
    let s = static_edge facts.statics (file_statics_from 0 h) e in_statics in
    subst (λ z. IsBelow (edge_key z) (edge_key d)) s.is (elim (among_either (cells_of facts) (elems_of facts) d in_rest) [
      | inl cell ↦ (let r = cell_edge facts.cells d cell in subst (λ z. IsBelow (edge_key (Static s.field s.site)) (edge_key z)) r.is
          (below_first 0 1 (s.field.0 ∷ s.site.0 ∷ []) (r.cell.0.0 ∷ r.cell.1.0 ∷ r.site ∷ []) (omega arith)))
      | inr elem ↦ (let r = elem_edge facts.elems d elem in subst (λ z. IsBelow (edge_key (Static s.field s.site)) (edge_key z)) r.is
          (below_first 0 2 (s.field.0 ∷ s.site.0 ∷ []) (r.elem.0.0 ∷ r.site ∷ []) (omega arith)))
    ])

pub made_graph : (h : List ClassInfo) (p : RegProgram) (facts : Facts) → AreFieldsNumbered h → AreListed h p facts → IsGraph h (sets_of facts) (edges_of h facts)
made_graph h p facts all listed = record {
  edges_are = λ e. (made_had h facts e all, had_made h facts e all);
  ascend =
      ascend_append edge_key (statics_of h facts) (cells_of facts ++ elems_of facts) (statics_order h p facts all listed)
      (ascend_append edge_key (cells_of facts) (elems_of facts) (cells_order h p facts listed) (elems_order h p facts listed) (λ e d. cell_before_elem facts e d))
      (λ e d. static_before h facts e d);
}
