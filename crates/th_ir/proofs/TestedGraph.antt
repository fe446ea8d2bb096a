-- Tests that compute, for heap graphs, alarms and producers of listed facts.
use Rattle.std.proofs.Common.{◌≡◌, ℕ, zero, suc, ◌+◌, ◌==◌, ◌↔◌, Bool, true, false, List, [], ◌∷◌, Option, None, Some, slice_get, map, refl, sym, ap, subst, ◌∙◌}
use Rattle.std.specs.Prelude.{◌&&◌, ◌||◌, not}
use Rattle.std.specs.List.{list_all, list_any}
use Rattle.std.specs.Option.{option_map_or}
use Rattle.std.proofs.lemmas.Bool.{eqb-true, eq-eqb}
use Rattle.th_base.specs.declared.class.ClassInfo.{ClassInfo}
use Rattle.th_base.specs.declared.number.FieldId.{FieldId}
use Rattle.th_base.specs.declared.number.NodeId.{NodeId}
use Rattle.th_base.specs.declared.number.SiteId.{SiteId}
use Rattle.th_base.specs.IdSet.{has}
use Rattle.th_ir.specs.declared.facts.Facts.{Facts}
use Rattle.th_ir.specs.declared.graph.Edge.{Edge}
use Rattle.th_ir.specs.declared.graph.Edge.TheVariants.{Static, Field, Element}
use Rattle.th_ir.specs.Program.{Among}
use Rattle.th_ir.specs.Fields.{is_file_static}
use Rattle.th_ir.specs.FactSets.{FactSets, sets_of, set_at}
use Rattle.th_ir.specs.Graph.{HasEdge, edge_key, IsGraph}
use Rattle.th_ir.proofs.Plain.{some_is}
use Rattle.th_ir.proofs.TestedStatements.{both_hold, all_from, all_tested, at_member}
use Rattle.th_ir.proofs.TestedFacts.{listed_within, order_test, in_order}

-- ---- edges

abbrev pub same_edge : Edge → Edge → Bool
same_edge (Static f x) (Static g y) = f.0 == g.0 && x.0 == y.0
same_edge (Static f x) (Field a g y) = false
same_edge (Static f x) (Element a y) = false
same_edge (Field b f x) (Static g y) = false
same_edge (Field b f x) (Field a g y) = b.0 == a.0 && (f.0 == g.0 && x.0 == y.0)
same_edge (Field b f x) (Element a y) = false
same_edge (Element b x) (Static g y) = false
same_edge (Element b x) (Field a g y) = false
same_edge (Element b x) (Element a y) = b.0 == a.0 && x.0 == y.0

field_same : (f g : FieldId) → (f.0 == g.0) ≡ true → f ≡ g
field_same f g e = let make : ℕ → FieldId = λ n. record { 0 = n } in ap make (eqb-true f.0 g.0 e)

site_same : (s k : SiteId) → (s.0 == k.0) ≡ true → s ≡ k
site_same s k e = let make : ℕ → SiteId = λ n. record { 0 = n } in ap make (eqb-true s.0 k.0 e)

edge_same : (a b : Edge) → same_edge a b ≡ true → a ≡ b
edge_same (Static f x) (Static g y) e =
    let parts = both_hold (f.0 == g.0) (x.0 == y.0) e in ap (λ (z : FieldId). Static z x) (field_same f g parts.0) ∙ ap (λ (z : SiteId). Static g z) (site_same x y parts.1)
edge_same (Static f x) (Field a g y) e = absurd cc
edge_same (Static f x) (Element a y) e = absurd cc
edge_same (Field b f x) (Static g y) e = absurd cc
edge_same (Field b f x) (Field a g y) e =
    let parts = both_hold (b.0 == a.0) (f.0 == g.0 && x.0 == y.0) e in let more = both_hold (f.0 == g.0) (x.0 == y.0) parts.1 in
    ap (λ (z : SiteId). Field z f x) (site_same b a parts.0) ∙ ap (λ (z : FieldId). Field a z x) (field_same f g more.0) ∙ ap (λ (z : SiteId). Field a g z) (site_same x y more.1)
edge_same (Field b f x) (Element a y) e = absurd cc
edge_same (Element b x) (Static g y) e = absurd cc
edge_same (Element b x) (Field a g y) e = absurd cc
edge_same (Element b x) (Element a y) e =
    let parts = both_hold (b.0 == a.0) (x.0 == y.0) e in ap (λ (z : SiteId). Element z x) (site_same b a parts.0) ∙ ap (λ (z : SiteId). Element a z) (site_same x y parts.1)

abbrev pub edge_listed : List Edge → Edge → Bool
edge_listed edges e = list_any (λ x. same_edge x e) edges

listed_among : (edges : List Edge) (e : Edge) → edge_listed edges e ≡ true → Among edges e
listed_among [] e is = absurd cc
listed_among (x ∷ edges) e is = this_or (same_edge x e) refl is (listed_among edges e)
  where
    this_or : (b : Bool) → same_edge x e ≡ b → (b || edge_listed edges e) ≡ true → (edge_listed edges e ≡ true → Among edges e) → Among (x ∷ edges) e
    this_or true same is more = (0, ap Some (edge_same x e same))
    this_or false same is more = let found = more is in (suc found.0, found.1)

-- each fact that is listed is a listed edge
cells_within : (test : ℕ → ℕ → ℕ → Bool) (s f x : ℕ) (cells : List (SiteId × FieldId × List ℕ)) → list_all (λ (c : SiteId × FieldId × List ℕ). list_all (test c.0.0 c.1.0) c.2) cells ≡ true
    → list_any (λ (c : SiteId × FieldId × List ℕ). (c.0.0 == s && c.1.0 == f) && has c.2 x) cells ≡ true → test s f x ≡ true
cells_within test s f x [] all e = absurd cc
cells_within test s f x (c ∷ cells) all e =
    let parts = both_hold (list_all (test c.0.0 c.1.0) c.2) (list_all (λ (k : SiteId × FieldId × List ℕ). list_all (test k.0.0 k.1.0) k.2) cells) all in
    this_or (c.0.0 == s) (c.1.0 == f) (has c.2 x) refl refl refl parts.0 e (cells_within test s f x cells parts.1)
  where
    this_or : (a b d : Bool) → (c.0.0 == s) ≡ a → (c.1.0 == f) ≡ b → has c.2 x ≡ d → list_all (test c.0.0 c.1.0) c.2 ≡ true
        → (((a && b) && d) || list_any (λ (k : SiteId × FieldId × List ℕ). (k.0.0 == s && k.1.0 == f) && has k.2 x) cells) ≡ true
        → (list_any (λ (k : SiteId × FieldId × List ℕ). (k.0.0 == s && k.1.0 == f) && has k.2 x) cells ≡ true → test s f x ≡ true) → test s f x ≡ true
    this_or true true true first second third here e more =
        subst (λ (n : ℕ). test n f x ≡ true) (eqb-true c.0.0 s first)
        (subst (λ (n : ℕ). test c.0.0 n x ≡ true) (eqb-true c.1.0 f second) (at_member (test c.0.0 c.1.0) c.2 x here third))
    this_or true true false first second third here e more = more e
    this_or true false d first second third here e more = more e
    this_or false b d first second third here e more = more e

elems_within : (test : ℕ → ℕ → Bool) (s x : ℕ) (elems : List (SiteId × List ℕ)) → list_all (λ (c : SiteId × List ℕ). list_all (test c.0.0) c.1) elems ≡ true
    → list_any (λ (c : SiteId × List ℕ). c.0.0 == s && has c.1 x) elems ≡ true → test s x ≡ true
elems_within test s x [] all e = absurd cc
elems_within test s x (c ∷ elems) all e =
    let parts = both_hold (list_all (test c.0.0) c.1) (list_all (λ (k : SiteId × List ℕ). list_all (test k.0.0) k.1) elems) all in
    this_or (c.0.0 == s) (has c.1 x) refl refl parts.0 e (elems_within test s x elems parts.1)
  where
    this_or : (a d : Bool) → (c.0.0 == s) ≡ a → has c.1 x ≡ d → list_all (test c.0.0) c.1 ≡ true
        → ((a && d) || list_any (λ (k : SiteId × List ℕ). k.0.0 == s && has k.1 x) elems) ≡ true
        → (list_any (λ (k : SiteId × List ℕ). k.0.0 == s && has k.1 x) elems ≡ true → test s x ≡ true) → test s x ≡ true
    this_or true true first third here e more = subst (λ (n : ℕ). test n x ≡ true) (eqb-true c.0.0 s first) (at_member (test c.0.0) c.1 x here third)
    this_or true false first third here e more = more e
    this_or false d first third here e more = more e

abbrev pub static_listed : List Edge → ℕ → ℕ → Bool
static_listed edges f x = edge_listed edges (Static record { 0 = f } record { 0 = x })

abbrev pub field_listed : List Edge → ℕ → ℕ → ℕ → Bool
field_listed edges s f x = edge_listed edges (Field record { 0 = s } record { 0 = f } record { 0 = x })

abbrev pub elem_listed : List Edge → ℕ → ℕ → Bool
elem_listed edges s x = edge_listed edges (Element record { 0 = s } record { 0 = x })

-- the facts have the edge
abbrev pub edge_test : List ClassInfo → Facts → Edge → Bool
edge_test h facts (Static f x) = is_file_static h f.0 && (sets_of facts).static f.0 x.0
edge_test h facts (Field x f y) = (sets_of facts).cell x.0 f.0 y.0
edge_test h facts (Element x y) = (sets_of facts).elem x.0 y.0

has_edge : (h : List ClassInfo) (facts : Facts) (e : Edge) → edge_test h facts e ≡ true → HasEdge h (sets_of facts) e
has_edge h facts (Static f x) is = both_hold (is_file_static h f.0) ((sets_of facts).static f.0 x.0) is
has_edge h facts (Field x f y) is = is
has_edge h facts (Element x y) is = is

abbrev pub facts_listed : Facts → List Edge → Bool
facts_listed facts edges =
    all_from (λ f xs. list_all (static_listed edges f) xs) 0 facts.statics
    && (list_all (λ (c : SiteId × FieldId × List ℕ). list_all (field_listed edges c.0.0 c.1.0) c.2) facts.cells
    && list_all (λ (c : SiteId × List ℕ). list_all (elem_listed edges c.0.0) c.1) facts.elems)

edge_is_listed : (h : List ClassInfo) (facts : Facts) (edges : List Edge) → facts_listed facts edges ≡ true → (e : Edge) → HasEdge h (sets_of facts) e → edge_listed edges e ≡ true
edge_is_listed h facts edges all (Static f x) has =
    let parts = both_hold (all_from (λ f xs. list_all (static_listed edges f) xs) 0 facts.statics) (list_all (λ (c : SiteId × FieldId × List ℕ). list_all (field_listed edges c.0.0 c.1.0) c.2) facts.cells && list_all (λ (c : SiteId × List ℕ). list_all (elem_listed edges c.0.0) c.1) facts.elems) all in
    listed_within (static_listed edges) facts.statics parts.0 f.0 x.0 has.1
edge_is_listed h facts edges all (Field x f y) has =
    let parts = both_hold (all_from (λ f xs. list_all (static_listed edges f) xs) 0 facts.statics) (list_all (λ (c : SiteId × FieldId × List ℕ). list_all (field_listed edges c.0.0 c.1.0) c.2) facts.cells && list_all (λ (c : SiteId × List ℕ). list_all (elem_listed edges c.0.0) c.1) facts.elems) all in
    let more = both_hold (list_all (λ (c : SiteId × FieldId × List ℕ). list_all (field_listed edges c.0.0 c.1.0) c.2) facts.cells) (list_all (λ (c : SiteId × List ℕ). list_all (elem_listed edges c.0.0) c.1) facts.elems) parts.1 in
    cells_within (field_listed edges) x.0 f.0 y.0 facts.cells more.0 has
edge_is_listed h facts edges all (Element x y) has =
    let parts = both_hold (all_from (λ f xs. list_all (static_listed edges f) xs) 0 facts.statics) (list_all (λ (c : SiteId × FieldId × List ℕ). list_all (field_listed edges c.0.0 c.1.0) c.2) facts.cells && list_all (λ (c : SiteId × List ℕ). list_all (elem_listed edges c.0.0) c.1) facts.elems) all in
    let more = both_hold (list_all (λ (c : SiteId × FieldId × List ℕ). list_all (field_listed edges c.0.0 c.1.0) c.2) facts.cells) (list_all (λ (c : SiteId × List ℕ). list_all (elem_listed edges c.0.0) c.1) facts.elems) parts.1 in
    elems_within (elem_listed edges) x.0 y.0 facts.elems more.1 has

pub is_graph : (h : List ClassInfo) (facts : Facts) (edges : List Edge) → list_all (edge_test h facts) edges ≡ true → facts_listed facts edges ≡ true
    → order_test (map edge_key edges) ≡ true → IsGraph h (sets_of facts) edges
is_graph h facts edges have all order = record {
  edges_are = λ e. (
    λ among. has_edge h facts e (all_tested (edge_test h facts) edges among.0 e have among.1),
    λ has. listed_among edges e (edge_is_listed h facts edges all e has),
  );
  ascend = in_order (map edge_key edges) order;
}
