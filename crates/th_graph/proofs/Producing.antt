-- The producers that the index gives are those of the edge, in order.
use Rattle.std.proofs.Common.{◌≡◌, ◌⊎◌, inl, inr, ℕ, zero, suc, ◌+◌, ◌<◌, ◌==◌, Bool, true, false, List, [], ◌∷◌, ◌++◌, length, map, filter, take, get_or, Option, None, Some, slice_get, refl, sym, ap, subst, arith, ◌∙◌, if◌then◌else◌}
use Rattle.std.specs.Prelude.{◌&&◌, nat_lt}
use Rattle.std.specs.List.{AllByRecursion}
use Rattle.std.specs.Option.{option_map_or}
use Rattle.std.proofs.lemmas.Bool.{eqb-true, eq-eqb}
use Rattle.th_base.specs.declared.class.ClassInfo.{ClassInfo}
use Rattle.th_base.specs.declared.number.FieldId.{FieldId}
use Rattle.th_base.specs.declared.number.SiteId.{SiteId}
use Rattle.th_base.specs.IdSet.{has, IsAscending}
use Rattle.th_ir.specs.declared.graph.Edge.{Edge}
use Rattle.th_ir.specs.declared.graph.Edge.TheVariants.{Static, Field, Element}
use Rattle.th_ir.specs.declared.graph.Producer.{Producer}
use Rattle.th_ir.specs.declared.graph.Producer.TheVariants.{Node as StoreAt, Constant}
use Rattle.th_ir.specs.declared.program.Node.{Node}
use Rattle.th_ir.specs.declared.program.RegProgram.{RegProgram}
use Rattle.th_ir.specs.declared.stmt.Stmt.{Stmt}
use Rattle.th_ir.specs.declared.stmt.Stmt.TheVariants.{PutStatic, PutField, PutElem}
use Rattle.th_ir.specs.Fields.{has_field}
use Rattle.th_ir.specs.FactSets.{FactSets, AscendBy}
use Rattle.th_ir.specs.Graph.{StoreGives, StoresAt, HoldsConstant, Produces, producer_key, AreProducers}
use Rattle.th_ir.specs.Program.{Among, node_at}
use Rattle.th_ir.specs.Sites.{is_ref_array, can_store}
use Rattle.th_ir.proofs.Plain.{and_parts, and_both}
use Rattle.th_flow.proofs.Rows.{passing, places_ascend}
use Rattle.th_graph.specs.Searching.{row_at}
use Rattle.th_graph.specs.Stores.{bucket, static_key_of, static_key, field_key_of, field_key, constant_key, stores_element, IsIndexOf, candidates, store_test, stores_test, store_at, holds_at, any_holds, constants_at}
use Rattle.th_graph.specs.declared.store_index.StoreIndex.{StoreIndex}
use Rattle.th_graph.proofs.Orders.{IsBelow, below_first, below_next, among_cases, among_more, among_either, among_left, among_right, among_mapped, mapped_among, has_among, any_among, among_any, ascend_cons, ascend_none, ascend_append, ascend_numbers}
use Rattle.th_graph.proofs.TargetRows.{row_in, row_ascends}

-- ---- rows

pub bucket_inside : (f count : ℕ) → bucket f count < count + 1
bucket_inside f count = by_test (nat_lt f count) refl
  where
    by_test : (b : Bool) → nat_lt f count ≡ b → (if b then f else count) < count + 1
    by_test true e = let less : f < count = grind arith in omega (arith, less)
    by_test false e = omega arith

among_filter : (q : ℕ → Bool) (ns : List ℕ) (n : ℕ) → Among (filter q ns) n → Among ns n × (q n ≡ true)
among_filter q [] n a = let e = a.1 in absurd cc
among_filter q (m ∷ ns) n a = by_test (q m) refl (λ b. among_filter q ns n b) a
  where
    by_test : (b : Bool) → q m ≡ b → (Among (filter q ns) n → Among ns n × (q n ≡ true)) → Among (if b then m ∷ filter q ns else filter q ns) n → Among (m ∷ ns) n × (q n ≡ true)
    by_test true is later b = elim (among_cases m (filter q ns) n b) [
      | inl here ↦ ((0, ap Some here), ap q (sym here) ∙ is)
      | inr more ↦ (let r = later more in (among_more m ns n r.0, r.1))
    ]
    by_test false is later b = let r = later b in (among_more m ns n r.0, r.1)

filter_among : (q : ℕ → Bool) (ns : List ℕ) (n : ℕ) → Among ns n → q n ≡ true → Among (filter q ns) n
filter_among q [] n a e = let is = a.1 in absurd cc
filter_among q (m ∷ ns) n a e = by_test (q m) refl (λ b. filter_among q ns n b e) (among_cases m ns n a)
  where
    by_test : (b : Bool) → q m ≡ b → (Among ns n → Among (filter q ns) n) → (m ≡ n) ⊎ Among ns n → Among (if b then m ∷ filter q ns else filter q ns) n
    by_test true is later (inl here) = (0, ap Some here)
    by_test true is later (inr more) = among_more m (filter q ns) n (later more)
    by_test false is later (inl here) = absurd (let both : false ≡ true = sym is ∙ ap q here ∙ e in cc)
    by_test false is later (inr more) = later more

all_filter : (q : ℕ → Bool) (m : ℕ) (ns : List ℕ) → AllByRecursion (λ n. m < n) ns → AllByRecursion (λ n. m < n) (filter q ns)
all_filter q m [] all = tt
all_filter q m (n ∷ ns) all = by_test (q n) (all_filter q m ns all.1)
  where
    by_test : (b : Bool) → AllByRecursion (λ n. m < n) (filter q ns) → AllByRecursion (λ n. m < n) (if b then n ∷ filter q ns else filter q ns)
    by_test true rest = (all.0, rest)
    by_test false rest = rest

filter_ascends : (q : ℕ → Bool) (ns : List ℕ) → IsAscending ns → IsAscending (filter q ns)
filter_ascends q [] ascend = tt
filter_ascends q (n ∷ ns) ascend = by_test (q n) (filter_ascends q ns ascend.1)
  where
    by_test : (b : Bool) → IsAscending (filter q ns) → IsAscending (if b then n ∷ filter q ns else filter q ns)
    by_test true rest = (all_filter q n ns ascend.0, rest)
    by_test false rest = rest

-- ---- what a store gives

number_field : ℕ → FieldId
number_field n = record { 0 = n }

test_gives : (h : List ClassInfo) (p : RegProgram) (t : FactSets) (stmt : Stmt) (e : Edge) → store_test h p t stmt e ≡ true → StoreGives h p t stmt e
unfolding number_field
test_gives h p t (PutStatic g src) (Static f x) e = let a = and_parts (g.0 == f.0) (t.reg src.0 x.0) e in (ap number_field (eqb-true g.0 f.0 a.0), a.1)
test_gives h p t (PutField base g src) (Field x f y) e =
    let a = and_parts (g.0 == f.0) (t.reg base.0 x.0 && (has_field h p x.0 f.0 && t.reg src.0 y.0)) e in
    let b = and_parts (t.reg base.0 x.0) (has_field h p x.0 f.0 && t.reg src.0 y.0) a.1 in
    let c = and_parts (has_field h p x.0 f.0) (t.reg src.0 y.0) b.1 in
    (ap number_field (eqb-true g.0 f.0 a.0), b.0, c.0, c.1)
test_gives h p t (PutElem array src) (Element x y) e =
    let a = and_parts (t.reg array.0 x.0) (is_ref_array p x.0 && (t.reg src.0 y.0 && can_store h p x.0 y.0)) e in
    let b = and_parts (is_ref_array p x.0) (t.reg src.0 y.0 && can_store h p x.0 y.0) a.1 in
    let c = and_parts (t.reg src.0 y.0) (can_store h p x.0 y.0) b.1 in
    (a.0, b.0, c.0, c.1)
test_gives h p t _ _ e = absurd cc

field_same : (g f : FieldId) → g ≡ f → (g.0 == f.0) ≡ true
field_same g f e = eq-eqb g.0 f.0 (ap (λ (k : FieldId). k.0) e)

gives_test : (h : List ClassInfo) (p : RegProgram) (t : FactSets) (stmt : Stmt) (e : Edge) → StoreGives h p t stmt e → store_test h p t stmt e ≡ true
gives_test h p t (PutStatic g src) (Static f x) is = and_both (g.0 == f.0) (t.reg src.0 x.0) (field_same g f is.0) is.1
gives_test h p t (PutField base g src) (Field x f y) is =
    and_both (g.0 == f.0) (t.reg base.0 x.0 && (has_field h p x.0 f.0 && t.reg src.0 y.0)) (field_same g f is.0)
    (and_both (t.reg base.0 x.0) (has_field h p x.0 f.0 && t.reg src.0 y.0) is.1 (and_both (has_field h p x.0 f.0) (t.reg src.0 y.0) is.2 is.3))
gives_test h p t (PutElem array src) (Element x y) is =
    and_both (t.reg array.0 x.0) (is_ref_array p x.0 && (t.reg src.0 y.0 && can_store h p x.0 y.0)) is.0
    (and_both (is_ref_array p x.0) (t.reg src.0 y.0 && can_store h p x.0 y.0) is.1 (and_both (t.reg src.0 y.0) (can_store h p x.0 y.0) is.2 is.3))
gives_test h p t _ _ is = absurd is

test_stores : (h : List ClassInfo) (p : RegProgram) (t : FactSets) (n : ℕ) (e : Edge) → stores_test h p t n e ≡ true → StoresAt h p t n e
test_stores h p t n e is = by_node (node_at p n) refl is
  where
    by_node : (o : Option Node) → node_at p n ≡ o → option_map_or (λ node. t.reached node.method.0 && store_test h p t node.stmt e) o false ≡ true → StoresAt h p t n e
    by_node None at b = absurd cc
    by_node (Some node) at b = let both = and_parts (t.reached node.method.0) (store_test h p t node.stmt e) b in record { node = node; stands = at; reached = both.0; gives = test_gives h p t node.stmt e both.1 }

stores_tested : (h : List ClassInfo) (p : RegProgram) (t : FactSets) (n : ℕ) (e : Edge) → StoresAt h p t n e → stores_test h p t n e ≡ true
stores_tested h p t n e s =
    ap (λ (o : Option Node). option_map_or (λ node. t.reached node.method.0 && store_test h p t node.stmt e) o false) s.stands
    ∙ and_both (t.reached s.node.method.0) (store_test h p t s.node.stmt e) s.reached (gives_test h p t s.node.stmt e s.gives)

-- ---- stores are among the candidates

static_gives : (h : List ClassInfo) (p : RegProgram) (t : FactSets) (count : ℕ) (stmt : Stmt) (f : FieldId) (x : SiteId) → StoreGives h p t stmt (Static f x) → static_key_of count stmt ≡ Some (bucket f.0 count)
static_gives h p t count (PutStatic g src) f x is = ap (λ (k : FieldId). Some (bucket k.0 count)) is.0
static_gives h p t count _ f x is = absurd is

field_gives : (h : List ClassInfo) (p : RegProgram) (t : FactSets) (count : ℕ) (stmt : Stmt) (x : SiteId) (f : FieldId) (y : SiteId) → StoreGives h p t stmt (Field x f y) → field_key_of count stmt ≡ Some (bucket f.0 count)
field_gives h p t count (PutField base g src) x f y is = ap (λ (k : FieldId). Some (bucket k.0 count)) is.0
field_gives h p t count _ x f y is = absurd is

element_gives : (h : List ClassInfo) (p : RegProgram) (t : FactSets) (stmt : Stmt) (x y : SiteId) → StoreGives h p t stmt (Element x y) → stores_element stmt ≡ true
element_gives h p t (PutElem array src) x y is = refl
element_gives h p t _ x y is = absurd is

candidate : (h : List ClassInfo) (p : RegProgram) (t : FactSets) (index : StoreIndex) (n : ℕ) (e : Edge) → IsIndexOf p index → StoresAt h p t n e → has (candidates index e) n ≡ true
candidate h p t index n (Static f x) of s =
    let r = bucket f.0 index.count in
    ap (λ (l : List ℕ). has l n) (of.statics.rows_are r (bucket_inside f.0 index.count))
    ∙ row_in (static_key index.count) p.nodes r n s.node s.stands (static_gives h p t index.count s.node.stmt f x s.gives)
candidate h p t index n (Field x f y) of s =
    let r = bucket f.0 index.count in
    ap (λ (l : List ℕ). has l n) (of.fields.rows_are r (bucket_inside f.0 index.count))
    ∙ row_in (field_key index.count) p.nodes r n s.node s.stands (field_gives h p t index.count s.node.stmt x f y s.gives)
candidate h p t index n (Element x y) of s =
    ap (λ (l : List ℕ). has l n) of.elements ∙ passing (λ (node : Node). stores_element node.stmt) p.nodes n s.node s.stands (element_gives h p t s.node.stmt x y s.gives)

candidates_ascend : (p : RegProgram) (index : StoreIndex) (e : Edge) → IsIndexOf p index → IsAscending (candidates index e)
candidates_ascend p index (Static f x) of =
    subst IsAscending (sym (of.statics.rows_are (bucket f.0 index.count) (bucket_inside f.0 index.count))) (row_ascends (bucket f.0 index.count) (map (static_key index.count) p.nodes))
candidates_ascend p index (Field x f y) of =
    subst IsAscending (sym (of.fields.rows_are (bucket f.0 index.count) (bucket_inside f.0 index.count))) (row_ascends (bucket f.0 index.count) (map (field_key index.count) p.nodes))
candidates_ascend p index (Element x y) of = subst IsAscending (sym of.elements) (places_ascend (λ (node : Node). stores_element node.stmt) 0 p.nodes)

-- ---- constants

record HeldAt (strings : List (FieldId × SiteId)) (f x : ℕ) : Type 0 where
  held : FieldId × SiteId
  among : Among strings held
  field : held.0.0 ≡ f
  site : held.1.0 ≡ x

held_at : (strings : List (FieldId × SiteId)) (f x place : ℕ) → holds_at strings f x place ≡ true → HeldAt strings f x
held_at strings f x place e = by_place (slice_get strings place) refl e
  where
    by_place : (o : Option (FieldId × SiteId)) → slice_get strings place ≡ o → option_map_or (λ i. i.0.0 == f && i.1.0 == x) o false ≡ true → HeldAt strings f x
    by_place None is b = absurd cc
    by_place (Some i) is b = let both = and_parts (i.0.0 == f) (i.1.0 == x) b in record { held = i; among = (place, is); field = eqb-true i.0.0 f both.0; site = eqb-true i.1.0 x both.1 }

pair_is : (i : FieldId × SiteId) (f : FieldId) (x : SiteId) → i.0.0 ≡ f.0 → i.1.0 ≡ x.0 → i ≡ (f, x)
pair_is i f x one two =
    let first : ℕ → FieldId × SiteId = λ n. (record { 0 = n }, i.1) in
    let second : ℕ → FieldId × SiteId = λ n. (f, record { 0 = n }) in
    ap first one ∙ ap second two

constant_held : (p : RegProgram) (index : StoreIndex) (f : FieldId) (x : SiteId) → any_holds p.strings f.0 x.0 (row_at index.constants.items (bucket f.0 index.count)) ≡ true → Among p.strings (f, x)
constant_held p index f x e =
    let m = any_among (holds_at p.strings f.0 x.0) (row_at index.constants.items (bucket f.0 index.count)) e in
    let h = held_at p.strings f.0 x.0 m.0 m.2 in
    subst (Among p.strings) (pair_is h.held f x h.field h.site) h.among

held_constant : (p : RegProgram) (index : StoreIndex) (f : FieldId) (x : SiteId) → IsIndexOf p index → Among p.strings (f, x) → any_holds p.strings f.0 x.0 (row_at index.constants.items (bucket f.0 index.count)) ≡ true
held_constant p index f x of a =
    let r = bucket f.0 index.count in
    let in_row = ap (λ (l : List ℕ). has l a.0) (of.constants.rows_are r (bucket_inside f.0 index.count)) ∙ row_in (constant_key index.count) p.strings r a.0 (f, x) a.1 refl in
    among_any (holds_at p.strings f.0 x.0) (row_at index.constants.items r) a.0 (has_among (row_at index.constants.items r) a.0 in_row)
    (ap (λ (o : Option (FieldId × SiteId)). option_map_or (λ i. i.0.0 == f.0 && i.1.0 == x.0) o false) a.1 ∙ and_both (f.0 == f.0) (x.0 == x.0) (eq-eqb f.0 f.0 refl) (eq-eqb x.0 x.0 refl))

constants_are : (h : List ClassInfo) (p : RegProgram) (t : FactSets) (index : StoreIndex) (e : Edge) (x : Producer) → Among (constants_at index p e) x → (f : FieldId) × (x ≡ Constant f) × HoldsConstant p f e
constants_are h p t index (Static f s) x a = by_test (any_holds p.strings f.0 s.0 (row_at index.constants.items (bucket f.0 index.count))) refl a
  where
    by_test : (b : Bool) → any_holds p.strings f.0 s.0 (row_at index.constants.items (bucket f.0 index.count)) ≡ b → Among (if b then Constant f ∷ [] else []) x
        → (g : FieldId) × (x ≡ Constant g) × HoldsConstant p g (Static f s)
    by_test true is m = elim (among_cases (Constant f) [] x m) [ inl here ↦ (f, sym here, (refl, constant_held p index f s is)) | inr none ↦ absurd (let e = none.1 in cc) ]
    by_test false is m = absurd (let e = m.1 in cc)
constants_are h p t index (Field s f y) x a = absurd (let e = a.1 in cc)
constants_are h p t index (Element s y) x a = absurd (let e = a.1 in cc)

are_constants : (p : RegProgram) (index : StoreIndex) (e : Edge) (g : FieldId) → IsIndexOf p index → HoldsConstant p g e → Among (constants_at index p e) (Constant g)
are_constants p index (Static f s) g of is =
    subst (λ b. Among (if b then Constant f ∷ [] else []) (Constant g)) (sym (held_constant p index f s of is.1)) (0, ap (λ k. Some (Constant k)) (sym is.0))
are_constants p index (Field s f y) g of is = absurd is
are_constants p index (Element s y) g of is = absurd is

constants_ascend : (p : RegProgram) (index : StoreIndex) (e : Edge) → AscendBy producer_key (constants_at index p e)
constants_ascend p index (Static f s) = by_test (any_holds p.strings f.0 s.0 (row_at index.constants.items (bucket f.0 index.count)))
  where
    by_test : (b : Bool) → AscendBy producer_key (if b then Constant f ∷ [] else [])
    by_test true = ascend_cons producer_key (Constant f) [] (λ y m. absurd (let e = m.1 in cc)) (ascend_none producer_key)
    by_test false = ascend_none producer_key
constants_ascend p index (Field s f y) = ascend_none producer_key
constants_ascend p index (Element s y) = ascend_none producer_key

-- ---- all producers

abbrev pub listed : List ClassInfo → RegProgram → FactSets → StoreIndex → Edge → List Producer
listed h p t index e = constants_at index p e ++ map store_at (filter (λ n. stores_test h p t n e) (candidates index e))

producer_listed : (h : List ClassInfo) (p : RegProgram) (t : FactSets) (index : StoreIndex) (e : Edge) (x : Producer) → IsIndexOf p index → Produces h p t e x → Among (listed h p t index e) x
producer_listed h p t index e (StoreAt n) of is =
    among_right (constants_at index p e) (map store_at (filter (λ n. stores_test h p t n e) (candidates index e))) (StoreAt n)
    (mapped_among store_at (filter (λ n. stores_test h p t n e) (candidates index e)) n.0
    (filter_among (λ n. stores_test h p t n e) (candidates index e) n.0 (has_among (candidates index e) n.0 (candidate h p t index n.0 e of is)) (stores_tested h p t n.0 e is)))
producer_listed h p t index e (Constant g) of is =
    among_left (constants_at index p e) (map store_at (filter (λ n. stores_test h p t n e) (candidates index e))) (Constant g) (are_constants p index e g of is)

listed_producer : (h : List ClassInfo) (p : RegProgram) (t : FactSets) (index : StoreIndex) (e : Edge) (x : Producer) → Among (listed h p t index e) x → Produces h p t e x
listed_producer h p t index e x a =
    elim (among_either (constants_at index p e) (map store_at (filter (λ n. stores_test h p t n e) (candidates index e))) x a) [
      | inl constant ↦ (let c = constants_are h p t index e x constant in subst (Produces h p t e) (sym c.1) c.2)
      | inr store ↦
          let m = among_mapped store_at (filter (λ n. stores_test h p t n e) (candidates index e)) x store in
          let f = among_filter (λ n. stores_test h p t n e) (candidates index e) m.0 m.1 in
          subst (Produces h p t e) m.2 (test_stores h p t m.0 e f.1)
    ]

pub listed_producers : (h : List ClassInfo) (p : RegProgram) (t : FactSets) (index : StoreIndex) (e : Edge) → IsIndexOf p index → AreProducers h p t e (listed h p t index e)
listed_producers h p t index e of = record {
  producers_are = λ x. (listed_producer h p t index e x, producer_listed h p t index e x of);
  ascend =
      ascend_append producer_key (constants_at index p e) (map store_at (filter (λ n. stores_test h p t n e) (candidates index e))) (constants_ascend p index e)
      (ascend_numbers producer_key store_at (filter (λ n. stores_test h p t n e) (candidates index e)) (filter_ascends (λ n. stores_test h p t n e) (candidates index e) (candidates_ascend p index e of))
      (λ m n less. below_next 1 (m ∷ []) (n ∷ []) (below_first m n [] [] less)))
      (λ x y in_constants in_stores.
      let c = constants_are h p t index e x in_constants in
      let m = among_mapped store_at (filter (λ n. stores_test h p t n e) (candidates index e)) y in_stores in
      subst (λ z. IsBelow (producer_key z) (producer_key y)) (sym c.1) (subst (λ z. IsBelow (producer_key (Constant c.0)) (producer_key z)) m.2
      (below_first 0 1 (c.0.0 ∷ []) (m.0 ∷ []) (omega arith))));
}

-- ---- one node more

filtered_next : (q : ℕ → Bool) (row : List ℕ) (n : ℕ) → n < length row → map store_at (filter q (take (suc n) row)) ≡ map store_at (filter q (take n row)) ++ (if q (get_or row n 0) then store_at (get_or row n 0) ∷ [] else [])
filtered_next q [] n less = absurd (omega arith)
filtered_next q (m ∷ row) zero less = by_test (q m)
  where
    by_test : (b : Bool) → map store_at (if b then m ∷ [] else []) ≡ (if b then store_at m ∷ [] else [])
    by_test true = refl
    by_test false = refl
filtered_next q (m ∷ row) (suc n) less = by_test (q m) (filtered_next q row n (omega arith))
  where
    by_test : (b : Bool) → map store_at (filter q (take (suc n) row)) ≡ map store_at (filter q (take n row)) ++ (if q (get_or row n 0) then store_at (get_or row n 0) ∷ [] else [])
        → map store_at (if b then m ∷ filter q (take (suc n) row) else filter q (take (suc n) row)) ≡ map store_at (if b then m ∷ filter q (take n row) else filter q (take n row)) ++ (if q (get_or row n 0) then store_at (get_or row n 0) ∷ [] else [])
    by_test true rest = ap (λ l. store_at m ∷ l) rest
    by_test false rest = rest

pub filtered_more : (q : ℕ → Bool) (row : List ℕ) (n : ℕ) → n < length row → map store_at (filter q (take (n + 1) row)) ≡ map store_at (filter q (take n row)) ++ (if q (get_or row n 0) then store_at (get_or row n 0) ∷ [] else [])
filtered_more q row n less = let next : n + 1 ≡ suc n = omega arith in ap (λ k. map store_at (filter q (take k row))) next ∙ filtered_next q row n less
