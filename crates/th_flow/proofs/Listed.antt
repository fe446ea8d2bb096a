-- Rows that are filled list what they are to list.
use Rattle.std.proofs.Common.{◌≡◌, ℕ, ◌+◌, ◌<◌, ◌≤◌, ◌⊎◌, suc, zero, Bool, true, false, List, [], ◌∷◌, ◌++◌, length, map, filter, Option, Some, None, slice_get, get_or, refl, sym, ap, subst, inl, inr, arith, ◌∙◌, if◌then◌else◌, eqb, cond}
use Rattle.std.specs.Prelude.{◌&&◌, ◌||◌, ◌↔◌, codes, option_to_list}
use Rattle.std.specs.List.{list_any, flat_map}
use Rattle.std.specs.Option.{option_map}
use Rattle.std.proofs.lemmas.Bool.{cases_Bool, both_ways, eqb-true, eq-eqb, or_cases, or_left, or_right}
use Rattle.std.proofs.lemmas.Option.{slice_get_within, get_or_from_slice_get}
use Rattle.th_base.specs.declared.class.ClassInfo.{ClassInfo}
use Rattle.th_base.specs.declared.class.MethodInfo.{MethodInfo}
use Rattle.th_base.specs.declared.number.ClassId.{ClassId}
use Rattle.th_base.specs.declared.number.MethodId.{MethodId}
use Rattle.th_base.specs.declared.number.NodeId.{NodeId}
use Rattle.th_base.specs.Hierarchy.{lineage_of, declared_method, is_subclass}
use Rattle.th_base.specs.IdSet.{has, IsAscending}
use Rattle.th_ir.specs.declared.facts.Facts.{Facts}
use Rattle.th_ir.specs.declared.program.RegProgram.{RegProgram}
use Rattle.th_ir.specs.declared.program.Node.{Node}
use Rattle.th_ir.specs.declared.stmt.Stmt.{Stmt}
use Rattle.th_ir.specs.declared.stmt.Stmt.TheVariants.{Init}
use Rattle.th_ir.specs.Calls.{IsInitialiser}
use Rattle.th_ir.specs.FactSets.{sets_of}
use Rattle.th_ir.specs.Flow.{FlowsTo, LeadsOn, one, more, IsLoopHead}
use Rattle.th_ir.specs.Program.{Among, node_at}
use Rattle.th_ir.specs.WellFormed.{places_from}
use Rattle.th_flow.specs.Flows.{Precedes, IsCaller, IsInitSite, IsMarked, MarksLoopHeads, numbers_of, Lists, ListEach}
use Rattle.th_flow.specs.Inverted.{row_at, places_with, successor_numbers, called_by, initialisers_along, initialisers_of, entered_by}
use Rattle.th_flow.proofs.Rows.{some_is, place_passes, passing, places_ascend}

pub list_each : (count : ℕ) (holds : ℕ → ℕ → Type 0) (rows : List (List NodeId)) (lists : List (List ℕ)) → length rows ≡ count
    → ((r : ℕ) → r < count → row_at rows r ≡ places_with r lists) → ((k n : ℕ) → (has (places_with k lists) n ≡ true) ↔ holds k n) → ListEach count holds rows
list_each count holds rows lists same filled exact = record {
  count_is = same;
  each = λ k nodes e.
      let inside = slice_get_within rows k nodes e in
      let are : numbers_of nodes ≡ places_with k lists = ap numbers_of (sym (get_or_from_slice_get rows k nodes [] e)) ∙ filled k (omega (arith, inside, same)) in
      record {
        members = λ n. subst (λ l. (has l n ≡ true) ↔ holds k n) (sym are) (exact k n);
        ascend = subst (λ l. IsAscending l) (sym are) (places_ascend (λ l. has l k) 0 lists);
      };
}

-- ---- lists that are made from nodes

record IsFrom {A : Type 0} (f : A → List ℕ) (xs : List A) (at : ℕ) (list : List ℕ) : Type 0 where
  item : A
  stands : slice_get xs at ≡ Some item
  is : f item ≡ list

mapped_from : {A : Type 0} (f : A → List ℕ) (xs : List A) (at : ℕ) (list : List ℕ) → slice_get (map f xs) at ≡ Some list → IsFrom f xs at list
mapped_from f [] at list e = absurd cc
mapped_from f (x ∷ xs) zero list e = record { item = x; stands = refl; is = some_is (f x) list e }
mapped_from f (x ∷ xs) (suc at) list e = let m = mapped_from f xs at list e in record { item = m.item; stands = m.stands; is = m.is }

mapped_to : {A : Type 0} (f : A → List ℕ) (xs : List A) (at : ℕ) (x : A) → slice_get xs at ≡ Some x → slice_get (map f xs) at ≡ Some (f x)
mapped_to f [] at x e = absurd cc
mapped_to f (y ∷ xs) zero x e = ap (λ z. Some (f z)) (some_is y x e)
mapped_to f (y ∷ xs) (suc at) x e = mapped_to f xs at x e

-- a node whose list has the number
pub record IsNodeWith (f : Node → List ℕ) (nodes : List Node) (k n : ℕ) : Type 0 where
  pub node : Node
  pub stands : slice_get nodes n ≡ Some node
  pub has_it : has (f node) k ≡ true

pub node_with : (f : Node → List ℕ) (nodes : List Node) (k n : ℕ) → has (places_with k (map f nodes)) n ≡ true → IsNodeWith f nodes k n
node_with f nodes k n e =
    let p = place_passes (λ l. has l k) 0 (map f nodes) n e in
    let m = mapped_from f nodes p.at p.item p.stands in
    let number = p.number in
    let at : p.at ≡ n = omega (arith, number) in
    record { node = m.item; stands = subst (λ i. slice_get nodes i ≡ Some m.item) at m.stands; has_it = ap (λ l. has l k) m.is ∙ p.passes }

pub with_node : (f : Node → List ℕ) (nodes : List Node) (k n : ℕ) (node : Node) → slice_get nodes n ≡ Some node → has (f node) k ≡ true → has (places_with k (map f nodes)) n ≡ true
with_node f nodes k n node stands has_it = passing (λ l. has l k) (map f nodes) n (f node) (mapped_to f nodes n node stands) has_it

-- ---- predecessors

named_among : (next : List NodeId) (k : ℕ) → has (map (λ t. t.0) next) k ≡ true → (t : NodeId) × (Among next t × (t.0 ≡ k))
named_among [] k e = absurd cc
named_among (t ∷ next) k e =
    elim (or_cases (eqb t.0 k) (has (map (λ t. t.0) next) k) e) [
      | inl here ↦ (t, ((0, refl), eqb-true t.0 k here))
      | inr later ↦ let found = named_among next k later in (found.0, ((suc found.1.0.0, found.1.0.1), found.1.1))
    ]

among_named : (next : List NodeId) (k i : ℕ) (t : NodeId) → slice_get next i ≡ Some t → t.0 ≡ k → has (map (λ t. t.0) next) k ≡ true
among_named [] k i t e is = absurd cc
among_named (u ∷ next) k zero t e is = or_left (eqb u.0 k) (has (map (λ t. t.0) next) k) (eq-eqb u.0 k (ap (λ z. z.0) (some_is u t e) ∙ is))
among_named (u ∷ next) k (suc i) t e is = or_right (eqb u.0 k) (has (map (λ t. t.0) next) k) (among_named next k i t e is)

pub preceding : (p : RegProgram) (k n : ℕ) → (has (places_with k (map successor_numbers p.nodes)) n ≡ true) ↔ Precedes p k n
preceding p k n = (
  λ e.
      let m = node_with successor_numbers p.nodes k n e in
      let next = named_among m.node.next k m.has_it in
      record { node = m.node; stands = m.stands; next = next.0; follows = next.1.0; number = next.1.1 },
  λ flows. with_node successor_numbers p.nodes k n flows.node flows.stands (among_named flows.node.next k flows.follows.0 flows.next flows.follows.1 flows.number),
)

-- ---- callers

called_is : (calls : List (NodeId × MethodId)) (n m : ℕ) → has (called_by calls n) m ≡ list_any (λ c. eqb c.0.0 n && eqb c.1.0 m) calls
called_is [] n m = refl
called_is (c ∷ calls) n m = by_test (eqb c.0.0 n) (called_is calls n m)
  where
    by_test : (b : Bool) → has (called_by calls n) m ≡ list_any (λ c. eqb c.0.0 n && eqb c.1.0 m) calls
        → has (map (λ (d : NodeId × MethodId). d.1.0) (cond b (c ∷ filter (λ d. eqb d.0.0 n) calls) (filter (λ d. eqb d.0.0 n) calls))) m
        ≡ ((b && eqb c.1.0 m) || list_any (λ c. eqb c.0.0 n && eqb c.1.0 m) calls)
    by_test true rest = ap (λ r. eqb c.1.0 m || r) rest
    by_test false rest = rest

pub calling : (p : RegProgram) (facts : Facts) (lists : List (List ℕ)) (m n : ℕ) → length lists ≡ length p.nodes
    → ((k : ℕ) → k < length p.nodes → get_or lists k [] ≡ called_by facts.calls k) → (has (places_with m lists) n ≡ true) ↔ IsCaller p facts m n
calling p facts lists m n count filled = (
  λ e.
      let q = place_passes (λ l. has l m) 0 lists n e in
      let number = q.number in
      let at : q.at ≡ n = omega (arith, number) in
      let inside = slice_get_within lists q.at q.item q.stands in
      let node = get_within p.nodes n (omega (arith, inside, count, at)) in
      let is : called_by facts.calls n ≡ q.item =
      sym (filled n (omega (arith, inside, count, at))) ∙ ap (λ i. get_or lists i []) (sym at) ∙ get_or_from_slice_get lists q.at q.item [] q.stands in
      record { node = node.0; stands = node.1; calls = sym (called_is facts.calls n m) ∙ ap (λ l. has l m) is ∙ q.passes },
  λ caller.
      let inside = slice_get_within p.nodes n caller.node caller.stands in
      let list = get_within lists n (omega (arith, inside, count)) in
      let is : list.0 ≡ called_by facts.calls n = sym (get_or_from_slice_get lists n list.0 [] list.1) ∙ filled n inside in
      passing (λ l. has l m) lists n list.0 list.1 (ap (λ l. has l m) is ∙ called_is facts.calls n m ∙ caller.calls),
)
  where
    get_within : {A : Type 0} (xs : List A) (k : ℕ) → k < length xs → (x : A) × (slice_get xs k ≡ Some x)
    get_within [] k less = absurd (omega arith)
    get_within (x ∷ xs) zero less = (x, refl)
    get_within (x ∷ xs) (suc k) less = get_within xs k (omega arith)

-- ---- initialisers

record IsOwn (h : List ClassInfo) (line : List ℕ) (m : ℕ) : Type 0 where
  class : ℕ
  info : MethodInfo
  in_line : has line class ≡ true
  declared : declared_method h (codes "<clinit>") (codes "()V") class ≡ Some info
  number : info.id.0 ≡ m

has_either : (xs ys : List ℕ) (m : ℕ) → has (xs ++ ys) m ≡ true → (has xs m ≡ true) ⊎ (has ys m ≡ true)
has_either [] ys m e = inr e
has_either (x ∷ xs) ys m e =
    elim (or_cases (eqb x m) (has (xs ++ ys) m) e) [
      | inl here ↦ inl (or_left (eqb x m) (has xs m) here)
      | inr later ↦ elim (has_either xs ys m later) [ inl left ↦ inl (or_right (eqb x m) (has xs m) left) | inr right ↦ inr right ]
    ]

has_left : (xs ys : List ℕ) (m : ℕ) → has xs m ≡ true → has (xs ++ ys) m ≡ true
has_left [] ys m e = absurd cc
has_left (x ∷ xs) ys m e =
    elim (or_cases (eqb x m) (has xs m) e) [
      | inl here ↦ or_left (eqb x m) (has (xs ++ ys) m) here
      | inr later ↦ or_right (eqb x m) (has (xs ++ ys) m) (has_left xs ys m later)
    ]

has_right : (xs ys : List ℕ) (m : ℕ) → has ys m ≡ true → has (xs ++ ys) m ≡ true
has_right [] ys m e = e
has_right (x ∷ xs) ys m e = or_right (eqb x m) (has (xs ++ ys) m) (has_right xs ys m e)

only : (h : List ClassInfo) (k m : ℕ) (o : Option MethodInfo) → declared_method h (codes "<clinit>") (codes "()V") k ≡ o
    → has (option_to_list (option_map (λ i. i.id.0) o)) m ≡ true → (i : MethodInfo) × ((declared_method h (codes "<clinit>") (codes "()V") k ≡ Some i) × (i.id.0 ≡ m))
only h k m None is e = absurd cc
only h k m (Some i) is e = elim (or_cases (eqb i.id.0 m) false e) [ inl same ↦ (i, (is, eqb-true i.id.0 m same)) | inr none ↦ absurd cc ]

own_of : (h : List ClassInfo) (line : List ℕ) (m : ℕ) → has (initialisers_along h line) m ≡ true → IsOwn h line m
own_of h [] m e = absurd cc
own_of h (k ∷ line) m e =
    elim (has_either (option_to_list (option_map (λ i. i.id.0) (declared_method h (codes "<clinit>") (codes "()V") k))) (initialisers_along h line) m e) [
      | inl here ↦
          let found = only h k m (declared_method h (codes "<clinit>") (codes "()V") k) refl here in
          record { class = k; info = found.0; in_line = or_left (eqb k k) (has line k) (eq-eqb k k refl); declared = found.1.0; number = found.1.1 }
      | inr later ↦
          let found = own_of h line m later in
          record { class = found.class; info = found.info; in_line = or_right (eqb k found.class) (has line found.class) found.in_line; declared = found.declared; number = found.number }
    ]

of_own : (h : List ClassInfo) (line : List ℕ) (m class : ℕ) (info : MethodInfo) → has line class ≡ true
    → declared_method h (codes "<clinit>") (codes "()V") class ≡ Some info → info.id.0 ≡ m → has (initialisers_along h line) m ≡ true
of_own h [] m class info e declared number = absurd cc
of_own h (k ∷ line) m class info e declared number =
    elim (or_cases (eqb k class) (has line class) e) [
      | inl here ↦
          let is : declared_method h (codes "<clinit>") (codes "()V") k ≡ Some info =
          ap (λ z. declared_method h (codes "<clinit>") (codes "()V") z) (eqb-true k class here) ∙ declared in
          has_left (option_to_list (option_map (λ i. i.id.0) (declared_method h (codes "<clinit>") (codes "()V") k))) (initialisers_along h line) m
          (ap (λ o. has (option_to_list (option_map (λ i. i.id.0) o)) m) is ∙ or_left (eqb info.id.0 m) false (eq-eqb info.id.0 m number))
      | inr later ↦
          has_right (option_to_list (option_map (λ i. i.id.0) (declared_method h (codes "<clinit>") (codes "()V") k))) (initialisers_along h line) m
          (of_own h line m class info later declared number)
    ]

record Enters (h : List ClassInfo) (stmt : Stmt) (m : ℕ) : Type 0 where
  class : ClassId
  initialises : stmt ≡ Init class
  enters : IsInitialiser h class.0 m

entered : (h : List ClassInfo) (stmt : Stmt) (m : ℕ) → has (entered_by h stmt) m ≡ true → Enters h stmt m
entered h (Init c) m e =
    let o = own_of h (lineage_of h c.0) m e in
    record { class = c; initialises = refl; enters = record { class = o.class; info = o.info; above = o.in_line; declared = o.declared; number = o.number } }
entered h _ m e = absurd cc

pub initialising : (h : List ClassInfo) (p : RegProgram) (m n : ℕ)
    → (has (places_with m (map (λ node. entered_by h node.stmt) p.nodes)) n ≡ true) ↔ IsInitSite h p m n
initialising h p m n = (
  λ e.
      let w = node_with (λ node. entered_by h node.stmt) p.nodes m n e in
      let r = entered h w.node.stmt m w.has_it in
      record { node = w.node; stands = w.stands; class = r.class; initialises = r.initialises; enters = r.enters },
  λ s.
      let i = s.enters in
      with_node (λ node. entered_by h node.stmt) p.nodes m n s.node s.stands
      (ap (λ t. has (entered_by h t) m) s.initialises ∙ of_own h (lineage_of h s.class.0) m i.class i.info i.above i.declared i.number),
)

-- ---- loop heads

pub marked_are : (p : RegProgram) (n : ℕ) → (has (places_from (λ node. node.loop_head) 0 p.nodes) n ≡ true) ↔ IsMarked p n
marked_are p n = (
  λ e.
      let q = place_passes (λ node. node.loop_head) 0 p.nodes n e in
      let number = q.number in
      let at : q.at ≡ n = omega (arith, number) in
      record { node = q.item; stands = subst (λ i. slice_get p.nodes i ≡ Some q.item) at q.stands; marked = q.passes },
  λ m. passing (λ node. node.loop_head) p.nodes n m.node m.stands m.marked,
)

leads_from : (p : RegProgram) (n to : ℕ) → LeadsOn p n to → (node : Node) × (node_at p n ≡ Some node)
leads_from p n to (one flows) = (flows.node, flows.stands)
leads_from p n to (more {via = v} before flows) = leads_from p n v before

pub heads_are : (p : RegProgram) (n : ℕ) → MarksLoopHeads p → IsMarked p n ↔ IsLoopHead p n
heads_are p n marks = (
  λ m. (marks n m.node m.stands).0 m.marked,
  λ head.
      let from = leads_from p n n head.returns in
      record { node = from.0; stands = from.1; marked = (marks n from.0 from.1).1 head },
)
