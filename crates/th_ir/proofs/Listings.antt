-- Lists that ascend by a key and have the same members are one list; so facts, summaries, graph, alarms
-- and producers are listed in one way.
use Rattle.std.proofs.Common.{◌≡◌, ◌⊎◌, inl, inr, ℕ, zero, suc, ◌==◌, Bool, true, false, List, [], ◌∷◌, length, map, Option, None, Some, slice_get, refl, sym, ap, subst, arith, ◌∙◌}
use Rattle.std.specs.Prelude.{◌||◌, ◌&&◌, ◌↔◌}
use Rattle.std.specs.List.{AllByRecursion, list_any}
use Rattle.std.specs.List.Sorted.{IsStrictlySortedBy}
use Rattle.std.specs.declared.cmp.Ordering.TheVariants.{Less, Equal, Greater}
use Rattle.std.specs.Ordering.{ordering_reverse, nat_cmp}
use Rattle.std.specs.Cmp.{IsTotalOrder}
use Rattle.std.specs.Cmp.Lexicographic.{slice_cmp}
use Rattle.std.specs.Option.{option_map_or}
use Rattle.std.proofs.lemmas.Bool.{eqb-true, eq-eqb, or_cases, or_right}
use Rattle.std.proofs.lemmas.Cmp.{nat_list_cmp_total}
use Rattle.th_base.specs.declared.class.ClassInfo.{ClassInfo}
use Rattle.th_base.specs.declared.number.FieldId.{FieldId}
use Rattle.th_base.specs.declared.number.MethodId.{MethodId}
use Rattle.th_base.specs.declared.number.NodeId.{NodeId}
use Rattle.th_base.specs.declared.number.SiteId.{SiteId}
use Rattle.th_base.specs.IdSet.{has, IsAscending}
use Rattle.th_base.proofs.Ascending.{same_members}
use Rattle.th_ir.specs.declared.facts.Facts.{Facts}
use Rattle.th_ir.specs.declared.facts.Mods.{Mods}
use Rattle.th_ir.specs.declared.graph.Alarm.{Alarm}
use Rattle.th_ir.specs.declared.graph.Edge.{Edge}
use Rattle.th_ir.specs.declared.graph.Producer.{Producer}
use Rattle.th_ir.specs.declared.program.RegProgram.{RegProgram}
use Rattle.th_ir.specs.Program.{Among}
use Rattle.th_ir.specs.FactSets.{FactSets, SaysWithin, set_at, sets_of, AscendBy, IsListedSet, cell_key, elem_key, call_key, AreListed}
use Rattle.th_ir.specs.Rules.{IsLeast, LeastFacts}
use Rattle.th_ir.specs.Summaries.{SumsWithin, sums_of, IsListedMods, LeastMods}
use Rattle.th_ir.specs.Graph.{edge_key, IsGraph, alarm_key, AreAlarms, producer_key, AreProducers}
use Rattle.th_ir.proofs.Plain.{some_is, same_test, and_parts, and_both, all_at}

-- ---- members

any_among : {X : Type 0} (p : X → Bool) (xs : List X) → list_any p xs ≡ true → (x : X) × Among xs x × (p x ≡ true)
any_among p [] e = absurd cc
any_among p (x ∷ xs) e = elim (or_cases (p x) (list_any p xs) e) [
  | inl here ↦ (x, (0, refl), here)
  | inr more ↦ (let m = any_among p xs more in (m.0, (suc m.1.0, m.1.1), m.2))
]

among_any : {X : Type 0} (p : X → Bool) (xs : List X) (k : ℕ) (x : X) → slice_get xs k ≡ Some x → p x ≡ true → list_any p xs ≡ true
among_any p [] k x at e = absurd cc
among_any p (y ∷ xs) zero x at e = subst (λ b. (b || list_any p xs) ≡ true) (sym (ap p (some_is y x at) ∙ e)) refl
among_any p (y ∷ xs) (suc k) x at e = or_right (p y) (list_any p xs) (among_any p xs k x at e)

-- ---- one list

-- the first key comes before the second
abbrev pub IsBelow : List ℕ → List ℕ → Type 0
IsBelow a b = slice_cmp nat_cmp a b ≡ Less

not_both_below : (a b : List ℕ) → IsBelow a b → IsBelow b a → ⊥
not_both_below a b one two = let both : Less ≡ ordering_reverse Less = sym one ∙ nat_list_cmp_total.antisymm a b ∙ ap ordering_reverse two in cc

not_below_itself : (a : List ℕ) → IsBelow a a → ⊥
not_below_itself a e = not_both_below a a e e

below_at : {X : Type 0} (key : X → List ℕ) (k : List ℕ) (xs : List X) (n : ℕ) (x : X) → AllByRecursion (IsBelow k) (map key xs) → slice_get xs n ≡ Some x → IsBelow k (key x)
below_at key k [] n x all e = absurd cc
below_at key k (y ∷ xs) zero x all e = subst (λ z. IsBelow k (key z)) (some_is y x e) all.0
below_at key k (y ∷ xs) (suc n) x all e = below_at key k xs n x all.1 e

-- of several with one key there is one
key_once : {X : Type 0} (key : X → List ℕ) (xs : List X) (i k : ℕ) (x y : X) → AscendBy key xs → slice_get xs i ≡ Some x → slice_get xs k ≡ Some y → key x ≡ key y → x ≡ y
unfolding IsStrictlySortedBy
key_once key [] i k x y ascend e d same = absurd cc
key_once key (z ∷ xs) zero zero x y ascend e d same = sym (some_is z x e) ∙ some_is z y d
key_once key (z ∷ xs) zero (suc k) x y ascend e d same =
    absurd (not_below_itself (key y) (subst (λ a. IsBelow a (key y)) (ap key (some_is z x e) ∙ same) (below_at key (key z) xs k y ascend.0 d)))
key_once key (z ∷ xs) (suc i) zero x y ascend e d same =
    absurd (not_below_itself (key x) (subst (λ a. IsBelow a (key x)) (ap key (some_is z y d) ∙ sym same) (below_at key (key z) xs i x ascend.0 e)))
key_once key (z ∷ xs) (suc i) (suc k) x y ascend e d same = key_once key xs i k x y ascend.1 e d same

-- a member of a list is its first or one of the rest
first_or_rest : {X : Type 0} (y : X) (ys : List X) (x : X) → Among (y ∷ ys) x → (y ≡ x) ⊎ Among ys x
first_or_rest {X} y ys x a = by_place a.0 a.1
  where
    by_place : (k : ℕ) → slice_get (y ∷ ys) k ≡ Some x → (y ≡ x) ⊎ Among ys x
    by_place zero e = inl (some_is y x e)
    by_place (suc k) e = inr (k, e)

-- what is in both lists, behind one first member, is in both rests
rest_in : {X : Type 0} (key : X → List ℕ) (x : X) (xs ys : List X) → AllByRecursion (IsBelow (key x)) (map key xs) → ((z : X) → Among (x ∷ xs) z → Among (x ∷ ys) z) → (z : X) → Among xs z → Among ys z
rest_in key x xs ys below inside z a = elim (first_or_rest x ys z (inside z (suc a.0, a.1))) [
  | inl same ↦ absurd (not_below_itself (key z) (subst (λ w. IsBelow (key w) (key z)) same (below_at key (key x) xs a.0 z below a.1)))
  | inr more ↦ more
]

first_same : {X : Type 0} (key : X → List ℕ) (x y : X) (xs ys : List X) → AllByRecursion (IsBelow (key x)) (map key xs) → AllByRecursion (IsBelow (key y)) (map key ys) → (y ≡ x) ⊎ Among ys x → (x ≡ y) ⊎ Among xs y → x ≡ y
first_same key x y xs ys below_x below_y one two = elim one [
  | inl same ↦ sym same
  | inr in_ys ↦ elim two [
    | inl same ↦ same
    | inr in_xs ↦ absurd (not_both_below (key x) (key y) (below_at key (key x) xs in_xs.0 y below_x in_xs.1) (below_at key (key y) ys in_ys.0 x below_y in_ys.1))
  ]
]

pub one_list : {X : Type 0} (key : X → List ℕ) (xs ys : List X) → AscendBy key xs → AscendBy key ys → ((x : X) → Among xs x → Among ys x) → ((x : X) → Among ys x → Among xs x) → xs ≡ ys
unfolding IsStrictlySortedBy
one_list key [] [] a b there back = refl
one_list key [] (y ∷ ys) a b there back = let e = (back y (0, refl)).1 in absurd cc
one_list key (x ∷ xs) [] a b there back = let e = (there x (0, refl)).1 in absurd cc
one_list {X} key (x ∷ xs) (y ∷ ys) a b there back =
    let same : x ≡ y = first_same key x y xs ys a.0 b.0 (first_or_rest y ys x (there x (0, refl))) (first_or_rest x xs y (back y (0, refl))) in
    let forth' : (z : X) → Among (x ∷ xs) z → Among (x ∷ ys) z = λ z m. subst (λ w. Among (w ∷ ys) z) (sym same) (there z m) in
    let back' : (z : X) → Among (x ∷ ys) z → Among (x ∷ xs) z = λ z m. back z (subst (λ w. Among (w ∷ ys) z) same m) in
    let below : AllByRecursion (IsBelow (key x)) (map key ys) = subst (λ w. AllByRecursion (IsBelow (key w)) (map key ys)) (sym same) b.0 in
    let rest : xs ≡ ys = one_list key xs ys a.1 b.1 (rest_in key x xs ys a.0 forth') (rest_in key x ys xs below back') in
    ap (λ w. w ∷ xs) same ∙ ap (λ l. y ∷ l) rest

-- ---- tables of sets by a key

-- the table has a number at a key
pub record HasEntry {X : Type 0} (key set : X → List ℕ) (xs : List X) (k : List ℕ) (n : ℕ) : Type 0 where
  pub entry : X
  pub among : Among xs entry
  pub key_is : key entry ≡ k
  pub member : has (set entry) n ≡ true

listed_first : (xs : List ℕ) → IsListedSet xs → (n : ℕ) × (has xs n ≡ true)
listed_first [] is = absurd is
listed_first (x ∷ xs) is = (x, subst (λ b. (b || has xs x) ≡ true) (sym (eq-eqb x x refl)) refl)

listed_ascends : (xs : List ℕ) → IsListedSet xs → IsAscending xs
listed_ascends [] is = absurd is
listed_ascends (x ∷ xs) is = is

-- an entry of one table is one of the other
entry_in : {X : Type 0} (key set : X → List ℕ) (remake : (x y : X) → key x ≡ key y → set x ≡ set y → x ≡ y) (xs ys : List X) → AscendBy key xs → AscendBy key ys
    → AllByRecursion (λ x. IsListedSet (set x)) xs → AllByRecursion (λ x. IsListedSet (set x)) ys
    → ((k : List ℕ) (n : ℕ) → HasEntry key set xs k n → HasEntry key set ys k n) → ((k : List ℕ) (n : ℕ) → HasEntry key set ys k n → HasEntry key set xs k n)
    → (x : X) → Among xs x → Among ys x
entry_in {X} key set remake xs ys ascend_x ascend_y listed_x listed_y there back x a =
    let is_x = all_at (λ z. IsListedSet (set z)) xs a.0 x listed_x a.1 in
    let first = listed_first (set x) is_x in
    let at : HasEntry key set ys (key x) first.0 = there (key x) first.0 (record { entry = x; among = a; key_is = refl; member = first.1 }) in
    let y : X = at.entry in
    let is_y = all_at (λ z. IsListedSet (set z)) ys at.among.0 y listed_y at.among.1 in
    let forth' : (n : ℕ) → has (set x) n ≡ true → has (set y) n ≡ true = λ n m.
    let e = there (key x) n (record { entry = x; among = a; key_is = refl; member = m }) in
    subst (λ z. has (set z) n ≡ true) (key_once key ys e.among.0 at.among.0 e.entry y ascend_y e.among.1 at.among.1 (e.key_is ∙ sym at.key_is)) e.member in
    let back' : (n : ℕ) → has (set y) n ≡ true → has (set x) n ≡ true = λ n m.
    let e = back (key x) n (record { entry = y; among = at.among; key_is = at.key_is; member = m }) in
    subst (λ z. has (set z) n ≡ true) (key_once key xs e.among.0 a.0 e.entry x ascend_x e.among.1 a.1 e.key_is) e.member in
    let sets : set x ≡ set y = same_members (set x) (set y) (listed_ascends (set x) is_x) (listed_ascends (set y) is_y) (λ n. same_test (has (set x) n) (has (set y) n) (forth' n) (back' n)) in
    subst (Among ys) (sym (remake x y (sym at.key_is) sets)) at.among

one_table : {X : Type 0} (key set : X → List ℕ) (remake : (x y : X) → key x ≡ key y → set x ≡ set y → x ≡ y) (xs ys : List X) → AscendBy key xs → AscendBy key ys
    → AllByRecursion (λ x. IsListedSet (set x)) xs → AllByRecursion (λ x. IsListedSet (set x)) ys
    → ((k : List ℕ) (n : ℕ) → HasEntry key set xs k n → HasEntry key set ys k n) → ((k : List ℕ) (n : ℕ) → HasEntry key set ys k n → HasEntry key set xs k n) → xs ≡ ys
one_table key set remake xs ys ascend_x ascend_y listed_x listed_y there back =
    one_list key xs ys ascend_x ascend_y (entry_in key set remake xs ys ascend_x ascend_y listed_x listed_y there back) (entry_in key set remake ys xs ascend_y ascend_x listed_y listed_x back there)

-- ---- cells, elements, calls

abbrev pub cell_set : SiteId × FieldId × List ℕ → List ℕ
cell_set c = c.2

abbrev pub elem_set : SiteId × List ℕ → List ℕ
elem_set e = e.1

two_heads : (a b c d : ℕ) → (let l : List ℕ = a ∷ b ∷ [] in l) ≡ c ∷ d ∷ [] → (a ≡ c) × (b ≡ d)
two_heads a b c d e = (cc, cc)

one_head : (a c : ℕ) → (let l : List ℕ = a ∷ [] in l) ≡ c ∷ [] → a ≡ c
one_head a c e = cc

remake_cell : (x y : SiteId × FieldId × List ℕ) → cell_key x ≡ cell_key y → cell_set x ≡ cell_set y → x ≡ y
remake_cell x y key set =
    let parts = two_heads x.0.0 x.1.0 y.0.0 y.1.0 key in
    ap (λ (n : ℕ). let t : SiteId × FieldId × List ℕ = (record { 0 = n }, x.1, x.2) in t) parts.0
    ∙ ap (λ (n : ℕ). let t : SiteId × FieldId × List ℕ = (y.0, record { 0 = n }, x.2) in t) parts.1
    ∙ ap (λ (l : List ℕ). let t : SiteId × FieldId × List ℕ = (y.0, y.1, l) in t) set

remake_elem : (x y : SiteId × List ℕ) → elem_key x ≡ elem_key y → elem_set x ≡ elem_set y → x ≡ y
remake_elem x y key set =
    ap (λ (n : ℕ). let t : SiteId × List ℕ = (record { 0 = n }, x.1) in t) (one_head x.0.0 y.0.0 key) ∙ ap (λ (l : List ℕ). let t : SiteId × List ℕ = (y.0, l) in t) set

remake_call : (x y : NodeId × MethodId) → call_key x ≡ call_key y → x ≡ y
remake_call x y key =
    let parts = two_heads x.0.0 x.1.0 y.0.0 y.1.0 key in
    ap (λ (n : ℕ). let t : NodeId × MethodId = (record { 0 = n }, x.1) in t) parts.0 ∙ ap (λ (n : ℕ). let t : NodeId × MethodId = (y.0, record { 0 = n }) in t) parts.1

cells_within : (a b : Facts) → SaysWithin (sets_of a) (sets_of b) → (k : List ℕ) (n : ℕ) → HasEntry cell_key cell_set a.cells k n → HasEntry cell_key cell_set b.cells k n
cells_within a b within k n has_it =
    let e = has_it.entry in let s = e.0.0 in let f = e.1.0 in
    let test = λ (c : SiteId × FieldId × List ℕ). (c.0.0 == s && c.1.0 == f) && has c.2 n in
    let here : test e ≡ true = and_both (e.0.0 == s && e.1.0 == f) (has e.2 n) (and_both (e.0.0 == s) (e.1.0 == f) (eq-eqb e.0.0 s refl) (eq-eqb e.1.0 f refl)) has_it.member in
    let found = any_among test b.cells (within.cell s f n (among_any test a.cells has_it.among.0 e has_it.among.1 here)) in
    let both = and_parts (found.0.0.0 == s && found.0.1.0 == f) (has found.0.2 n) found.2 in
    let numbers = and_parts (found.0.0.0 == s) (found.0.1.0 == f) both.0 in
    let same : cell_key found.0 ≡ cell_key e =
    ap (λ (m : ℕ). let l : List ℕ = m ∷ found.0.1.0 ∷ [] in l) (eqb-true found.0.0.0 s numbers.0) ∙ ap (λ (m : ℕ). let l : List ℕ = s ∷ m ∷ [] in l) (eqb-true found.0.1.0 f numbers.1) in
    record { entry = found.0; among = found.1; key_is = same ∙ has_it.key_is; member = both.1 }

elems_within : (a b : Facts) → SaysWithin (sets_of a) (sets_of b) → (k : List ℕ) (n : ℕ) → HasEntry elem_key elem_set a.elems k n → HasEntry elem_key elem_set b.elems k n
elems_within a b within k n has_it =
    let e = has_it.entry in let s = e.0.0 in
    let test = λ (c : SiteId × List ℕ). c.0.0 == s && has c.1 n in
    let here : test e ≡ true = and_both (e.0.0 == s) (has e.1 n) (eq-eqb e.0.0 s refl) has_it.member in
    let found = any_among test b.elems (within.elem s n (among_any test a.elems has_it.among.0 e has_it.among.1 here)) in
    let both = and_parts (found.0.0.0 == s) (has found.0.1 n) found.2 in
    record { entry = found.0; among = found.1; key_is = ap (λ (m : ℕ). let l : List ℕ = m ∷ [] in l) (eqb-true found.0.0.0 s both.0) ∙ has_it.key_is; member = both.1 }

calls_within : (a b : Facts) → SaysWithin (sets_of a) (sets_of b) → (x : NodeId × MethodId) → Among a.calls x → Among b.calls x
calls_within a b within x at =
    let n = x.0.0 in let m = x.1.0 in
    let test = λ (c : NodeId × MethodId). c.0.0 == n && c.1.0 == m in
    let here : test x ≡ true = and_both (x.0.0 == n) (x.1.0 == m) (eq-eqb x.0.0 n refl) (eq-eqb x.1.0 m refl) in
    let found = any_among test b.calls (within.call n m (among_any test a.calls at.0 x at.1 here)) in
    let numbers = and_parts (found.0.0.0 == n) (found.0.1.0 == m) found.2 in
    let same : call_key found.0 ≡ call_key x =
    ap (λ (k : ℕ). let l : List ℕ = k ∷ found.0.1.0 ∷ [] in l) (eqb-true found.0.0.0 n numbers.0) ∙ ap (λ (k : ℕ). let l : List ℕ = n ∷ k ∷ [] in l) (eqb-true found.0.1.0 m numbers.1) in
    subst (Among b.calls) (remake_call found.0 x same) found.1

-- ---- lists of sets

same_sets : (xs ys : List (List ℕ)) → length xs ≡ length ys → AllByRecursion IsAscending xs → AllByRecursion IsAscending ys → ((k n : ℕ) → set_at xs k n ≡ set_at ys k n) → xs ≡ ys
same_sets [] [] many a b same = refl
same_sets [] (y ∷ ys) many a b same = absurd (omega (arith, many))
same_sets (x ∷ xs) [] many a b same = absurd (omega (arith, many))
same_sets (x ∷ xs) (y ∷ ys) many a b same =
    let rest : length xs ≡ length ys = omega (arith, many) in
    ap (λ (l : List ℕ). l ∷ xs) (same_members x y a.0 b.0 (λ n. same 0 n)) ∙ ap (λ (l : List (List ℕ)). y ∷ l) (same_sets xs ys rest a.1 b.1 (λ k n. same (suc k) n))

-- ---- facts and summaries

facts_are : (a b : Facts) → a.regs ≡ b.regs → a.statics ≡ b.statics → a.cells ≡ b.cells → a.elems ≡ b.elems → a.calls ≡ b.calls → a.reached ≡ b.reached → a ≡ b
facts_are a b regs statics cells elems calls reached =
    ap (λ x. let f : Facts = record a { regs = x } in f) regs
    ∙ ap (λ x. let f : Facts = record a { regs = b.regs; statics = x } in f) statics
    ∙ ap (λ x. let f : Facts = record a { regs = b.regs; statics = b.statics; cells = x } in f) cells
    ∙ ap (λ x. let f : Facts = record b { elems = x; calls = a.calls; reached = a.reached } in f) elems
    ∙ ap (λ x. let f : Facts = record b { calls = x; reached = a.reached } in f) calls
    ∙ ap (λ x. let f : Facts = record b { reached = x } in f) reached

pub one_facts : (h : List ClassInfo) (p : RegProgram) (a b : Facts) → LeastFacts h p a → LeastFacts h p b → a ≡ b
one_facts h p a b one two =
    let there : SaysWithin (sets_of a) (sets_of b) = one.least.least (sets_of b) two.least.holds in
    let back : SaysWithin (sets_of b) (sets_of a) = two.least.least (sets_of a) one.least.holds in
    facts_are a b
    (same_sets a.regs b.regs (one.listed.regs ∙ sym two.listed.regs) one.listed.regs_ascend two.listed.regs_ascend (λ k n. same_test _ _ (there.reg k n) (back.reg k n)))
    (same_sets a.statics b.statics (one.listed.statics ∙ sym two.listed.statics) one.listed.statics_ascend two.listed.statics_ascend (λ k n. same_test _ _ (there.static k n) (back.static k n)))
    (one_table cell_key cell_set remake_cell a.cells b.cells one.listed.cells_ascend two.listed.cells_ascend one.listed.cells two.listed.cells (cells_within a b there) (cells_within b a back))
    (one_table elem_key elem_set remake_elem a.elems b.elems one.listed.elems_ascend two.listed.elems_ascend one.listed.elems two.listed.elems (elems_within a b there) (elems_within b a back))
    (one_list call_key a.calls b.calls one.listed.calls_ascend two.listed.calls_ascend (calls_within a b there) (calls_within b a back))
    (same_members a.reached b.reached one.listed.reached_ascends two.listed.reached_ascends (λ n. same_test _ _ (there.reached n) (back.reached n)))

mods_are : (a b : Mods) → a.fields ≡ b.fields → a.statics ≡ b.statics → a.elements ≡ b.elements → a.sites ≡ b.sites → a ≡ b
mods_are a b fields statics elements sites =
    ap (λ x. let k : Mods = record a { fields = x } in k) fields
    ∙ ap (λ x. let k : Mods = record b { statics = x; elements = a.elements; sites = a.sites } in k) statics
    ∙ ap (λ x. let k : Mods = record b { elements = x; sites = a.sites } in k) elements
    ∙ ap (λ x. let k : Mods = record b { sites = x } in k) sites

one_mods : (a b : Mods) → IsListedMods a → IsListedMods b → ((n : ℕ) → has a.fields n ≡ has b.fields n) → ((n : ℕ) → has a.statics n ≡ has b.statics n) → a.elements ≡ b.elements → ((n : ℕ) → has a.sites n ≡ has b.sites n) → a ≡ b
one_mods a b one two fields statics elements sites =
    mods_are a b (same_members a.fields b.fields one.fields two.fields fields) (same_members a.statics b.statics one.statics two.statics statics) elements
    (same_members a.sites b.sites one.sites two.sites sites)

-- two lists of summaries say the same of every method
pub record SumAlike (xs ys : List Mods) : Type 0 where
  pub fields : (m n : ℕ) → (sums_of xs).fields m n ≡ (sums_of ys).fields m n
  pub statics : (m n : ℕ) → (sums_of xs).statics m n ≡ (sums_of ys).statics m n
  pub elements : (m : ℕ) → (sums_of xs).elements m ≡ (sums_of ys).elements m
  pub sites : (m n : ℕ) → (sums_of xs).sites m n ≡ (sums_of ys).sites m n

same_sums : (xs ys : List Mods) → length xs ≡ length ys → AllByRecursion IsListedMods xs → AllByRecursion IsListedMods ys → SumAlike xs ys → xs ≡ ys
same_sums [] [] many a b same = refl
same_sums [] (y ∷ ys) many a b same = absurd (omega (arith, many))
same_sums (x ∷ xs) [] many a b same = absurd (omega (arith, many))
same_sums (x ∷ xs) (y ∷ ys) many a b same =
    let count : length xs ≡ length ys = omega (arith, many) in
    let first : x ≡ y = one_mods x y a.0 b.0 (same.fields 0) (same.statics 0) (same.elements 0) (same.sites 0) in
    let rest : xs ≡ ys = same_sums xs ys count a.1 b.1 (record { fields = λ m. same.fields (suc m); statics = λ m. same.statics (suc m); elements = λ m. same.elements (suc m); sites = λ m. same.sites (suc m) }) in
    ap (λ (k : Mods). k ∷ xs) first ∙ ap (λ (l : List Mods). y ∷ l) rest

pub one_summaries : (h : List ClassInfo) (p : RegProgram) (facts : Facts) (xs ys : List Mods) → LeastMods h p facts xs → LeastMods h p facts ys → xs ≡ ys
one_summaries h p facts xs ys one two =
    let there : SumsWithin (sums_of xs) (sums_of ys) = one.least.least (sums_of ys) two.least.holds in
    let back : SumsWithin (sums_of ys) (sums_of xs) = two.least.least (sums_of xs) one.least.holds in
    same_sums xs ys (one.count ∙ sym two.count) one.listed two.listed record {
      fields = λ m n. same_test _ _ (there.fields m n) (back.fields m n);
      statics = λ m n. same_test _ _ (there.statics m n) (back.statics m n);
      elements = λ m. same_test _ _ (there.elements m) (back.elements m);
      sites = λ m n. same_test _ _ (there.sites m n) (back.sites m n);
    }

-- ---- graph, alarms, producers

-- lists with exactly the members that a condition says, in order
listed_once : {X : Type 0} (key : X → List ℕ) (P : X → Type 0) (xs ys : List X) → AscendBy key xs → AscendBy key ys → ((x : X) → Among xs x ↔ P x) → ((x : X) → Among ys x ↔ P x) → xs ≡ ys
listed_once key P xs ys a b one two = one_list key xs ys a b (λ x m. (two x).1 ((one x).0 m)) (λ x m. (one x).1 ((two x).0 m))

pub one_graph : (h : List ClassInfo) (t : FactSets) (xs ys : List Edge) → IsGraph h t xs → IsGraph h t ys → xs ≡ ys
one_graph h t xs ys one two = listed_once edge_key _ xs ys one.ascend two.ascend one.edges_are two.edges_are

pub one_alarms : (h : List ClassInfo) (p : RegProgram) (edges : List Edge) (xs ys : List Alarm) → AreAlarms h p edges xs → AreAlarms h p edges ys → xs ≡ ys
one_alarms h p edges xs ys one two = listed_once alarm_key _ xs ys one.ascend two.ascend one.alarms_are two.alarms_are

pub one_producers : (h : List ClassInfo) (p : RegProgram) (t : FactSets) (e : Edge) (xs ys : List Producer) → AreProducers h p t e xs → AreProducers h p t e ys → xs ≡ ys
one_producers h p t e xs ys one two = listed_once producer_key _ xs ys one.ascend two.ascend one.producers_are two.producers_are
