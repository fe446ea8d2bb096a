-- The registers of launches and of Picks: by the exact methods of the harness nothing else sets them.
use Rattle.std.proofs.Common.{◌≡◌, ℕ, zero, suc, ◌+◌, ◌-◌, ◌<◌, ◌==◌, Bool, true, false, List, [], ◌∷◌, length, Option, None, Some, slice_get, refl, sym, ap, subst, arith, ◌∙◌, if◌then◌else◌}
use Rattle.std.specs.Prelude.{◌||◌}
use Rattle.std.specs.List.{AllByRecursion, list_any}
use Rattle.std.specs.Option.{option_or, option_map, option_and_then}
use Rattle.std.proofs.lemmas.Bool.{eqb-true, eq-eqb}
use Rattle.th_base.specs.declared.class.ClassInfo.{ClassInfo}
use Rattle.th_base.specs.declared.lifecycle.Lifecycle.{Lifecycle}
use Rattle.th_base.specs.declared.number.MethodId.{MethodId}
use Rattle.th_base.specs.declared.number.NodeId.{NodeId}
use Rattle.th_base.specs.declared.number.Reg.{Reg}
use Rattle.th_base.specs.Handlers.{Handler, takes_bundle, ChartRow}
use Rattle.th_base.specs.Hierarchy.{first_some}
use Rattle.th_ir.specs.declared.program.RegProgram.{RegProgram}
use Rattle.th_ir.specs.declared.program.Node.{Node}
use Rattle.th_ir.specs.declared.program.Site.{Site}
use Rattle.th_ir.specs.declared.stmt.CallKind.TheVariants.{Virtual}
use Rattle.th_ir.specs.declared.stmt.Stmt.{Stmt}
use Rattle.th_ir.specs.declared.stmt.Stmt.TheVariants.{Nop, Const, Null, Str, Copy, Arith, Neg, AddConst, Narrow, AnyInt, Assume, GetStatic, PutStatic, GetField, PutField, GetElem, PutElem, Length, New, NewArray, Cast, InstanceOf, Call, Init, Return, Pick, NonNull, Halt}
use Rattle.th_ir.specs.Program.{Among, node_at, is_ref, is_harness}
use Rattle.th_ir.specs.Fields.{stage_field}
use Rattle.th_ir.specs.Sites.{launch_class, launched_at}
use Rattle.th_ir.specs.Step.{launch_dst, launch_register}
use Rattle.th_ir.specs.Good.{picked_into, pick_register}
use Rattle.th_ir.specs.Harness.{to, HarnessMethod, Launches, Handles, HandlesAt, NodeList, Parts, launch_nodes, call_entries, handler_nodes, row_nodes, harness_node, StandFrom, HasNodes, IsApartObject, IsEventSite, CallsHandler, DoesThis, AreHarness}
use Rattle.th_ir.specs.Statements.{HasEntry, IsProper, IsOrdinary}
use Rattle.th_ir.specs.WellFormed.{IsWellFormed}
use Rattle.th_ir.proofs.Plain.{some_is, same_found, or_true, all_at, get_within}

-- ---- what is asked of each statement

-- a register of a method that is neither that of its launch nor that of its Pick
abbrev pub IsPlain : RegProgram → ℕ → ℕ → Type 0
IsPlain p m r = (launch_register p m ≡ Some r → ⊥) × (pick_register p m ≡ Some r → ⊥)

abbrev pub IsPlainResult : RegProgram → ℕ → Option Reg → Type 0
IsPlainResult p m None = Unit {0}
IsPlainResult p m (Some dst) = IsPlain p m dst.0

-- only a New at a site of launches sets the register of a launch, only a Pick that of a Pick, and a
-- stage is set only of the object in the latter
abbrev pub IsApart : RegProgram → ℕ → Stmt → Type 0
IsApart p m Nop = Unit {0}
IsApart p m (Const dst n) = IsPlain p m dst.0
IsApart p m (Null dst) = IsPlain p m dst.0
IsApart p m (Str dst site) = IsPlain p m dst.0
IsApart p m (Copy pairs) = AllByRecursion (λ (q : Reg × Reg). IsPlain p m q.0.0) pairs
IsApart p m (Arith dst op a b) = IsPlain p m dst.0
IsApart p m (Neg dst a) = IsPlain p m dst.0
IsApart p m (AddConst dst a n) = IsPlain p m dst.0
IsApart p m (Narrow dst op a) = IsPlain p m dst.0
IsApart p m (AnyInt dst) = IsPlain p m dst.0
IsApart p m (Assume condition) = Unit {0}
IsApart p m (GetStatic dst f) = IsPlain p m dst.0
IsApart p m (PutStatic f src) = Unit {0}
IsApart p m (GetField dst base f) = IsPlain p m dst.0
IsApart p m (PutField base f src) = f.0 ≡ stage_field → pick_register p m ≡ Some base.0
IsApart p m (GetElem dst array kind) = IsPlain p m dst.0
IsApart p m (PutElem array src) = Unit {0}
IsApart p m (Length dst array) = IsPlain p m dst.0
IsApart p m (New dst site) = (launch_register p m ≡ Some dst.0 → (k : ℕ) × (launch_class p site.0 ≡ Some k)) × (pick_register p m ≡ Some dst.0 → ⊥)
IsApart p m (NewArray dst site count) = IsPlain p m dst.0
IsApart p m (Cast dst src text) = IsPlain p m dst.0
IsApart p m (InstanceOf dst src text) = IsPlain p m dst.0
IsApart p m (Call dst kind k args) = IsPlainResult p m dst
IsApart p m (Init k) = Unit {0}
IsApart p m (Return src) = Unit {0}
IsApart p m (Pick dst k) = launch_register p m ≡ Some dst.0 → ⊥
IsApart p m (NonNull src) = Unit {0}
IsApart p m Halt = Unit {0}

-- ---- the nodes of a method of the harness

pub placed : (p : RegProgram) (m n k : ℕ) (nodes : NodeList) (x : Stmt × List NodeId) → StandFrom p m n nodes → slice_get nodes k ≡ Some x → node_at p (n + k) ≡ Some (harness_node m x.0 x.1)
placed p m n k [] x stand e = absurd cc
placed p m n zero (y ∷ nodes) x stand e =
    let here : n ≡ n + 0 = omega arith in
    ap (node_at p) (sym here) ∙ stand.0 ∙ ap (λ (z : Stmt × List NodeId). let o : Option Node = Some (harness_node m z.0 z.1) in o) (some_is y x e)
placed p m n (suc k) (y ∷ nodes) x stand e =
    let here : n + 1 + k ≡ n + suc k = omega arith in
    ap (node_at p) (sym here) ∙ placed p m (n + 1) k nodes x stand.1 e

-- what holds of each listed statement holds of each node of the method
nodes_all : (p : RegProgram) (m first : ℕ) (nodes : NodeList) (P : Stmt → Type 0) → HasNodes p m first nodes → AllByRecursion (λ (x : Stmt × List NodeId). P x.0) nodes → (n : ℕ) (node : Node) → node_at p n ≡ Some node → node.method.0 ≡ m → P node.stmt
nodes_all p m first nodes P has all n node e within =
    let bounds = has.only n node e within in
    let k = n - first in
    let inside : k < length nodes = omega (arith, bounds.0, bounds.1) in
    let place : first + k ≡ n = omega (arith, bounds.0) in
    let x = get_within nodes k inside in
    let same : harness_node m x.0.0 x.0.1 ≡ node = same_found (node_at p n) (harness_node m x.0.0 x.0.1) node (ap (node_at p) (sym place) ∙ placed p m first k nodes x.0 has.nodes_stand x.1) e in
    subst P (ap (λ (y : Node). y.stmt) same) (all_at (λ (y : Stmt × List NodeId). P y.0) nodes k x.0 all x.1)

-- ---- the register that a statement of the method gives

first_by : {X Y : Type 0} (f : X → Option Y) (x : X) (xs : List X) (y : Y) (o : Option Y) → f x ≡ o → option_or o (first_some f xs) ≡ Some y → (first_some f xs ≡ Some y → (k : ℕ) × (z : X) × (slice_get xs k ≡ Some z) × (f z ≡ Some y))
    → (k : ℕ) × (z : X) × (slice_get (x ∷ xs) k ≡ Some z) × (f z ≡ Some y)
first_by f x xs y None is e more = let m = more e in (suc m.0, m.1, m.2, m.3)
first_by f x xs y (Some z) is e more = (0, x, refl, is ∙ e)

first_from : {X Y : Type 0} (f : X → Option Y) (xs : List X) (y : Y) → first_some f xs ≡ Some y → (k : ℕ) × (x : X) × (slice_get xs k ≡ Some x) × (f x ≡ Some y)
first_from f [] y e = absurd cc
first_from f (x ∷ xs) y e = first_by f x xs y (f x) refl e (first_from f xs y)

either_first : {X Y : Type 0} (f : X → Option Y) (xs : List X) (o : Option Y) → (z : Y) × (first_some f xs ≡ Some z) → (z : Y) × (option_or o (first_some f xs) ≡ Some z)
either_first f xs None more = more
either_first f xs (Some v) more = (v, refl)

some_first : {X Y : Type 0} (f : X → Option Y) (xs : List X) (k : ℕ) (x : X) (y : Y) → slice_get xs k ≡ Some x → f x ≡ Some y → (z : Y) × (first_some f xs ≡ Some z)
some_first f [] k x y e is = absurd cc
some_first f (w ∷ xs) zero x y e is = (y, ap (λ o. option_or o (first_some f xs)) (ap f (some_is w x e) ∙ is))
some_first f (w ∷ xs) (suc k) x y e is = either_first f xs (f w) (some_first f xs k x y e is)

number_by : {A : Type 0} (k m : ℕ) (b : Bool) (o : Option A) (x : A) → (k == m) ≡ b → (if b then o else None) ≡ Some x → (k ≡ m) × (o ≡ Some x)
number_by k m true o x is e = (eqb-true k m is, e)
number_by k m false o x is e = absurd cc

pub record Gives (p : RegProgram) (f : Stmt → Option ℕ) (m r : ℕ) : Type 0 where
  pub number : ℕ
  pub node : Node
  pub stands : node_at p number ≡ Some node
  pub within : node.method.0 ≡ m
  pub gives : f node.stmt ≡ Some r

given : (p : RegProgram) (f : Stmt → Option ℕ) (m r : ℕ) → first_some (λ (n : Node). if n.method.0 == m then f n.stmt else None) p.nodes ≡ Some r → Gives p f m r
given p f m r e =
    let from = first_from (λ (n : Node). if n.method.0 == m then f n.stmt else None) p.nodes r e in
    let parts = number_by from.1.method.0 m (from.1.method.0 == m) (f from.1.stmt) r refl from.3 in
    record { number = from.0; node = from.1; stands = from.2; within = parts.0; gives = parts.1 }

-- only the listed statements give the register
given_in : (p : RegProgram) (f : Stmt → Option ℕ) (m first : ℕ) (nodes : NodeList) (P : ℕ → Type 0) → HasNodes p m first nodes → AllByRecursion (λ (x : Stmt × List NodeId). (r : ℕ) → f x.0 ≡ Some r → P r) nodes
    → (r : ℕ) → first_some (λ (n : Node). if n.method.0 == m then f n.stmt else None) p.nodes ≡ Some r → P r
given_in p f m first nodes P has all r e =
    let g = given p f m r e in nodes_all p m first nodes (λ (s : Stmt). (r : ℕ) → f s ≡ Some r → P r) has all g.number g.node g.stands g.within r g.gives

-- ---- launches

launch_no_pick : (p : RegProgram) (m c : ℕ) (q : Parts) → HasNodes p m q.first (launch_nodes c q) → (r : ℕ) → pick_register p m ≡ Some r → ⊥
launch_no_pick p m c q has r e = given_in p picked_into m q.first (launch_nodes c q) (λ (r : ℕ). ⊥) has ((λ r e. absurd cc), ((λ r e. absurd cc), ((λ r e. absurd cc), ((λ r e. absurd cc), tt)))) r e

launch_apart : (p : RegProgram) (m c : ℕ) (q : Parts) → launch_class p q.site.0 ≡ Some c → HasNodes p m q.first (launch_nodes c q) → (n : ℕ) (node : Node) → node_at p n ≡ Some node → node.method.0 ≡ m → IsApart p m node.stmt
launch_apart p m c q site has n node e within =
    nodes_all p m q.first (launch_nodes c q) (IsApart p m) has (tt, ((λ e. (c, site), launch_no_pick p m c q has q.object.0), (tt, (tt, tt)))) n node e within

-- ---- calls of handlers

-- what holds of the statements of either form of a call holds of those of a handler's
call_all : (P : Stmt → Type 0) (q : Parts) (n : ℕ) (b : Bool) → P (Null q.bundle) → P (New q.bundle q.event) → P (Call None Virtual q.callee (q.object ∷ q.bundle ∷ [])) → P (Call None Virtual q.callee (q.object ∷ [])) → P (Return None)
    → AllByRecursion (λ (x : Stmt × List NodeId). P x.0)
    (if b
    then (Null q.bundle, to (n + 2)) ∷ (New q.bundle q.event, to (n + 2)) ∷ (Call None Virtual q.callee (q.object ∷ q.bundle ∷ []), to (n + 3)) ∷ (Return None, []) ∷ []
    else (Call None Virtual q.callee (q.object ∷ []), to (n + 1)) ∷ (Return None, []) ∷ [])
call_all P q n true null new two one leave = (null, (new, (two, (leave, tt))))
call_all P q n false null new two one leave = (one, (leave, tt))

event_no_launch : (h : List ClassInfo) (p : RegProgram) (s : ℕ) → IsEventSite h p s → launch_class p s ≡ None
event_no_launch h p s e = ap (option_and_then (λ (site : Site). launched_at site.place)) e.stands ∙ ap launched_at e.place

bundle_no_launch : (p : RegProgram) (q : Parts) (r : ℕ) → launch_class p q.event.0 ≡ None → option_map (λ (c : ℕ). q.bundle.0) (launch_class p q.event.0) ≡ Some r → ⊥
bundle_no_launch p q r none e = let both = ap (option_map (λ (c : ℕ). q.bundle.0)) (sym none) ∙ e in cc

-- a method that calls a handler has no register of a launch, and its object's register is that of its Pick
pub record IsCallMethod (p : RegProgram) (m : ℕ) (q : Parts) : Type 0 where
  pub no_launch : (r : ℕ) → launch_register p m ≡ Some r → ⊥
  pub object : (r : ℕ) → pick_register p m ≡ Some r → r ≡ q.object.0
  pub picks : pick_register p m ≡ Some q.object.0

first_picks : (p : RegProgram) (m c : ℕ) (q : Parts) (next : List NodeId) → node_at p q.first ≡ Some (harness_node m (Pick q.object record { 0 = c }) next)
    → ((r : ℕ) → pick_register p m ≡ Some r → r ≡ q.object.0) → pick_register p m ≡ Some q.object.0
first_picks p m c q next stands object =
    let here : (if m == m then picked_into (Pick q.object record { 0 = c }) else None) ≡ Some q.object.0 =
    ap (λ (b : Bool). if b then picked_into (Pick q.object record { 0 = c }) else None) (eq-eqb m m refl) in
    let found = some_first (λ (n : Node). if n.method.0 == m then picked_into n.stmt else None) p.nodes q.first _ q.object.0 stands here in
    found.1 ∙ ap (λ (r : ℕ). let some : Option ℕ = Some r in some) (object found.0 found.1)

handler_method : (h : List ClassInfo) (p : RegProgram) (m c : ℕ) (k : Handler) (q : Parts) → CallsHandler h p k q → HasNodes p m q.first (handler_nodes c k q) → IsCallMethod p m q
handler_method h p m c k q calls has =
    let none = event_no_launch h p q.event.0 calls.event in
    let object : (r : ℕ) → pick_register p m ≡ Some r → r ≡ q.object.0 = given_in p picked_into m q.first (handler_nodes c k q) (λ (r : ℕ). r ≡ q.object.0) has (
      (λ r e. sym (some_is q.object.0 r e)),
      call_all (λ (s : Stmt). (r : ℕ) → picked_into s ≡ Some r → r ≡ q.object.0) q (q.first + 1) (takes_bundle k) (λ r e. absurd cc) (λ r e. absurd cc) (λ r e. absurd cc) (λ r e. absurd cc) (λ r e. absurd cc),
    ) in
    record {
      no_launch = given_in p (launch_dst p) m q.first (handler_nodes c k q) (λ (r : ℕ). ⊥) has (
        (λ r e. absurd cc),
        call_all (λ (s : Stmt). (r : ℕ) → launch_dst p s ≡ Some r → ⊥) q (q.first + 1) (takes_bundle k) (λ r e. absurd cc) (λ r e. bundle_no_launch p q r none e) (λ r e. absurd cc) (λ r e. absurd cc) (λ r e. absurd cc),
      );
      object = object;
      picks = first_picks p m c q (call_entries k (q.first + 1)) has.nodes_stand.0 object;
    }

row_method : (h : List ClassInfo) (p : RegProgram) (m c : ℕ) (row : ChartRow) (q : Parts) → CallsHandler h p row.handler q → HasNodes p m q.first (row_nodes c row q) → IsCallMethod p m q
row_method h p m c row q calls has =
    let none = event_no_launch h p q.event.0 calls.event in
    let P = λ (s : Stmt). (r : ℕ) → picked_into s ≡ Some r → r ≡ q.object.0 in
    let Q = λ (s : Stmt). (r : ℕ) → launch_dst p s ≡ Some r → ⊥ in
    let picks = call_all P q (q.first + 5) (takes_bundle row.handler) (λ r e. absurd cc) (λ r e. absurd cc) (λ r e. absurd cc) (λ r e. absurd cc) (λ r e. absurd cc) in
    let launches = call_all Q q (q.first + 5) (takes_bundle row.handler) (λ r e. absurd cc) (λ r e. bundle_no_launch p q r none e) (λ r e. absurd cc) (λ r e. absurd cc) (λ r e. absurd cc) in
    let object : (r : ℕ) → pick_register p m ≡ Some r → r ≡ q.object.0 = given_in p picked_into m q.first (row_nodes c row q) (λ (r : ℕ). r ≡ q.object.0) has
    ((λ r e. sym (some_is q.object.0 r e)), ((λ r e. absurd cc), ((λ r e. absurd cc), ((λ r e. absurd cc), ((λ r e. absurd cc), picks))))) in
    record {
      no_launch = given_in p (launch_dst p) m q.first (row_nodes c row q) (λ (r : ℕ). ⊥) has ((λ r e. absurd cc), ((λ r e. absurd cc), ((λ r e. absurd cc), ((λ r e. absurd cc), ((λ r e. absurd cc), launches)))));
      object = object;
      picks = first_picks p m c q (to (q.first + 1)) has.nodes_stand.0 object;
    }

plain_by : (p : RegProgram) (m r : ℕ) (q : Parts) → IsCallMethod p m q → (q.object.0 ≡ r → ⊥) → IsPlain p m r
plain_by p m r q is apart = (is.no_launch r, λ e. apart (sym (is.object r e)))

call_apart : (p : RegProgram) (m n : ℕ) (b : Bool) (q : Parts) → IsApartObject q → IsCallMethod p m q → AllByRecursion (λ (x : Stmt × List NodeId). IsApart p m x.0)
    (if b
    then (Null q.bundle, to (n + 2)) ∷ (New q.bundle q.event, to (n + 2)) ∷ (Call None Virtual q.callee (q.object ∷ q.bundle ∷ []), to (n + 3)) ∷ (Return None, []) ∷ []
    else (Call None Virtual q.callee (q.object ∷ []), to (n + 1)) ∷ (Return None, []) ∷ [])
call_apart p m n b q apart is =
    let bundle = plain_by p m q.bundle.0 q is apart.bundle in
    call_all (IsApart p m) q n b bundle (λ e. absurd (bundle.0 e), bundle.1) tt tt tt

-- ---- every method of the harness

method_apart : (h : List ClassInfo) (p : RegProgram) (m : ℕ) (q : Parts) (k : HarnessMethod) → IsApartObject q → DoesThis h p m q k → (n : ℕ) (node : Node) → node_at p n ≡ Some node → node.method.0 ≡ m → IsApart p m node.stmt
method_apart h p m q (Launches c) apart is = launch_apart p m c q is.0 is.2
method_apart h p m q (Handles c k) apart is =
    let call = handler_method h p m c k q is.0 is.1 in
    nodes_all p m q.first (handler_nodes c k q) (IsApart p m) is.1 (call.no_launch q.object.0, call_apart p m (q.first + 1) (takes_bundle k) q apart call)
method_apart h p m q (HandlesAt c row) apart is =
    let call = row_method h p m c row q is.0 is.1 in
    nodes_all p m q.first (row_nodes c row q) (IsApart p m) is.1
    (call.no_launch q.object.0, (plain_by p m q.stage.0 q call apart.stage, (tt, (plain_by p m q.next_stage.0 q call apart.next_stage, ((λ e. call.picks), call_apart p m (q.first + 5) (takes_bundle row.handler) q apart call)))))

-- the method has nodes of its own, and its entry is one of them
method_entry : (h : List ClassInfo) (p : RegProgram) (m : ℕ) (q : Parts) (k : HarnessMethod) → DoesThis h p m q k → HasEntry p m
method_entry h p m q (Launches c) is = let n = is.2 in record { method = n.method; stands = n.stands; node = _; entry = ap (node_at p) n.entry ∙ n.nodes_stand.0; within = refl }
method_entry h p m q (Handles c k) is = let n = is.1 in record { method = n.method; stands = n.stands; node = _; entry = ap (node_at p) n.entry ∙ n.nodes_stand.0; within = refl }
method_entry h p m q (HandlesAt c row) is = let n = is.1 in record { method = n.method; stands = n.stands; node = _; entry = ap (node_at p) n.entry ∙ n.nodes_stand.0; within = refl }

pub record IsOneOf (h : List ClassInfo) (p : RegProgram) (m : ℕ) : Type 0 where
  pub kind : HarnessMethod
  pub parts : Parts
  pub apart : IsApartObject parts
  pub does : DoesThis h p m parts kind

one_of : (h : List ClassInfo) (p : RegProgram) (m at : ℕ) (b : Bool) (x : MethodId) (xs : List MethodId) (k : HarnessMethod) (ks : List HarnessMethod) → (x.0 == m) ≡ b → (b || list_any (λ y. y.0 == m) xs) ≡ true → AreHarness h p at (k ∷ ks) (x ∷ xs)
    → (list_any (λ y. y.0 == m) xs ≡ true → IsOneOf h p m) → IsOneOf h p m
one_of h p m at true x xs k ks is e all more =
    let number : at ≡ m = sym all.0 ∙ eqb-true x.0 m is in
    record { kind = k; parts = all.1.0; apart = all.1.1; does = subst (λ (n : ℕ). DoesThis h p n all.1.0 k) number all.1.2 }
one_of h p m at false x xs k ks is e all more = more e

member : (h : List ClassInfo) (p : RegProgram) (m at : ℕ) (ks : List HarnessMethod) (xs : List MethodId) → AreHarness h p at ks xs → list_any (λ y. y.0 == m) xs ≡ true → IsOneOf h p m
member h p m at [] [] all e = absurd cc
member h p m at [] (x ∷ xs) all e = absurd all
member h p m at (k ∷ ks) [] all e = absurd all
member h p m at (k ∷ ks) (x ∷ xs) all e = one_of h p m at (x.0 == m) x xs k ks refl e all (λ more. member h p m (at + 1) ks xs all.2 more)

pub listed_harness : (k : ℕ) (ms : List MethodId) (m : MethodId) → slice_get ms k ≡ Some m → list_any (λ x. x.0 == m.0) ms ≡ true
listed_harness k [] m e = absurd cc
listed_harness zero (x ∷ ms) m e = let same : x.0 ≡ m.0 = ap (λ (y : MethodId). y.0) (some_is x m e) in rw (eq-eqb x.0 m.0 same) refl
listed_harness (suc k) (x ∷ ms) m e = rw (listed_harness k ms m e) (or_true (x.0 == m.0))

-- ---- other methods

ordinary_launch : (p : RegProgram) (r : ℕ) (s : Stmt) → IsOrdinary p s → launch_dst p s ≡ Some r → ⊥
ordinary_launch p r (New dst site) is e = let both = ap (option_map (λ (c : ℕ). dst.0)) (sym is) ∙ e in cc
ordinary_launch p r s is e = cc

ordinary_pick : (p : RegProgram) (r : ℕ) (s : Stmt) → IsOrdinary p s → picked_into s ≡ Some r → ⊥
ordinary_pick p r (Pick dst k) is e = is
ordinary_pick p r s is e = cc

all_plain : (p : RegProgram) (m : ℕ) → ((r : ℕ) → IsPlain p m r) → (pairs : List (Reg × Reg)) → AllByRecursion (λ (q : Reg × Reg). IsPlain p m q.0.0) pairs
all_plain p m plain [] = tt
all_plain p m plain (q ∷ pairs) = (plain q.0.0, all_plain p m plain pairs)

ordinary_apart : (p : RegProgram) (m : ℕ) (s : Stmt) → ((r : ℕ) → IsPlain p m r) → IsOrdinary p s → IsApart p m s
ordinary_apart p m Nop plain is = tt
ordinary_apart p m (Const dst n) plain is = plain dst.0
ordinary_apart p m (Null dst) plain is = plain dst.0
ordinary_apart p m (Str dst site) plain is = plain dst.0
ordinary_apart p m (Copy pairs) plain is = all_plain p m plain pairs
ordinary_apart p m (Arith dst op a b) plain is = plain dst.0
ordinary_apart p m (Neg dst a) plain is = plain dst.0
ordinary_apart p m (AddConst dst a n) plain is = plain dst.0
ordinary_apart p m (Narrow dst op a) plain is = plain dst.0
ordinary_apart p m (AnyInt dst) plain is = plain dst.0
ordinary_apart p m (Assume condition) plain is = tt
ordinary_apart p m (GetStatic dst f) plain is = plain dst.0
ordinary_apart p m (PutStatic f src) plain is = tt
ordinary_apart p m (GetField dst base f) plain is = plain dst.0
ordinary_apart p m (PutField base f src) plain is = λ e. absurd (is e)
ordinary_apart p m (GetElem dst array kind) plain is = plain dst.0
ordinary_apart p m (PutElem array src) plain is = tt
ordinary_apart p m (Length dst array) plain is = plain dst.0
ordinary_apart p m (New dst site) plain is = (λ e. absurd ((plain dst.0).0 e), (plain dst.0).1)
ordinary_apart p m (NewArray dst site count) plain is = plain dst.0
ordinary_apart p m (Cast dst src text) plain is = plain dst.0
ordinary_apart p m (InstanceOf dst src text) plain is = plain dst.0
ordinary_apart p m (Call None kind k args) plain is = tt
ordinary_apart p m (Call (Some dst) kind k args) plain is = plain dst.0
ordinary_apart p m (Init k) plain is = tt
ordinary_apart p m (Return src) plain is = tt
ordinary_apart p m (Pick dst k) plain is = absurd is
ordinary_apart p m (NonNull src) plain is = tt
ordinary_apart p m Halt plain is = tt

ordinary_plain : (h : List ClassInfo) (p : RegProgram) (m : ℕ) → IsWellFormed h p → is_harness p m ≡ false → (r : ℕ) → IsPlain p m r
ordinary_plain h p m wf own r = (
  λ e. let g = given p (launch_dst p) m r e in ordinary_launch p r g.node.stmt (wf.harness.others g.number g.node g.stands (ap (is_harness p) g.within ∙ own)) g.gives,
  λ e. let g = given p picked_into m r e in ordinary_pick p r g.node.stmt (wf.harness.others g.number g.node g.stands (ap (is_harness p) g.within ∙ own)) g.gives,
)

-- ---- of a well-formed program

apart_by : (h : List ClassInfo) (p : RegProgram) → IsWellFormed h p → (n : ℕ) (node : Node) (b : Bool) → is_harness p node.method.0 ≡ b → node_at p n ≡ Some node → IsApart p node.method.0 node.stmt
apart_by h p wf n node true is e =
    let one = member h p node.method.0 _ _ p.harness wf.harness.methods is in method_apart h p node.method.0 one.parts one.kind one.apart one.does n node e refl
apart_by h p wf n node false is e = ordinary_apart p node.method.0 node.stmt (ordinary_plain h p node.method.0 wf is) (wf.harness.others n node e is)

pub node_apart : (h : List ClassInfo) (p : RegProgram) → IsWellFormed h p → (n : ℕ) (node : Node) → node_at p n ≡ Some node → IsApart p node.method.0 node.stmt
node_apart h p wf n node e = apart_by h p wf n node (is_harness p node.method.0) refl e

pub harness_entry : (h : List ClassInfo) (p : RegProgram) → IsWellFormed h p → (m : MethodId) → Among p.harness m → HasEntry p m.0
harness_entry h p wf m among =
    let one = member h p m.0 _ _ p.harness wf.harness.methods (listed_harness among.0 p.harness m among.1) in method_entry h p m.0 one.parts one.kind one.does

launch_ref : (h : List ClassInfo) (p : RegProgram) (r : ℕ) (s : Stmt) → IsProper h p s → launch_dst p s ≡ Some r → is_ref p r ≡ true
launch_ref h p r (New dst site) proper e = by_class (launch_class p site.0) e
  where
    by_class : (o : Option ℕ) → option_map (λ (c : ℕ). dst.0) o ≡ Some r → is_ref p r ≡ true
    by_class None e = absurd cc
    by_class (Some c) e = subst (λ (x : ℕ). is_ref p x ≡ true) (some_is dst.0 r e) proper.0
launch_ref h p r s proper e = absurd cc

pick_ref : (h : List ClassInfo) (p : RegProgram) (r : ℕ) (s : Stmt) → IsProper h p s → picked_into s ≡ Some r → is_ref p r ≡ true
pick_ref h p r (Pick dst k) proper e = subst (λ (x : ℕ). is_ref p x ≡ true) (some_is dst.0 r e) proper.0
pick_ref h p r s proper e = absurd cc

-- a method with the register of a launch, or of a Pick, is one of the harness; the register holds references
pub record IsSpecial (p : RegProgram) (m r : ℕ) : Type 0 where
  pub harness : is_harness p m ≡ true
  pub ref : is_ref p r ≡ true

own_by : (h : List ClassInfo) (p : RegProgram) → IsWellFormed h p → (m r : ℕ) (b : Bool) → is_harness p m ≡ b → (IsPlain p m r → ⊥) → is_harness p m ≡ true
own_by h p wf m r true is not_plain = is
own_by h p wf m r false is not_plain = absurd (not_plain (ordinary_plain h p m wf is r))

pub launch_special : (h : List ClassInfo) (p : RegProgram) → IsWellFormed h p → (m r : ℕ) → launch_register p m ≡ Some r → IsSpecial p m r
launch_special h p wf m r e =
    let g = given p (launch_dst p) m r e in
    record { harness = own_by h p wf m r (is_harness p m) refl (λ plain. plain.0 e); ref = launch_ref h p r g.node.stmt (wf.nodes.statements g.number g.node g.stands) g.gives }

pub pick_special : (h : List ClassInfo) (p : RegProgram) → IsWellFormed h p → (m r : ℕ) → pick_register p m ≡ Some r → IsSpecial p m r
pick_special h p wf m r e =
    let g = given p picked_into m r e in
    record { harness = own_by h p wf m r (is_harness p m) refl (λ plain. plain.1 e); ref = pick_ref h p r g.node.stmt (wf.nodes.statements g.number g.node g.stands) g.gives }
