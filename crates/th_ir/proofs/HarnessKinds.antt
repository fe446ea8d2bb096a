-- The first nodes of a method of the harness tell what it does.
use Rattle.std.proofs.Common.{◌≡◌, ℕ, zero, suc, ◌+◌, ◌-◌, ◌<◌, ◌≤◌, ◌==◌, ◌↔◌, Bool, true, false, List, [], ◌∷◌, ◌++◌, length, drop, Option, None, Some, slice_get, map, flat_map, refl, sym, ap, subst, arith, ◌∙◌, if◌then◌else◌}
use Rattle.std.specs.Prelude.{◌||◌, is_some, nat_lt}
use Rattle.std.specs.List.{AllByRecursion, list_any}
use Rattle.std.specs.Option.{option_or, option_map, option_and_then}
use Rattle.std.proofs.lemmas.Bool.{eqb-true, ltb-true, ltb-false}
use Rattle.std.proofs.lemmas.Option.{slice_get_past, slice_get_within, get_or_from_slice_get}
use Rattle.std.proofs.Math.Seq.{drop-cons}
use Rattle.th_base.specs.declared.class.ClassInfo.{ClassInfo}
use Rattle.th_base.specs.declared.class.MethodInfo.{MethodInfo}
use Rattle.th_base.specs.declared.lifecycle.Lifecycle.{Lifecycle}
use Rattle.th_base.specs.declared.lifecycle.Lifecycle.TheVariants.{Any, Chart}
use Rattle.th_base.specs.declared.number.ClassId.{ClassId}
use Rattle.th_base.specs.declared.number.MethodId.{MethodId}
use Rattle.th_base.specs.declared.number.NodeId.{NodeId}
use Rattle.th_base.specs.BuiltIn.{built_in_classes}
use Rattle.th_base.specs.Handlers.{Handler, handlers, takes_bundle, ChartRow, chart}
use Rattle.th_base.specs.Hierarchy.{first_some, declared_method}
use Rattle.th_base.specs.Launchable.{launchable}
use Rattle.th_ir.specs.declared.harness.HarnessKind.{HarnessKind}
use Rattle.th_ir.specs.declared.harness.HarnessKind.TheVariants.{Launch, Handler as Handle}
use Rattle.th_ir.specs.declared.program.RegProgram.{RegProgram}
use Rattle.th_ir.specs.declared.program.Method.{Method}
use Rattle.th_ir.specs.declared.program.Node.{Node}
use Rattle.th_ir.specs.declared.stmt.Stmt.{Stmt}
use Rattle.th_ir.specs.Program.{method_at, node_at, is_harness}
use Rattle.th_ir.specs.Calls.{owned_methods, declared_at}
use Rattle.th_ir.specs.Harness.{HarnessMethod, Launches, Handles, HandlesAt, handled_by, harness_methods, NodeList, Parts, launch_nodes, handler_nodes, row_nodes, call_nodes, StandFrom, HasNodes, IsDeclared, DoesThis, AreHarness, HasHarness}
use Rattle.th_ir.specs.HarnessKinds.{IsHandled, Says, IsHarnessKind, called_in, called_by, handler_of, kind_by, kind_from, kind_found}
use Rattle.th_ir.specs.WellFormed.{IsWellFormed}
use Rattle.th_ir.proofs.Apart.{listed_harness}
use Rattle.th_ir.proofs.Plain.{some_is, not_both, all_at, all_append, get_within}

-- ---- places in the lists

-- the method at a place of the harness, and what it does
record IsAt (h : List ClassInfo) (p : RegProgram) (m : ℕ) (x : MethodId) (does : HarnessMethod) : Type 0 where
  pub number : x.0 ≡ m
  pub parts : Parts
  pub does_this : DoesThis h p m parts does

at_harness : (h : List ClassInfo) (p : RegProgram) (m : ℕ) (ks : List HarnessMethod) (xs : List MethodId) (place : ℕ) (x : MethodId) (does : HarnessMethod)
    → AreHarness h p m ks xs → slice_get xs place ≡ Some x → slice_get ks place ≡ Some does → IsAt h p (m + place) x does
at_harness h p m [] [] place x does all is stands = absurd cc
at_harness h p m [] (y ∷ xs) place x does all is stands = absurd all
at_harness h p m (k ∷ ks) [] place x does all is stands = absurd all
at_harness h p m (k ∷ ks) (y ∷ xs) zero x does all is stands =
    let first : IsAt h p m y k = record { number = all.0; parts = all.1.0; does_this = all.1.2 } in
    let here : m ≡ m + 0 = omega arith in
    subst (λ (n : ℕ). IsAt h p n x does) here (subst (λ (z : MethodId). IsAt h p m z does) (some_is y x is) (subst (λ (d : HarnessMethod). IsAt h p m y d) (some_is k does stands) first))
at_harness h p m (k ∷ ks) (y ∷ xs) (suc place) x does all is stands =
    let here : m + 1 + place ≡ m + suc place = omega arith in
    subst (λ (n : ℕ). IsAt h p n x does) here (at_harness h p (m + 1) ks xs place x does all.2 is stands)

-- as many methods are listed as the harness has
same_length : (h : List ClassInfo) (p : RegProgram) (m : ℕ) (ks : List HarnessMethod) (xs : List MethodId) → AreHarness h p m ks xs → length ks ≡ length xs
same_length h p m [] [] all = refl
same_length h p m [] (y ∷ xs) all = absurd all
same_length h p m (k ∷ ks) [] all = absurd all
same_length h p m (k ∷ ks) (y ∷ xs) all = ap suc (same_length h p (m + 1) ks xs all.2)

drop_at : {A : Type 0} (xs : List A) (k : ℕ) (x : A) → slice_get xs k ≡ Some x → drop k xs ≡ x ∷ drop (k + 1) xs
drop_at xs k x is =
    let next : suc k ≡ k + 1 = omega arith in
    drop-cons xs k x (slice_get_within xs k x is) ∙ ap (λ z. z ∷ drop (suc k) xs) (get_or_from_slice_get xs k x x is) ∙ ap (λ (n : ℕ). x ∷ drop n xs) next

-- ---- the call of a handler

abbrev pub called_of : NodeList → Option MethodId
called_of nodes = first_some (λ (x : Stmt × List NodeId). called_in x.0) nodes

first_is : (o rest other : Option MethodId) (c : MethodId) → option_or o rest ≡ Some c → (rest ≡ Some c → other ≡ Some c) → option_or o other ≡ Some c
first_is None rest other c e more = more e
first_is (Some x) rest other c e more = e

called_from : (p : RegProgram) (m n : ℕ) (nodes : NodeList) (c : MethodId) → StandFrom p m n nodes → called_of nodes ≡ Some c → first_some called_by (drop n p.nodes) ≡ Some c
called_from p m n [] c stand e = absurd cc
called_from p m n (x ∷ nodes) c stand e =
    ap (first_some called_by) (drop_at p.nodes n _ stand.0)
    ∙ first_is (called_in x.0) (called_of nodes) (first_some called_by (drop (n + 1) p.nodes)) c e (called_from p m (n + 1) nodes c stand.1)

either_calls : (b : Bool) (xs ys : NodeList) (c : MethodId) → called_of xs ≡ Some c → called_of ys ≡ Some c → called_of (if b then xs else ys) ≡ Some c
either_calls true xs ys c one other = one
either_calls false xs ys c one other = other

calls_handler : (k : Handler) (q : Parts) (n : ℕ) → called_of (call_nodes k q n) ≡ Some q.callee
calls_handler k q n = either_calls (takes_bundle k) _ _ q.callee refl refl

-- the method of Activity for a handler is that many after the first
declared_number : (h files : List ClassInfo) (name descriptor : List ℕ) (m : MethodId) (n : ℕ) (info : MethodInfo) → h ≡ built_in_classes ++ files
    → declared_method (built_in_classes ++ files) name descriptor 10 ≡ Some info → info.id.0 ≡ n → IsDeclared h 10 name descriptor m.0 → m.0 ≡ n
declared_number h files name descriptor m n info built is number declared =
    let own = subst (λ (x : List ClassInfo). declared_method x name descriptor 10 ≡ Some declared.info) built declared.declared in
    sym declared.number ∙ ap (λ (i : MethodInfo). i.id.0) (some_is declared.info info (sym own ∙ is)) ∙ number

place_of : (m : MethodId) (n place : ℕ) → m.0 ≡ n → handler_of record { 0 = n } ≡ Some place → handler_of m ≡ Some place
place_of m n place number e = subst (λ (k : ℕ). handler_of record { 0 = k } ≡ Some place) (sym number) e

numbered : (h files : List ClassInfo) (m : MethodId) (n place : ℕ) (k handler : Handler) (info : MethodInfo) → h ≡ built_in_classes ++ files
    → slice_get handlers place ≡ Some k → slice_get handlers place ≡ Some handler
    → declared_method (built_in_classes ++ files) handler.name handler.descriptor 10 ≡ Some info → info.id.0 ≡ n → handler_of record { 0 = n } ≡ Some place
    → IsDeclared h 10 k.name k.descriptor m.0 → handler_of m ≡ Some place
numbered h files m n place k handler info built is stands found number e declared =
    let own = subst (λ (x : Handler). IsDeclared h 10 x.name x.descriptor m.0) (some_is k handler (sym is ∙ stands)) declared in
    place_of m n place (declared_number h files handler.name handler.descriptor m n info built found number own) e

handler_number : (h files : List ClassInfo) (m : MethodId) (place : ℕ) (k : Handler) → h ≡ built_in_classes ++ files → slice_get handlers place ≡ Some k
    → IsDeclared h 10 k.name k.descriptor m.0 → handler_of m ≡ Some place
handler_number h files m zero k built is declared = numbered h files m 9 0 k _ _ built is refl refl refl refl declared
handler_number h files m (suc zero) k built is declared = numbered h files m 10 1 k _ _ built is refl refl refl refl declared
handler_number h files m (suc (suc zero)) k built is declared = numbered h files m 11 2 k _ _ built is refl refl refl refl declared
handler_number h files m (suc (suc (suc zero))) k built is declared = numbered h files m 12 3 k _ _ built is refl refl refl refl declared
handler_number h files m (suc (suc (suc (suc zero)))) k built is declared = numbered h files m 13 4 k _ _ built is refl refl refl refl declared
handler_number h files m (suc (suc (suc (suc (suc zero))))) k built is declared = numbered h files m 14 5 k _ _ built is refl refl refl refl declared
handler_number h files m (suc (suc (suc (suc (suc (suc zero)))))) k built is declared = numbered h files m 15 6 k _ _ built is refl refl refl refl declared
handler_number h files m (suc (suc (suc (suc (suc (suc (suc zero))))))) k built is declared = numbered h files m 16 7 k _ _ built is refl refl refl refl declared
handler_number h files m (suc (suc (suc (suc (suc (suc (suc (suc place)))))))) k built is declared = absurd cc

-- ---- what the nodes tell

-- the kind that a method without a class gives, by its first node
kind_given : (p : RegProgram) (m first : ℕ) (nodes : NodeList) (stmt : Stmt) (next : List NodeId) (kind : HarnessKind) → HasNodes p m first ((stmt, next) ∷ nodes)
    → kind_by stmt (drop (first + 1) p.nodes) ≡ Some kind → kind_found p m ≡ Some kind
kind_given p m first nodes stmt next kind has e =
    let from : kind_from (drop first p.nodes) ≡ Some kind = ap kind_from (drop_at p.nodes first _ has.nodes_stand.0) ∙ e in
    ap (λ (x : Option Method). option_and_then (λ (y : Method). if is_some y.owner then None else kind_from (drop y.entry.0 p.nodes)) x) has.stands
    ∙ ap (λ o. if is_some o then None else kind_from (drop has.method.entry.0 p.nodes)) has.owner
    ∙ ap (λ (n : ℕ). kind_from (drop n p.nodes)) has.entry
    ∙ from

handled : (c place : ℕ) (called : Option MethodId) (m : MethodId) (kind : HarnessKind) → called ≡ Some m → handler_of m ≡ Some place → kind ≡ Handle record { 0 = c } place
    → option_map (λ k. Handle record { 0 = c } k) (option_and_then handler_of called) ≡ Some kind
handled c place called m kind calls number is =
    ap (λ (o : Option MethodId). option_map (λ k. Handle record { 0 = c } k) (option_and_then handler_of o)) calls
    ∙ ap (λ (o : Option ℕ). option_map (λ k. Handle record { 0 = c } k) o) number
    ∙ ap Some (sym is)

abbrev pub rest_of : NodeList → NodeList
rest_of [] = []
rest_of (x ∷ nodes) = nodes

kind_does : (h files : List ClassInfo) (p : RegProgram) (m : ℕ) (q : Parts) (does : HarnessMethod) (kind : HarnessKind) → h ≡ built_in_classes ++ files
    → DoesThis h p m q does → Says does kind → kind_found p m ≡ Some kind
kind_does h files p m q (Launches c) kind built does says = kind_given p m q.first _ _ _ kind does.2 (ap Some (sym says))
kind_does h files p m q (Handles c k) kind built does says =
    let called = called_from p m (q.first + 1) (call_nodes k q (q.first + 1)) q.callee does.1.nodes_stand.1 (calls_handler k q (q.first + 1)) in
    let number = handler_number h files q.callee says.place k built says.stands does.0.callee in
    kind_given p m q.first _ _ _ kind does.1 (handled c says.place _ q.callee kind called number says.kind_is)
kind_does h files p m q (HandlesAt c row) kind built does says =
    let called = called_from p m (q.first + 1) (rest_of (row_nodes c row q)) q.callee does.1.nodes_stand.1 (calls_handler row.handler q (q.first + 5)) in
    let number = handler_number h files q.callee says.place row.handler built says.stands does.0.callee in
    kind_given p m q.first _ _ _ kind does.1 (handled c says.place _ q.callee kind called number says.kind_is)

-- ---- each method of the harness has a kind

all_mapped : {A B : Type 0} (P : B → Type 0) (f : A → B) → ((x : A) → P (f x)) → (xs : List A) → AllByRecursion P (map f xs)
all_mapped P f each [] = tt
all_mapped P f each (x ∷ xs) = (each x, all_mapped P f each xs)

all_flat : {A B : Type 0} (P : B → Type 0) (f : A → List B) → ((x : A) → AllByRecursion P (f x)) → (xs : List A) → AllByRecursion P (flat_map f xs)
all_flat P f each [] = tt
all_flat P f each (x ∷ xs) = all_append P (f x) (flat_map f xs) (each x) (all_flat P f each xs)

said : (c : ℕ) (k : Handler) (place : ℕ) → slice_get handlers place ≡ Some k → (kind : HarnessKind) × IsHandled c k kind
said c k place is = (Handle record { 0 = c } place, record { place = place; stands = is; kind_is = refl })

all_handled : (lifecycle : Lifecycle) (c : ℕ) → AllByRecursion (λ does. (kind : HarnessKind) × Says does kind) (handled_by lifecycle c)
all_handled Any c = (said c _ 0 refl, (said c _ 1 refl, (said c _ 2 refl, (said c _ 3 refl, (said c _ 4 refl, (said c _ 5 refl, (said c _ 6 refl, (said c _ 7 refl, tt))))))))
all_handled Chart c =
    (said c _ 0 refl, (said c _ 1 refl, (said c _ 1 refl, (said c _ 3 refl, (said c _ 3 refl, (said c _ 4 refl, (said c _ 5 refl, (said c _ 2 refl, (said c _ 6 refl, (said c _ 7 refl, (said c _ 7 refl, tt)))))))))))

all_kinds : (h : List ClassInfo) (lifecycle : Lifecycle) → AllByRecursion (λ does. (kind : HarnessKind) × Says does kind) (harness_methods h lifecycle)
all_kinds h lifecycle =
    all_append (λ does. (kind : HarnessKind) × Says does kind) (map Launches (launchable h)) (flat_map (handled_by lifecycle) (launchable h))
    (all_mapped (λ does. (kind : HarnessKind) × Says does kind) Launches (λ c. (Launch record { 0 = c }, refl)) (launchable h))
    (all_flat (λ does. (kind : HarnessKind) × Says does kind) (handled_by lifecycle) (all_handled lifecycle) (launchable h))

-- ---- both directions

pub kind_stands : (h : List ClassInfo) (p : RegProgram) (m : ℕ) (kind : HarnessKind) → IsWellFormed h p → IsHarnessKind h p m kind → kind_found p m ≡ Some kind
kind_stands h p m kind wf k =
    let at = at_harness h p (length (owned_methods h)) (harness_methods h k.lifecycle) p.harness k.place k.number k.does k.harness k.listed k.stands in
    let found = kind_does h wf.numbers.files p (length (owned_methods h) + k.place) at.parts k.does kind wf.numbers.built_in at.does_this k.says in
    subst (λ (n : ℕ). kind_found p n ≡ Some kind) (sym at.number ∙ k.is) found

-- a method that no class declares and that is there is listed
listed_at_place : (h : List ClassInfo) (p : RegProgram) (m : ℕ) → IsWellFormed h p → length (owned_methods h) ≤ m → m < length p.methods → (kind : HarnessKind) × IsHarnessKind h p m kind
listed_at_place h p m wf past within =
    let all = wf.harness.methods in
    let same = same_length h p (length (owned_methods h)) (harness_methods h wf.harness.lifecycle) p.harness all in
    let few : m - length (owned_methods h) < length p.harness = let count = wf.methods.count in omega arith in
    let less : m - length (owned_methods h) < length (harness_methods h wf.harness.lifecycle) = omega arith in
    let x = get_within p.harness (m - length (owned_methods h)) few in
    let does = get_within (harness_methods h wf.harness.lifecycle) (m - length (owned_methods h)) less in
    let at = at_harness h p (length (owned_methods h)) (harness_methods h wf.harness.lifecycle) p.harness (m - length (owned_methods h)) x.0 does.0 all x.1 does.1 in
    let number : length (owned_methods h) + (m - length (owned_methods h)) ≡ m = omega arith in
    let kind = all_at (λ does. (kind : HarnessKind) × Says does kind) (harness_methods h wf.harness.lifecycle) (m - length (owned_methods h)) does.0 (all_kinds h wf.harness.lifecycle) does.1 in (
      kind.0,
      record {
        lifecycle = wf.harness.lifecycle;
        harness = all;
        place = m - length (owned_methods h);
        number = x.0;
        does = does.0;
        listed = x.1;
        stands = does.1;
        is = at.number ∙ number;
        says = kind.1;
      },
    )

no_owner : (p : RegProgram) (m : ℕ) (kind : HarnessKind) (x : Method) → method_at p m ≡ Some x → kind_found p m ≡ Some kind → (c : ℕ) → option_map (λ k. k.0) x.owner ≡ Some c → ⊥
no_owner p m kind x is e c owner = owned x.owner owner (sym (ap (λ (o : Option Method). option_and_then (λ (y : Method). if is_some y.owner then None else kind_from (drop y.entry.0 p.nodes)) o) is) ∙ e)
  where
    owned : (o : Option ClassId) → option_map (λ k. k.0) o ≡ Some c → (if is_some o then None else kind_from (drop x.entry.0 p.nodes)) ≡ Some kind → ⊥
    owned None owner e = cc
    owned (Some k) owner e = cc

owned_has_none : (h : List ClassInfo) (p : RegProgram) (m : ℕ) (kind : HarnessKind) (x : Method) → IsWellFormed h p → m < length (owned_methods h)
    → method_at p m ≡ Some x → kind_found p m ≡ Some kind → ⊥
owned_has_none h p m kind x wf less is e =
    let d = get_within (owned_methods h) m less in
    let owner = wf.methods.owners m d.0 d.1 in
    no_owner p m kind owner.method owner.stands e d.0.0 owner.owner

no_method : (p : RegProgram) (m : ℕ) (kind : HarnessKind) → method_at p m ≡ None → kind_found p m ≡ Some kind → ⊥
no_method p m kind none e =
    let gone = sym (ap (λ (o : Option Method). option_and_then (λ (y : Method). if is_some y.owner then None else kind_from (drop y.entry.0 p.nodes)) o) none) ∙ e in cc

same_kind : (a b : HarnessKind) → (let o : Option HarnessKind = Some a in o) ≡ Some b → a ≡ b
same_kind a b e = some_is a b e

kind_moved : (h : List ClassInfo) (p : RegProgram) (m : ℕ) (a b : HarnessKind) → a ≡ b → IsHarnessKind h p m a → IsHarnessKind h p m b
kind_moved h p m a b e k = subst (λ (kind : HarnessKind). IsHarnessKind h p m kind) e k

pub kind_told : (h : List ClassInfo) (p : RegProgram) (m : ℕ) (kind : HarnessKind) → IsWellFormed h p → kind_found p m ≡ Some kind → IsHarnessKind h p m kind
kind_told h p m kind wf e = by_method (method_at p m) refl
  where
    past_own : (x : Method) (own : Bool) → nat_lt m (length (owned_methods h)) ≡ own → method_at p m ≡ Some x → IsHarnessKind h p m kind
    past_own x true less is = absurd (owned_has_none h p m kind x wf (ltb-true m (length (owned_methods h)) less) is e)
    past_own x false less is =
        let past = ltb-false m (length (owned_methods h)) less in
        let k = listed_at_place h p m wf past (slice_get_within p.methods m x is) in
        kind_moved h p m k.0 kind (same_kind k.0 kind (sym (kind_stands h p m k.0 wf k.1) ∙ e)) k.1

    by_method : (o : Option Method) → method_at p m ≡ o → IsHarnessKind h p m kind
    by_method None none = absurd (no_method p m kind none e)
    by_method (Some x) is = past_own x (nat_lt m (length (owned_methods h))) refl is

-- ---- where there is none

find_listed : (m : ℕ) (xs : List MethodId) → list_any (λ (x : MethodId). x.0 == m) xs ≡ true → (place : ℕ) × (x : MethodId) × (slice_get xs place ≡ Some x) × (x.0 ≡ m)
find_listed m [] e = absurd cc
find_listed m (y ∷ xs) e = this_or (y.0 == m) refl e (find_listed m xs)
  where
    this_or : (b : Bool) → (y.0 == m) ≡ b → (b || list_any (λ (x : MethodId). x.0 == m) xs) ≡ true
        → (list_any (λ (x : MethodId). x.0 == m) xs ≡ true → (place : ℕ) × (x : MethodId) × (slice_get xs place ≡ Some x) × (x.0 ≡ m))
        → (place : ℕ) × (x : MethodId) × (slice_get (y ∷ xs) place ≡ Some x) × (x.0 ≡ m)
    this_or true is e more = (0, y, refl, eqb-true y.0 m is)
    this_or false is e more = let found = more e in (suc found.0, found.1, found.2, found.3)

-- a method of the harness has a kind
listed_has_kind : (h : List ClassInfo) (p : RegProgram) (m : ℕ) → IsWellFormed h p → is_harness p m ≡ true → (kind : HarnessKind) × (kind_found p m ≡ Some kind)
listed_has_kind h p m wf e =
    let found = find_listed m p.harness e in
    let all = wf.harness.methods in
    let same = same_length h p (length (owned_methods h)) (harness_methods h wf.harness.lifecycle) p.harness all in
    let within = slice_get_within p.harness found.0 found.1 found.2 in
    let less : found.0 < length (harness_methods h wf.harness.lifecycle) = omega arith in
    let does = get_within (harness_methods h wf.harness.lifecycle) found.0 less in
    let kind = all_at (λ does. (kind : HarnessKind) × Says does kind) (harness_methods h wf.harness.lifecycle) found.0 does.0 (all_kinds h wf.harness.lifecycle) does.1 in (
      kind.0,
      kind_stands h p m kind.0 wf record {
        lifecycle = wf.harness.lifecycle;
        harness = all;
        place = found.0;
        number = found.1;
        does = does.0;
        listed = found.2;
        stands = does.1;
        is = found.3;
        says = kind.1;
      },
    )

pub kind_none : (h : List ClassInfo) (p : RegProgram) (m : ℕ) → IsWellFormed h p → (kind_found p m ≡ None) ↔ (is_harness p m ≡ false)
kind_none h p m wf = (λ none. outside (is_harness p m) refl none, λ own. nothing (kind_found p m) refl own)
  where
    outside : (b : Bool) → is_harness p m ≡ b → kind_found p m ≡ None → b ≡ false
    outside true is none = absurd (let kind = listed_has_kind h p m wf is in let both = sym kind.1 ∙ none in cc)
    outside false is none = refl

    nothing : (o : Option HarnessKind) → kind_found p m ≡ o → is_harness p m ≡ false → o ≡ None
    nothing None is own = refl
    nothing (Some kind) is own =
        let told = kind_told h p m kind wf is in
        let listed = listed_harness told.place p.harness told.number told.listed in
        absurd (not_both (is_harness p m) (ap (is_harness p) (sym told.is) ∙ listed) own)
