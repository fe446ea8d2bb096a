-- What holds of the facts asked so far from round to round, and at the end.
use Rattle.std.proofs.Common.{◌≡◌, ◌⊎◌, inl, inr, ℕ, ◌<◌, ◌≤◌, ◌+◌, ◌==◌, zero, suc, Bool, true, false, List, [], ◌∷◌, length, get_or, drop, replicate, set, Some, slice_get, refl, sym, ap, subst, arith, ◌∙◌, get_or-set_same, get_or-set_other}
use Rattle.std.specs.List.{Contains, AllByRecursion}
use Rattle.std.proofs.lemmas.Bool.{cases_eq, cases_Bool, or_cases, eqb-true}
use Rattle.std.proofs.lemmas.List.Elements.{Contains-append_left}
use Rattle.th_base.specs.declared.class.ClassInfo.{ClassInfo}
use Rattle.th_base.specs.declared.number.FieldId.{FieldId}
use Rattle.th_base.specs.declared.number.MethodId.{MethodId}
use Rattle.th_base.specs.declared.number.SiteId.{SiteId}
use Rattle.th_base.specs.declared.number.Reg.{Reg}
use Rattle.std.specs.Prelude.{not}
use Rattle.std.proofs.lemmas.List.{length-append, drop_more}
use Rattle.std.proofs.lemmas.Option.{slice_get_within}
use Rattle.th_base.specs.IdSet.{has, difference_of}
use Rattle.th_base.proofs.Ascending.{has-filter}
use Rattle.th_ir.proofs.Plain.{some_is, same_found, and_parts, and_both}
use Rattle.th_incl.specs.Least.{set_at, IsLeast, IsClosed, IsInRange}
use Rattle.th_incl.specs.View.{SolverView, Grows}
use Rattle.th_incl.proofs.Families.{within_closed}
use Rattle.th_ir.specs.declared.program.Node.{Node}
use Rattle.th_ir.specs.declared.program.RegProgram.{RegProgram}
use Rattle.th_ir.specs.FactSets.{FactSets}
use Rattle.th_ir.specs.Program.{Among, node_at}
use Rattle.th_ir.specs.Rules.{HoldsRules, Obeys}
use Rattle.th_points_to.specs.declared.found.Found.{Found}
use Rattle.th_points_to.specs.declared.found.TheConstants.{EVERY_SITE}
use Rattle.th_points_to.specs.declared.place.Layout.{Layout}
use Rattle.th_points_to.specs.declared.place.Place.TheVariants.{Static}
use Rattle.th_points_to.specs.Asked.{AsksOn, base_of}
use Rattle.th_points_to.specs.Found.{holds, IsLaid, Holds, Keeps, Adds}
use Rattle.th_points_to.specs.Opening.{AsksOnAll, IsOpen, Opens, OpensAt, MeetsAt}
use Rattle.th_points_to.specs.Places.{Gives}
use Rattle.th_points_to.specs.declared.rounds.State.{State}
use Rattle.th_points_to.specs.declared.tables.Tables.{Tables}
use Rattle.th_points_to.specs.Rounds.{IsRound, IsState}
use Rattle.th_points_to.specs.Tables.{AreTables}
use Rattle.th_points_to.proofs.Laying.{register_is, get_left}
use Rattle.th_points_to.proofs.Obeying.{asks_of, asks_on_of}
use Rattle.th_points_to.proofs.Pairs.{all_has, all_by_has}

-- what a node of a method that may run asks holds of all facts that hold the rules
obeyed : (h : List ClassInfo) (p : RegProgram) (u : FactSets) (n : ℕ) (node : Node) → HoldsRules h p u → node_at p n ≡ Some node → u.reached node.method.0 ≡ true → Obeys h p u n node.stmt
obeyed h p u n node rules at reached = rules.nodes n node at reached

pub opens_of : (h : List ClassInfo) (l : Layout) (p : RegProgram) (u : FactSets) (handled : List (List ℕ)) (n : ℕ) (node : Node) → HoldsRules h p u → node_at p n ≡ Some node
    → u.reached node.method.0 ≡ true → ((r a : ℕ) → has (set_at handled r) a ≡ true → u.reg r a ≡ true) → Opens h l p handled u n node.stmt
opens_of h l p u handled n node rules at reached inside =
    let is = obeyed h p u n node rules at reached in
    record {
      asks = asks_of node.stmt h l p u n is;
      on = λ r e. all_by_has (λ (a : ℕ). AsksOn h l p u n node.stmt record { 0 = a }) (set_at handled r.0)
          (λ a one. asks_on_of node.stmt h l p u n r record { 0 = a } is e (inside r.0 a one));
    }

pub meets_of : (h : List ClassInfo) (l : Layout) (p : RegProgram) (u : FactSets) (entered : List Bool) (sites : List ℕ) (r : ℕ) (n : ℕ) → HoldsRules h p u
    → ((node : Node) → node_at p n ≡ Some node → base_of node.stmt ≡ Some record { 0 = r }) → ((m : ℕ) → IsOpen entered m → u.reached m ≡ true)
    → ((a : ℕ) → has sites a ≡ true → u.reg r a ≡ true) → MeetsAt h l p entered sites u n
meets_of h l p u entered sites r n rules base reached inside node at is =
    all_by_has (λ (a : ℕ). AsksOn h l p u n node.stmt record { 0 = a }) sites
    (λ a one. asks_on_of node.stmt h l p u n record { 0 = r } record { 0 = a } (obeyed h p u n node rules at (reached node.method.0 is)) (base node at) (inside a one))

-- ---- more is asked

pub round_adds : (h : List ClassInfo) (l : Layout) (p : RegProgram) (handled : List (List ℕ)) (entered : List Bool) (rest : List ℕ) (g g' : Found) (P : FactSets → Type 0)
    → IsRound h l p handled entered rest g → Adds l p g g' P → ((u : FactSets) → HoldsRules h p u → P u) → IsRound h l p handled entered rest g'
round_adds h l p handled entered rest g g' P is adds all = record {
  sound = λ u rules. adds.sound u (is.sound u rules) (all u rules);
  go = adds.go is.go;
  handled_sound = is.handled_sound;
  sets_sound = λ u rules r a inside e. is.sets_sound u rules r a inside (ap (λ xs. has xs a) (sym (adds.sets r)) ∙ e);
  seen = λ r inside. elim (is.seen r inside) [ inl later ↦ inl later | inr same ↦ inr (same ∙ sym (adds.sets r)) ];
  begun = λ t range h'. is.begun t range (adds.complete t range h').0;
  entered_reached = λ m one. subst (λ ks. Contains ks m) (sym adds.order.1) (Contains-append_left g.reached.keys adds.order.0 m (is.entered_reached m one));
  done = λ t range h' n node at one. is.done t range (adds.complete t range h').0 n node at one;
}

-- ---- fresh sites of one register met its nodes

pub round_met : (h : List ClassInfo) (l : Layout) (p : RegProgram) (handled : List (List ℕ)) (entered : List Bool) (rest later : List ℕ) (g g' : Found) (r : ℕ) (fresh row : List ℕ)
    → IsRound h l p handled entered rest g → r < l.registers → r < length handled
    → ((k : ℕ) → has rest k ≡ true → (k ≡ r) ⊎ (has later k ≡ true))
    → ((n : ℕ) → has row n ≡ true → (node : Node) → node_at p n ≡ Some node → base_of node.stmt ≡ Some record { 0 = r })
    → ((n : ℕ) (node : Node) → node_at p n ≡ Some node → base_of node.stmt ≡ Some record { 0 = r } → has row n ≡ true)
    → ((a : ℕ) → has (set_at g.solver.sets r) a ≡ true → (has (set_at handled r) a ≡ true) ⊎ (has fresh a ≡ true))
    → ((a : ℕ) → has fresh a ≡ true → has (set_at g.solver.sets r) a ≡ true)
    → Adds l p g g' (λ t. AllByRecursion (MeetsAt h l p entered fresh t) row)
    → IsRound h l p (set handled r (set_at g.solver.sets r)) entered later g'
round_met h l p handled entered rest later g g' r fresh row is inside within front uses every split fresh_in adds =
    let now : List ℕ = set_at g.solver.sets r in
    let here : set_at (set handled r now) r ≡ now = get_or-set_same handled r now [] within in
    let others : (k : ℕ) → (k ≡ r → ⊥) → set_at (set handled r now) k ≡ set_at handled k = λ k apart. get_or-set_other handled r k now [] apart in
    let meets : (u : FactSets) → HoldsRules h p u → AllByRecursion (MeetsAt h l p entered fresh u) row =
    λ u rules. all_by_has (MeetsAt h l p entered fresh u) row
    (λ n one. meets_of h l p u entered fresh r n rules (uses n one) (λ m o. (is.sound u rules).reached m (is.entered_reached m o))
    (λ a f. is.sets_sound u rules r a inside (fresh_in a f))) in
    let base = round_adds h l p handled entered rest g g' (λ t. AllByRecursion (MeetsAt h l p entered fresh t) row) is adds meets in
    record {
      sound = base.sound;
      go = base.go;
      handled_sound = λ u rules k a e. elim (cases_eq k r) [
        | inl same ↦ subst (λ (n : ℕ). u.reg n a ≡ true) (sym same) (is.sets_sound u rules r a inside (ap (λ xs. has xs a) (sym here) ∙ subst (λ (n : ℕ). has (set_at (set handled r now) n) a ≡ true) same e))
        | inr apart ↦ is.handled_sound u rules k a (ap (λ xs. has xs a) (sym (others k apart)) ∙ e)
      ];
      sets_sound = base.sets_sound;
      seen = λ k less. elim (cases_eq k r) [
        | inl same ↦ inr (subst (λ (n : ℕ). set_at (set handled r now) n ≡ set_at g'.solver.sets n) (sym same) (here ∙ sym (adds.sets r)))
        | inr apart ↦ elim (is.seen k less) [
          | inl waits ↦ elim (front k waits) [ inl same ↦ absurd (apart same) | inr on ↦ inl on ]
          | inr equal ↦ inr (others k apart ∙ equal ∙ sym (adds.sets k))
        ]
      ];
      begun = base.begun;
      entered_reached = base.entered_reached;
      done = λ t range holds n node at one.
          (let before = adds.complete t range holds in
          let old = is.done t range before.0 n node at one in
          record {
            asks = old.asks;
            on = λ q e. elim (cases_eq q.0 r) [
              | inl same ↦
                  (let is_base : base_of node.stmt ≡ Some record { 0 = r } = e ∙ ap (λ (k : ℕ). Some (let x : Reg = record { 0 = k } in x)) same in
                  let met : AsksOnAll h l p t n node.stmt fresh = all_has (MeetsAt h l p entered fresh t) row n before.1 (every n node at is_base) node at one in
                  subst (AsksOnAll h l p t n node.stmt) (sym (ap (set_at (set handled r now)) same ∙ here))
                  (all_by_has (λ (a : ℕ). AsksOn h l p t n node.stmt record { 0 = a }) now
                  (λ a there. elim (split a there) [
                    | inl handled_one ↦ all_has (λ (a : ℕ). AsksOn h l p t n node.stmt record { 0 = a }) (set_at handled r) a
                        (subst (λ (k : ℕ). AsksOnAll h l p t n node.stmt (set_at handled k)) same (old.on q e)) handled_one
                    | inr fresh_one ↦ all_has (λ (a : ℕ). AsksOn h l p t n node.stmt record { 0 = a }) fresh a met fresh_one
                  ])))
              | inr apart ↦ subst (AsksOnAll h l p t n node.stmt) (sym (others q.0 apart)) (old.on q e)
            ];
          });
    }

-- ---- one more method is open

pub round_opened : (h : List ClassInfo) (l : Layout) (p : RegProgram) (handled : List (List ℕ)) (entered entered' : List Bool) (rest : List ℕ) (g g' : Found) (m : ℕ) (row : List ℕ)
    → IsRound h l p handled entered rest g → Contains g.reached.keys m
    → ((k : ℕ) → IsOpen entered' k → (m ≡ k) ⊎ IsOpen entered k)
    → ((n : ℕ) → has row n ≡ true → (node : Node) → node_at p n ≡ Some node → node.method.0 ≡ m)
    → ((n : ℕ) (node : Node) → node_at p n ≡ Some node → node.method.0 ≡ m → has row n ≡ true)
    → Adds l p g g' (λ t. AllByRecursion (OpensAt h l p handled t) row) → IsRound h l p handled entered' rest g'
round_opened h l p handled entered entered' rest g g' m row is reached only uses every adds =
    let opens : (u : FactSets) → HoldsRules h p u → AllByRecursion (OpensAt h l p handled u) row =
    λ u rules. all_by_has (OpensAt h l p handled u) row
    (λ n one node at. opens_of h l p u handled n node rules at
    (subst (λ (k : ℕ). u.reached k ≡ true) (sym (uses n one node at)) ((is.sound u rules).reached m reached))
    (is.handled_sound u rules)) in
    let base = round_adds h l p handled entered rest g g' (λ t. AllByRecursion (OpensAt h l p handled t) row) is adds opens in
    record {
      sound = base.sound;
      go = base.go;
      handled_sound = base.handled_sound;
      sets_sound = base.sets_sound;
      seen = base.seen;
      begun = base.begun;
      entered_reached = λ k one. elim (only k one) [
        | inl same ↦ subst (λ (i : ℕ). Contains g'.reached.keys i) same (subst (λ ks. Contains ks m) (sym adds.order.1) (Contains-append_left g.reached.keys adds.order.0 m reached))
        | inr old ↦ base.entered_reached k old
      ];
      done = λ t range holds n node at one. elim (only node.method.0 one) [
        | inl same ↦ all_has (OpensAt h l p handled t) row n (adds.complete t range holds).1 (every n node at (sym same)) node at
        | inr old ↦ base.done t range holds n node at old
      ];
    }

-- ---- the sets are run

pub holds_over : (l : Layout) (g : Found) (s : SolverView) (t : FactSets) → s.constraints ≡ g.solver.constraints → Holds l g t → Holds l record g { solver = s } t
holds_over l g s t e h = record { sets = subst (λ c. IsClosed c (holds l g.cells.keys t)) (sym e) h.sets; calls = h.calls; reached = h.reached }

pub holds_back : (l : Layout) (g : Found) (s : SolverView) (t : FactSets) → s.constraints ≡ g.solver.constraints → Holds l record g { solver = s } t → Holds l g t
holds_back l g s t e h = record { sets = subst (λ c. IsClosed c (holds l g.cells.keys t)) e h.sets; calls = h.calls; reached = h.reached }

pub laid_over : (l : Layout) (g : Found) (s : SolverView) → s.constraints ≡ g.solver.constraints → IsLaid l g → IsLaid l record g { solver = s }
laid_over l g s e laid = record {
  first = laid.first;
  count = ap (λ c. c.sets) e ∙ laid.count;
  range = subst IsInRange (sym e) laid.range;
  sites = λ i x one. laid.sites i x (subst (λ c. Contains c.base (i, x)) e one);
  filters = subst (λ c. EVERY_SITE < length c.filters) (sym e) laid.filters;
  every = subst (λ c. (x : ℕ) → x < l.sites → has (set_at c.filters EVERY_SITE) x ≡ true) (sym e) laid.every;
}

-- the same is asked, and other sets are found
pub round_over : (h : List ClassInfo) (l : Layout) (p : RegProgram) (handled : List (List ℕ)) (entered : List Bool) (waiting later : List ℕ) (g : Found) (s : SolverView)
    → s.constraints ≡ g.solver.constraints → IsRound h l p handled entered waiting g
    → ((u : FactSets) → HoldsRules h p u → (r a : ℕ) → r < l.registers → has (set_at s.sets r) a ≡ true → u.reg r a ≡ true)
    → ((r : ℕ) → r < l.registers → (has later r ≡ true) ⊎ (set_at handled r ≡ set_at s.sets r))
    → IsRound h l p handled entered later record g { solver = s }
round_over h l p handled entered waiting later g s e is sets seen = record {
  sound = λ u rules. holds_over l g s u e (is.sound u rules);
  go = λ t range holds n m one node at. is.go t range (holds_back l g s t e holds) n m one node at;
  handled_sound = is.handled_sound;
  sets_sound = sets;
  seen = seen;
  begun = λ t range holds. is.begun t range (holds_back l g s t e holds);
  entered_reached = is.entered_reached;
  done = λ t range holds n node at one. is.done t range (holds_back l g s t e holds) n node at one;
}

pub round_ran : (h : List ClassInfo) (l : Layout) (p : RegProgram) (handled : List (List ℕ)) (entered : List Bool) (g : Found) (s : SolverView)
    → s.constraints ≡ g.solver.constraints → IsLeast g.solver.constraints s.sets → Grows g.solver.sets g.solver.grown s.sets s.grown
    → IsRound h l p handled entered [] g → IsRound h l p handled entered s.grown record g { solver = s }
round_ran h l p handled entered g s e least grows is =
    round_over h l p handled entered [] s.grown g s e is
    (λ u rules r a inside there.
    sym (register_is l g.cells.keys r r (omega arith) inside u a)
    ∙ within_closed g.solver.constraints (holds l g.cells.keys u) (is.sound u rules).sets r a ((least.exact r a).0 there))
    (λ r inside. elim (cases_Bool (has s.grown r)) [
      | inl there ↦ inl there
      | inr apart ↦ elim (is.seen r inside) [ inl none ↦ absurd cc | inr same ↦ inr (same ∙ sym (grows.others r apart)) ]
    ])

-- a register that there isn't has nothing to wait for
pub round_past : (h : List ClassInfo) (l : Layout) (p : RegProgram) (handled : List (List ℕ)) (entered : List Bool) (waiting later : List ℕ) (g : Found) (r : ℕ) → l.registers ≤ r
    → ((k : ℕ) → has waiting k ≡ true → (k ≡ r) ⊎ (has later k ≡ true)) → IsRound h l p handled entered waiting g → IsRound h l p handled entered later g
round_past h l p handled entered waiting later g r past front is = record {
  sound = is.sound;
  go = is.go;
  handled_sound = is.handled_sound;
  sets_sound = is.sets_sound;
  seen = λ k inside. elim (is.seen k inside) [
    | inl waits ↦ elim (front k waits) [ inl same ↦ absurd (omega (arith, same, inside, past)) | inr on ↦ inl on ]
    | inr same ↦ inr same
  ];
  begun = is.begun;
  entered_reached = is.entered_reached;
  done = is.done;
}

-- ---- the state, whatever the program

pub fresh_or_not : (now old : List ℕ) (a : ℕ) → has now a ≡ true → (has old a ≡ true) ⊎ (has (difference_of now old) a ≡ true)
fresh_or_not now old a there = elim (cases_Bool (has old a)) [
  | inl is ↦ inl is
  | inr apart ↦ inr (has-filter (λ x. not (has old x)) now a ∙ and_both (not (has old a)) (has now a) (ap not apart) there)
]

pub is_fresh : (now old : List ℕ) (a : ℕ) → has (difference_of now old) a ≡ true → has now a ≡ true
is_fresh now old a one = (and_parts (not (has old a)) (has now a) (sym (has-filter (λ x. not (has old x)) now a) ∙ one)).1

pub state_kept : (h : List ClassInfo) (l : Layout) (p : RegProgram) (tables : Tables) (s s' : State) → IsState h l p tables s → Keeps l s.found s'.found
    → length s'.handled.items ≡ length s.handled.items → s'.entered ≡ s.entered → s'.opened ≡ s.opened → IsState h l p tables s'
state_kept h l p tables s s' is keeps handled entered opened = record {
  laid = keeps.laid;
  tables = subst (λ (fs : List (List ℕ)). AreTables h l p fs tables) (sym keeps.filters) is.tables;
  handled_len = handled ∙ is.handled_len;
  entered_len = ap (λ v. length v.items) entered ∙ is.entered_len;
  opened = omega (arith, opened, is.opened, ap length keeps.order.1, length-append s.found.reached.keys keeps.order.0);
  opened_are = λ i m less at inside.
      (let old : i < s.opened = omega arith in
      let within : i < length s.found.reached.keys = omega (arith, old, is.opened) in
      subst (λ v. IsOpen v.items m) (sym entered)
      (is.opened_are i m old (sym (get_left s.found.reached.keys keeps.order.0 i within) ∙ ap (λ ks. slice_get ks i) (sym keeps.order.1) ∙ at) inside));
}

-- the next method is open
pub state_opened : (h : List ClassInfo) (l : Layout) (p : RegProgram) (ts : Tables) (s s' : State) (m : ℕ) → IsState h l p ts s → Keeps l s.found s'.found
    → length s'.handled.items ≡ length s.handled.items → length s'.entered.items ≡ length s.entered.items → s'.opened ≡ s.opened + 1
    → slice_get s.found.reached.keys s.opened ≡ Some m → ((k : ℕ) → IsOpen s.entered.items k → IsOpen s'.entered.items k) → (m < length p.methods → IsOpen s'.entered.items m)
    → IsState h l p ts s'
state_opened h l p ts s s' m is keeps handled entered opened at stays here =
    let inside : s.opened < length s.found.reached.keys = slice_get_within s.found.reached.keys s.opened m at in
    record {
      laid = keeps.laid;
      tables = subst (λ (fs : List (List ℕ)). AreTables h l p fs ts) (sym keeps.filters) is.tables;
      handled_len = handled ∙ is.handled_len;
      entered_len = entered ∙ is.entered_len;
      opened = omega (arith, opened, inside, ap length keeps.order.1, length-append s.found.reached.keys keeps.order.0);
      opened_are = λ i k less found within.
          (let before : i < length s.found.reached.keys = omega (arith, less, opened, inside) in
          let found_old : slice_get s.found.reached.keys i ≡ Some k = sym (get_left s.found.reached.keys keeps.order.0 i before) ∙ ap (λ ks. slice_get ks i) (sym keeps.order.1) ∙ found in
          elim (cases_eq i s.opened) [
            | inl same ↦
                (let is_it : m ≡ k = same_found (slice_get s.found.reached.keys s.opened) m k at (ap (slice_get s.found.reached.keys) (sym same) ∙ found_old) in
                subst (λ (j : ℕ). IsOpen s'.entered.items j) is_it (here (subst (λ (j : ℕ). j < length p.methods) (sym is_it) within)))
            | inr apart ↦ stays k (is.opened_are i k (omega (arith, less, opened, apart)) found_old within)
          ]);
    }

pub contains_at : (xs : List ℕ) (i x : ℕ) → slice_get xs i ≡ Some x → Contains xs x
contains_at [] i x e = absurd cc
contains_at (y ∷ xs) zero x e = (0, omega arith, some_is y x e)
contains_at (y ∷ xs) (suc i) x e = let rest = contains_at xs i x e in (suc rest.0, omega (arith, rest.1), rest.2)

pub drop_front : (xs : List ℕ) (i k : ℕ) → i < length xs → has (drop i xs) k ≡ true → (k ≡ get_or xs i 0) ⊎ (has (drop (i + 1) xs) k ≡ true)
drop_front xs i k h e =
    elim (or_cases (get_or xs i 0 == k) (has (drop (i + 1) xs) k) (sym (ap (λ l. has l k) (drop_more xs i 0 h)) ∙ e)) [
      | inl same ↦ inl (sym (eqb-true (get_or xs i 0) k same))
      | inr later ↦ inr later
    ]

pub state_over : (h : List ClassInfo) (l : Layout) (p : RegProgram) (ts : Tables) (s : State) (v : SolverView) → v.constraints ≡ s.found.solver.constraints → IsState h l p ts s
    → IsState h l p ts record s { found = record s.found { solver = v } }
state_over h l p ts s v e is = record {
  laid = laid_over l s.found v e is.laid;
  tables = subst (λ c. AreTables h l p c.filters ts) (sym e) is.tables;
  handled_len = is.handled_len;
  entered_len = is.entered_len;
  opened = is.opened;
  opened_are = is.opened_are;
}

-- ---- the beginning

none_in : (n k x : ℕ) → has (set_at (replicate n []) k) x ≡ false
none_in zero k x = refl
none_in (suc n) zero x = refl
none_in (suc n) (suc k) x = none_in n k x

none_at : (n k : ℕ) → set_at (replicate n []) k ≡ []
none_at zero k = refl
none_at (suc n) zero = refl
none_at (suc n) (suc k) = none_at n k

none_open : (n m : ℕ) → get_or (replicate n false) m false ≡ false
none_open zero m = refl
none_open (suc n) zero = refl
none_open (suc n) (suc m) = none_open n m

pub round_begun : (h : List ClassInfo) (l : Layout) (p : RegProgram) (g g' : Found) (handled : List (List ℕ)) (entered : List Bool)
    → ((t : FactSets) → Holds l g t) → g.solver.sets ≡ replicate l.first_cell [] → g.calls.keys ≡ []
    → handled ≡ replicate l.registers [] → entered ≡ replicate (length p.methods) false
    → Adds l p g g' (λ t. AllByRecursion (λ m. t.reached m.0 ≡ true) p.harness × AllByRecursion (λ i. Gives l t (Static i.0) i.1.0) p.strings)
    → IsRound h l p handled entered [] g'
round_begun h l p g g' handled entered holds_all sets calls handled_are entered_are adds =
    let empty : (r : ℕ) → set_at g'.solver.sets r ≡ [] = λ r. adds.sets r ∙ ap (λ (ss : List (List ℕ)). set_at ss r) sets ∙ none_at l.first_cell r in
    let unhandled : (r : ℕ) → set_at handled r ≡ [] = λ r. ap (λ (hs : List (List ℕ)). set_at hs r) handled_are ∙ none_at l.registers r in
    record {
      sound = λ u rules. adds.sound u (holds_all u) (harness_in p.harness u (λ m a. rules.harness m a), constants_in p.strings u rules.constants);
      go = adds.go (λ t range holds n m one. absurd (nothing_in (n, m) (subst (λ (ks : List (ℕ × ℕ)). Contains ks (n, m)) calls one)));
      handled_sound = λ u rules r a e. absurd (not_in a (ap (λ xs. has xs a) (sym (unhandled r)) ∙ e));
      sets_sound = λ u rules r a inside e. absurd (not_in a (ap (λ xs. has xs a) (sym (empty r)) ∙ e));
      seen = λ r inside. inr (unhandled r ∙ sym (empty r));
      begun = λ t range h. (let parts = (adds.complete t range h).1 in record { harness = parts.0; constants = parts.1 });
      entered_reached = λ m one. absurd (not_open m one);
      done = λ t range h n node at one. absurd (not_open node.method.0 one);
    }
  where
    not_in : (a : ℕ) → has [] a ≡ true → ⊥
    not_in a e = cc

    nothing_in : (d : ℕ × ℕ) → Contains [] d → ⊥
    nothing_in d one = let less : one.0 < 0 = one.1 in omega arith

    not_open : (m : ℕ) → IsOpen entered m → ⊥
    not_open m one = let closed : get_or (replicate (length p.methods) false) m false ≡ false = none_open (length p.methods) m in
        let there : get_or (replicate (length p.methods) false) m false ≡ true = subst (λ (bs : List Bool). get_or bs m false ≡ true) entered_are one in cc

    harness_in : (ms : List MethodId) (u : FactSets) → ((m : MethodId) → Among ms m → u.reached m.0 ≡ true) → AllByRecursion (λ m. u.reached m.0 ≡ true) ms
    harness_in [] u each = tt
    harness_in (m ∷ ms) u each = (each m (0, refl), harness_in ms u (λ k a. each k (suc a.0, a.1)))

    constants_in : (cs : List (FieldId × SiteId)) (u : FactSets) → AllByRecursion (λ i. u.static i.0.0 i.1.0 ≡ true) cs → AllByRecursion (λ i. Gives l u (Static i.0) i.1.0) cs
    constants_in [] u all = tt
    constants_in (i ∷ cs) u all = (λ there place. all.0, constants_in cs u all.1)
