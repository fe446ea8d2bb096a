-- What an addition asks of facts.
use Rattle.std.proofs.Common.{◌≡◌, ◌⊎◌, inl, inr, ℕ, ◌<◌, ◌+◌, ◌≤◌, zero, suc, Bool, true, false, List, [], ◌∷◌, ◌++◌, length, get_or, take, replicate, Some, refl, sym, ap, subst, arith, ◌∙◌, if◌then◌else◌}
use Rattle.std.specs.Prelude.{⊤}
use Rattle.std.specs.List.{Contains, list_any, AllByRecursion}
use Rattle.std.proofs.lemmas.List.{length-append, take_more}
use Rattle.std.proofs.lemmas.List.Sums.{sum_by-cons}
use Rattle.std.proofs.lemmas.List.Elements.{Contains-append_left, Contains-push, Contains-push_cases}
use Rattle.indexmap.specs.IndexSet.{insert_key}
use Rattle.th_base.specs.IdSet.{has}
use Rattle.th_incl.specs.declared.constraints.Inclusion.{Inclusion}
use Rattle.th_incl.specs.Least.{set_at, pair_count, In, IsClosed, IsInRange}
use Rattle.th_incl.specs.View.{SolverView, with_sets, with_base, with_copy}
use Rattle.th_incl.proofs.Added.{base_range, copy_range}
use Rattle.th_ir.specs.declared.program.RegProgram.{RegProgram}
use Rattle.th_ir.specs.declared.program.Node.{Node}
use Rattle.th_ir.specs.FactSets.{FactSets}
use Rattle.th_ir.specs.Program.{node_at}
use Rattle.th_points_to.specs.declared.found.Found.{Found}
use Rattle.th_points_to.specs.declared.found.TheConstants.{EVERY_SITE}
use Rattle.th_points_to.specs.declared.place.Layout.{Layout}
use Rattle.th_points_to.specs.declared.place.Place.{Place}
use Rattle.th_points_to.specs.Places.{at, IncludesThrough, AreInRange}
use Rattle.th_points_to.specs.Asked.{Goes}
use Rattle.th_points_to.specs.Found.{holds, IsSet, IsLaid, Holds, CallsGo, Keeps, Adds}
use Rattle.th_points_to.proofs.Laying.{holds_more}

take_whole : {X : Type 0} (xs : List X) (i : ℕ) → length xs ≤ i → take i xs ≡ xs
take_whole [] zero h = refl
take_whole [] (suc i) h = refl
take_whole (x ∷ xs) zero h = absurd (omega arith)
take_whole (x ∷ xs) (suc i) h = ap (λ l. x ∷ l) (take_whole xs i (omega arith))

-- ---- together

-- where the calls stay, what they ask is asked still
pub go_kept : (l : Layout) (p : RegProgram) (g g' : Found) → ((c : ℕ × ℕ) → Contains g'.calls.keys c → Contains g.calls.keys c)
    → ((t : FactSets) → AreInRange l t → Holds l g' t → Holds l g t) → CallsGo l p g → CallsGo l p g'
go_kept l p g g' calls weaker go t range h n m one node at = go t range (weaker t range h) n m (calls (n, m) one) node at

-- a program of which nothing is asked
abbrev pub no_program : RegProgram
no_program = record { methods = []; nodes = []; sites = []; harness = []; refs = []; ints = []; strings = [] }

pub adds_nothing : (l : Layout) (p : RegProgram) (g : Found) → IsLaid l g → Adds l p g g (λ t. ⊤)
adds_nothing l p g laid = record {
  laid = laid;
  go = λ go. go;
  sound = λ t h is. h;
  complete = λ t range h. (h, tt);
  filters = refl;
  grown = refl;
  sets = λ i. refl;
  stays = λ i h. (h, λ t x. refl);
  order = ([], sym (nothing_more g.reached.keys));
}
  where
    nothing_more : (xs : List ℕ) → xs ++ [] ≡ xs
    nothing_more [] = refl
    nothing_more (x ∷ xs) = ap (λ ys. x ∷ ys) (nothing_more xs)

append_twice : (xs ys zs : List ℕ) → (xs ++ ys) ++ zs ≡ xs ++ (ys ++ zs)
append_twice [] ys zs = refl
append_twice (x ∷ xs) ys zs = ap (λ l. x ∷ l) (append_twice xs ys zs)

pub adds_both : (l : Layout) (p : RegProgram) (a b d : Found) (P Q : FactSets → Type 0) → Adds l p a b P → Adds l p b d Q → Adds l p a d (λ t. P t × Q t)
adds_both l p a b d P Q one two = record {
  laid = two.laid;
  go = λ go. two.go (one.go go);
  sound = λ t h is. two.sound t (one.sound t h is.0) is.1;
  complete = λ t range h. (let later = two.complete t range h in let first = one.complete t range later.0 in (first.0, (first.1, later.1)));
  filters = two.filters ∙ one.filters;
  grown = two.grown ∙ one.grown;
  sets = λ i. two.sets i ∙ one.sets i;
  stays = λ i h. (let first = one.stays i h in let later = two.stays i first.0 in (later.0, λ t x. later.1 t x ∙ first.1 t x));
  order = (one.order.0 ++ two.order.0, two.order.1 ∙ ap (λ xs. xs ++ two.order.0) one.order.1 ∙ append_twice a.reached.keys one.order.0 two.order.0);
}

-- the same asked in other words
pub adds_as : (l : Layout) (p : RegProgram) (g g' : Found) (P Q : FactSets → Type 0) → ((t : FactSets) → Q t → P t) → ((t : FactSets) → AreInRange l t → P t → Q t)
    → Adds l p g g' P → Adds l p g g' Q
adds_as l p g g' P Q back forth a = record {
  laid = a.laid;
  go = a.go;
  sound = λ t h is. a.sound t h (back t is);
  complete = λ t range h. (let c = a.complete t range h in (c.0, forth t range c.1));
  filters = a.filters;
  grown = a.grown;
  sets = a.sets;
  stays = a.stays;
  order = a.order;
}

-- the same asked in other words, of facts that held what was asked before
pub adds_held : (l : Layout) (p : RegProgram) (g g' : Found) (P Q : FactSets → Type 0) → ((t : FactSets) → Q t → P t) → ((t : FactSets) → AreInRange l t → Holds l g t → P t → Q t)
    → Adds l p g g' P → Adds l p g g' Q
adds_held l p g g' P Q back forth a = record {
  laid = a.laid;
  go = a.go;
  sound = λ t h is. a.sound t h (back t is);
  complete = λ t range h. (let c = a.complete t range h in (c.0, forth t range c.0 c.1));
  filters = a.filters;
  grown = a.grown;
  sets = a.sets;
  stays = a.stays;
  order = a.order;
}

-- of several steps the first asks nothing
pub adds_after : (l : Layout) (p : RegProgram) (a b d : Found) (Q : FactSets → Type 0) → Adds l p a b (λ t. ⊤) → Adds l p b d Q → Adds l p a d Q
adds_after l p a b d Q one two = adds_as l p a d (λ t. ⊤ × Q t) Q (λ t is. (tt, is)) (λ t range is. is.1) (adds_both l p a b d (λ t. ⊤) Q one two)

-- ---- one inclusion

pub nothing_after : (xs : List ℕ) → xs ≡ xs ++ []
nothing_after [] = refl
nothing_after (x ∷ xs) = ap (λ ys. x ∷ ys) (nothing_after xs)

same_order : (g : Found) → (rest : List ℕ) × (g.reached.keys ≡ g.reached.keys ++ rest)
same_order g = ([], nothing_after g.reached.keys)

abbrev pub Passes : Layout → Found → Inclusion → FactSets → Type 0
Passes l g j t = (x : ℕ) → holds l g.cells.keys t j.from x ≡ true → In g.solver.constraints.filters j.filter x → holds l g.cells.keys t j.to x ≡ true

pub adds_copy : (l : Layout) (p : RegProgram) (g : Found) (s : SolverView) (j : Inclusion) → IsLaid l g → j.from < g.solver.constraints.sets → j.to < g.solver.constraints.sets
    → j.filter < length g.solver.constraints.filters → s ≡ with_copy g.solver j → Adds l p g record g { solver = s } (Passes l g j)
adds_copy l p g s j laid from to filter e = subst (λ (v : SolverView). Adds l p g record g { solver = v } (Passes l g j)) (sym e) record {
  laid = record {
    first = laid.first;
    count = laid.count;
    range = copy_range g.solver.constraints j from to filter laid.range;
    sites = laid.sites;
    filters = laid.filters;
    every = laid.every;
  };
  go = go_kept l p g record g { solver = with_copy g.solver j } (λ d one. one) weaker;
  sound = λ t h is. record {
    sets = record {
      base = h.sets.base;
      copies = λ i x one there pass. elim (Contains-push_cases g.solver.constraints.copies j i one) [
        | inl old ↦ h.sets.copies i x old there pass
        | inr same ↦ subst (λ (k : Inclusion). holds l g.cells.keys t k.from x ≡ true → In g.solver.constraints.filters k.filter x → holds l g.cells.keys t k.to x ≡ true) same (is x) there pass
      ];
    };
    calls = h.calls;
    reached = h.reached;
  };
  complete = λ t range h. (weaker t range h, λ x there pass. h.sets.copies j x (Contains-push g.solver.constraints.copies j) there pass);
  filters = refl;
  grown = refl;
  sets = λ i. refl;
  stays = λ i h. (h, λ t x. refl);
  order = same_order g;
}
  where
    weaker : (t : FactSets) → AreInRange l t → Holds l record g { solver = with_copy g.solver j } t → Holds l g t
    weaker t range h = record {
      sets = record { base = h.sets.base; copies = λ i x one there pass. h.sets.copies i x (Contains-append_left g.solver.constraints.copies (j ∷ []) i one) there pass };
      calls = h.calls;
      reached = h.reached;
    }

-- ---- one base pair

pub adds_base : (l : Layout) (p : RegProgram) (g : Found) (s : SolverView) (i x : ℕ) → IsLaid l g → i < g.solver.constraints.sets → x < l.sites
    → s ≡ with_base g.solver i x → Adds l p g record g { solver = s } (λ t. holds l g.cells.keys t i x ≡ true)
adds_base l p g s i x laid inside there e = subst (λ (v : SolverView). Adds l p g record g { solver = v } (λ t. holds l g.cells.keys t i x ≡ true)) (sym e) record {
  laid = record {
    first = laid.first;
    count = laid.count;
    range = base_range g.solver.constraints i x inside laid.range;
    sites = λ k y one. elim (Contains-push_cases g.solver.constraints.base (i, x) (k, y) one) [
      | inl old ↦ laid.sites k y old
      | inr same ↦ subst (λ (d : ℕ × ℕ). d.1 < l.sites) same there
    ];
    filters = laid.filters;
    every = laid.every;
  };
  go = go_kept l p g record g { solver = with_base g.solver i x } (λ d one. one) weaker;
  sound = λ t h is. record {
    sets = record {
      base = λ k y one. elim (Contains-push_cases g.solver.constraints.base (i, x) (k, y) one) [
        | inl old ↦ h.sets.base k y old
        | inr same ↦ subst (λ (d : ℕ × ℕ). holds l g.cells.keys t d.0 d.1 ≡ true) same is
      ];
      copies = h.sets.copies;
    };
    calls = h.calls;
    reached = h.reached;
  };
  complete = λ t range h. (weaker t range h, h.sets.base i x (Contains-push g.solver.constraints.base (i, x)));
  filters = refl;
  grown = refl;
  sets = λ k. refl;
  stays = λ k h. (h, λ t x. refl);
  order = same_order g;
}
  where
    weaker : (t : FactSets) → AreInRange l t → Holds l record g { solver = with_base g.solver i x } t → Holds l g t
    weaker t range h = record {
      sets = record { base = λ k y one. h.sets.base k y (Contains-append_left g.solver.constraints.base ((i, x) ∷ []) (k, y) one); copies = h.sets.copies };
      calls = h.calls;
      reached = h.reached;
    }

-- ---- one set

-- past the end a set is empty, and so is one that is new
grown_at : (rows : List (List ℕ)) (n k : ℕ) → get_or (rows ++ replicate n []) k [] ≡ get_or rows k []
grown_at [] zero k = refl
grown_at [] (suc n) zero = refl
grown_at [] (suc n) (suc k) = grown_at [] n k
grown_at (r ∷ rs) n zero = refl
grown_at (r ∷ rs) n (suc k) = grown_at rs n k

-- facts say the same of all constraints where a cell comes last
same_closed : (l : Layout) (g : Found) (t : FactSets) (cells : List (ℕ × ℕ)) → IsLaid l g → ((i x : ℕ) → i < g.solver.constraints.sets → holds l cells t i x ≡ holds l g.cells.keys t i x)
    → IsClosed g.solver.constraints (holds l g.cells.keys t) → IsClosed g.solver.constraints (holds l cells t)
same_closed l g t cells laid same h = record {
  base = λ i x one. same i x (laid.range.base i x one) ∙ h.base i x one;
  copies = λ j x one there pass.
      (let inside = laid.range.copies j one in same j.to x inside.1 ∙ h.copies j x one (sym (same j.from x inside.0) ∙ there) pass);
}

back_closed : (l : Layout) (g : Found) (t : FactSets) (cells : List (ℕ × ℕ)) → IsLaid l g → ((i x : ℕ) → i < g.solver.constraints.sets → holds l cells t i x ≡ holds l g.cells.keys t i x)
    → IsClosed g.solver.constraints (holds l cells t) → IsClosed g.solver.constraints (holds l g.cells.keys t)
back_closed l g t cells laid same h = record {
  base = λ i x one. sym (same i x (laid.range.base i x one)) ∙ h.base i x one;
  copies = λ j x one there pass.
      (let inside = laid.range.copies j one in sym (same j.to x inside.1) ∙ h.copies j x one (same j.from x inside.0 ∙ there) pass);
}

pub adds_cell : (l : Layout) (p : RegProgram) (g g' : Found) (k : ℕ × ℕ) → IsLaid l g → g'.solver ≡ with_sets g.solver 1 → g'.cells.keys ≡ g.cells.keys ++ k ∷ []
    → g'.calls ≡ g.calls → g'.reached ≡ g.reached → Adds l p g g' (λ t. ⊤)
adds_cell l p g g' k laid solver cells calls reached =
    let constraints : g'.solver.constraints ≡ record g.solver.constraints { sets = g.solver.constraints.sets + 1 } = ap (λ v. v.constraints) solver in
    let same : (t : FactSets) (i x : ℕ) → i < g.solver.constraints.sets → holds l g'.cells.keys t i x ≡ holds l g.cells.keys t i x =
    λ t i x h. ap (λ ks. holds l ks t i x) cells ∙ holds_more l g.cells.keys (k ∷ []) t i x (omega (arith, h, laid.count)) in
    let down : (t : FactSets) → Holds l g' t → Holds l g t =
    λ t h. record {
      sets = back_closed l g t g'.cells.keys laid (same t) (fewer t (subst (λ c. IsClosed c (holds l g'.cells.keys t)) constraints h.sets));
      calls = λ n m one. h.calls n m (subst (λ cs. Contains cs.keys (n, m)) (sym calls) one);
      reached = λ m one. h.reached m (subst (λ rs. Contains rs.keys m) (sym reached) one);
    } in
    record {
      laid = record {
        first = laid.first;
        count = ap (λ c. c.sets) constraints ∙ omega (arith, laid.count, ap length cells, length-append g.cells.keys (k ∷ []));
        range = subst IsInRange (sym constraints) record {
          base = λ i x one. (let h = laid.range.base i x one in omega arith);
          copies = λ j one. (let h = laid.range.copies j one in (omega (arith, h.0), omega (arith, h.1), h.2));
        };
        sites = λ i x one. laid.sites i x (subst (λ c. Contains c.base (i, x)) constraints one);
        filters = subst (λ c. EVERY_SITE < length c.filters) (sym constraints) laid.filters;
        every = subst (λ c. (x : ℕ) → x < l.sites → has (set_at c.filters EVERY_SITE) x ≡ true) (sym constraints) laid.every;
      };
      go = go_kept l p g g' (λ d one. subst (λ cs. Contains cs.keys d) calls one) (λ t range h. down t h);
      sound = λ t h is. record {
        sets = subst (λ c. IsClosed c (holds l g'.cells.keys t)) (sym constraints) (more t (same_closed l g t g'.cells.keys laid (same t) h.sets));
        calls = λ n m one. h.calls n m (subst (λ cs. Contains cs.keys (n, m)) calls one);
        reached = λ m one. h.reached m (subst (λ rs. Contains rs.keys m) reached one);
      };
      complete = λ t range h. (down t h, tt);
      filters = ap (λ c. c.filters) constraints;
      grown = ap (λ v. v.grown) solver;
      sets = λ i. ap (λ v. set_at v.sets i) solver ∙ grown_at g.solver.sets 1 i;
      stays = λ i h. (omega (arith, h, ap (λ c. c.sets) constraints), λ t x. same t i x h);
      order = ([], ap (λ rs. rs.keys) reached ∙ nothing_after g.reached.keys);
    }
  where
    more : (t : FactSets) → IsClosed g.solver.constraints (holds l g'.cells.keys t) → IsClosed record g.solver.constraints { sets = g.solver.constraints.sets + 1 } (holds l g'.cells.keys t)
    more t h = record { base = h.base; copies = h.copies }

    fewer : (t : FactSets) → IsClosed record g.solver.constraints { sets = g.solver.constraints.sets + 1 } (holds l g'.cells.keys t) → IsClosed g.solver.constraints (holds l g'.cells.keys t)
    fewer t h = record { base = h.base; copies = h.copies }

-- ---- one key

pub key_cases : {K : Type 0} (eq : K → K → Bool) (old new : List K) (k : K) → new ≡ insert_key eq old k → (new ≡ old) ⊎ (new ≡ old ++ k ∷ [])
key_cases eq old new k e = by (list_any (eq k) old) refl
  where
    by : (b : Bool) → list_any (eq k) old ≡ b → (new ≡ old) ⊎ (new ≡ old ++ k ∷ [])
    by true is = inl (e ∙ ap (λ b. if b then old else old ++ k ∷ []) is)
    by false is = inr (e ∙ ap (λ b. if b then old else old ++ k ∷ []) is)

pub key_is_new : {K : Type 0} (eq : K → K → Bool) (old new : List K) (k : K) → new ≡ insert_key eq old k → length new ≡ length old + 1 → new ≡ old ++ k ∷ []
key_is_new eq old new k e more = elim (key_cases eq old new k e) [ inl same ↦ (let len = ap length same in absurd (omega arith)) | inr is ↦ is ]

pub key_is_old : {K : Type 0} (eq : K → K → Bool) (old new : List K) (k : K) → new ≡ insert_key eq old k → length new ≡ length old → new ≡ old
key_is_old eq old new k e more = elim (key_cases eq old new k e) [
  | inl same ↦ same
  | inr is ↦ (let len = ap length is in absurd (omega (arith, len, length-append old (k ∷ []))))
]

-- the cells are the same, in another table
pub adds_same : (l : Layout) (p : RegProgram) (g g' : Found) → IsLaid l g → g'.solver ≡ g.solver → g'.cells.keys ≡ g.cells.keys → g'.calls ≡ g.calls → g'.reached ≡ g.reached
    → Adds l p g g' (λ t. ⊤)
adds_same l p g g' laid solver cells calls reached =
    let down : (t : FactSets) → Holds l g' t → Holds l g t =
    λ t h. record {
      sets = subst (λ ks. IsClosed g.solver.constraints (holds l ks t)) cells (subst (λ v. IsClosed v.constraints (holds l g'.cells.keys t)) solver h.sets);
      calls = λ n m one. h.calls n m (subst (λ cs. Contains cs.keys (n, m)) (sym calls) one);
      reached = λ m one. h.reached m (subst (λ rs. Contains rs.keys m) (sym reached) one);
    } in
    record {
      laid = record {
        first = laid.first;
        count = ap (λ v. v.constraints.sets) solver ∙ laid.count ∙ ap (λ ks. l.first_cell + length ks) (sym cells);
        range = subst (λ v. IsInRange v.constraints) (sym solver) laid.range;
        sites = λ i x one. laid.sites i x (subst (λ v. Contains v.constraints.base (i, x)) solver one);
        filters = subst (λ v. EVERY_SITE < length v.constraints.filters) (sym solver) laid.filters;
        every = subst (λ v. (x : ℕ) → x < l.sites → has (set_at v.constraints.filters EVERY_SITE) x ≡ true) (sym solver) laid.every;
      };
      go = go_kept l p g g' (λ d one. subst (λ cs. Contains cs.keys d) calls one) (λ t range h. down t h);
      sound = λ t h is. record {
        sets = subst (λ v. IsClosed v.constraints (holds l g'.cells.keys t)) (sym solver) (subst (λ ks. IsClosed g.solver.constraints (holds l ks t)) (sym cells) h.sets);
        calls = λ n m one. h.calls n m (subst (λ cs. Contains cs.keys (n, m)) calls one);
        reached = λ m one. h.reached m (subst (λ rs. Contains rs.keys m) reached one);
      };
      complete = λ t range h. (down t h, tt);
      filters = ap (λ v. v.constraints.filters) solver;
      grown = ap (λ v. v.grown) solver;
      sets = λ i. ap (λ v. set_at v.sets i) solver;
      stays = λ i h. (subst (λ v. i < v.constraints.sets) (sym solver) h, λ t x. ap (λ ks. holds l ks t i x) cells);
      order = ([], ap (λ rs. rs.keys) reached ∙ nothing_after g.reached.keys);
    }

-- ---- one method that may run

pub adds_reached : (l : Layout) (p : RegProgram) (g g' : Found) (m : ℕ) → IsLaid l g → g'.solver ≡ g.solver → g'.cells ≡ g.cells → g'.calls ≡ g.calls
    → (rest : List ℕ) × (g'.reached.keys ≡ g.reached.keys ++ rest) → Contains g'.reached.keys m → ((k : ℕ) → Contains g'.reached.keys k → Contains g.reached.keys k ⊎ (m ≡ k))
    → Adds l p g g' (λ t. t.reached m ≡ true)
adds_reached l p g g' m laid solver cells calls order there only =
    let down : (t : FactSets) → Holds l g' t → Holds l g t =
    λ t h. record {
      sets = subst (λ ks. IsClosed g.solver.constraints (holds l ks.keys t)) cells (subst (λ v. IsClosed v.constraints (holds l g'.cells.keys t)) solver h.sets);
      calls = λ n k one. h.calls n k (subst (λ cs. Contains cs.keys (n, k)) (sym calls) one);
      reached = λ k one. h.reached k (subst (λ ks. Contains ks k) (sym order.1) (Contains-append_left g.reached.keys order.0 k one));
    } in
    record {
      laid = record {
        first = laid.first;
        count = ap (λ v. v.constraints.sets) solver ∙ laid.count ∙ ap (λ ks. l.first_cell + length ks.keys) (sym cells);
        range = subst (λ v. IsInRange v.constraints) (sym solver) laid.range;
        sites = λ i x one. laid.sites i x (subst (λ v. Contains v.constraints.base (i, x)) solver one);
        filters = subst (λ v. EVERY_SITE < length v.constraints.filters) (sym solver) laid.filters;
        every = subst (λ v. (x : ℕ) → x < l.sites → has (set_at v.constraints.filters EVERY_SITE) x ≡ true) (sym solver) laid.every;
      };
      go = go_kept l p g g' (λ d one. subst (λ cs. Contains cs.keys d) calls one) (λ t range h. down t h);
      sound = λ t h is. record {
        sets = subst (λ v. IsClosed v.constraints (holds l g'.cells.keys t)) (sym solver) (subst (λ ks. IsClosed g.solver.constraints (holds l ks.keys t)) (sym cells) h.sets);
        calls = λ n k one. h.calls n k (subst (λ cs. Contains cs.keys (n, k)) calls one);
        reached = λ k one. elim (only k one) [ inl old ↦ h.reached k old | inr same ↦ subst (λ (n : ℕ). t.reached n ≡ true) same is ];
      };
      complete = λ t range h. (down t h, h.reached m there);
      filters = ap (λ v. v.constraints.filters) solver;
      grown = ap (λ v. v.grown) solver;
      sets = λ i. ap (λ v. set_at v.sets i) solver;
      stays = λ i h. (subst (λ v. i < v.constraints.sets) (sym solver) h, λ t x. ap (λ ks. holds l ks.keys t i x) cells);
      order = order;
    }

-- ---- one call, where what it asks is asked already

pub adds_call : (l : Layout) (p : RegProgram) (g g' : Found) (n m : ℕ) → IsLaid l g → g'.solver ≡ g.solver → g'.cells ≡ g.cells → g'.reached ≡ g.reached
    → ((d : ℕ × ℕ) → Contains g.calls.keys d → Contains g'.calls.keys d) → Contains g'.calls.keys (n, m)
    → ((d : ℕ × ℕ) → Contains g'.calls.keys d → Contains g.calls.keys d ⊎ (◌≡◌ {A = ℕ × ℕ} (n, m) d))
    → ((t : FactSets) → AreInRange l t → Holds l g t → (node : Node) → node_at p n ≡ Some node → Goes l p t node.stmt m)
    → Adds l p g g' (λ t. t.call n m ≡ true)
adds_call l p g g' n m laid solver cells reached stay there only goes =
    let down : (t : FactSets) → Holds l g' t → Holds l g t =
    λ t h. record {
      sets = subst (λ ks. IsClosed g.solver.constraints (holds l ks.keys t)) cells (subst (λ v. IsClosed v.constraints (holds l g'.cells.keys t)) solver h.sets);
      calls = λ i k one. h.calls i k (stay (i, k) one);
      reached = λ k one. h.reached k (subst (λ rs. Contains rs.keys k) (sym reached) one);
    } in
    record {
      laid = record {
        first = laid.first;
        count = ap (λ v. v.constraints.sets) solver ∙ laid.count ∙ ap (λ ks. l.first_cell + length ks.keys) (sym cells);
        range = subst (λ v. IsInRange v.constraints) (sym solver) laid.range;
        sites = λ i x one. laid.sites i x (subst (λ v. Contains v.constraints.base (i, x)) solver one);
        filters = subst (λ v. EVERY_SITE < length v.constraints.filters) (sym solver) laid.filters;
        every = subst (λ v. (x : ℕ) → x < l.sites → has (set_at v.constraints.filters EVERY_SITE) x ≡ true) (sym solver) laid.every;
      };
      go = λ go t range h i k one node at. elim (only (i, k) one) [
        | inl old ↦ go t range (down t h) i k old node at
        | inr same ↦ subst (λ (d : ℕ × ℕ). (node : Node) → node_at p d.0 ≡ Some node → Goes l p t node.stmt d.1) same (goes t range (down t h)) node at
      ];
      sound = λ t h is. record {
        sets = subst (λ v. IsClosed v.constraints (holds l g'.cells.keys t)) (sym solver) (subst (λ ks. IsClosed g.solver.constraints (holds l ks.keys t)) (sym cells) h.sets);
        calls = λ i k one. elim (only (i, k) one) [ inl old ↦ h.calls i k old | inr same ↦ subst (λ (d : ℕ × ℕ). t.call d.0 d.1 ≡ true) same is ];
        reached = λ k one. h.reached k (subst (λ rs. Contains rs.keys k) reached one);
      };
      complete = λ t range h. (down t h, h.calls n m there);
      filters = ap (λ v. v.constraints.filters) solver;
      grown = ap (λ v. v.grown) solver;
      sets = λ i. ap (λ v. set_at v.sets i) solver;
      stays = λ i h. (subst (λ v. i < v.constraints.sets) (sym solver) h, λ t x. ap (λ ks. holds l ks.keys t i x) cells);
      order = ([], ap (λ rs. rs.keys) reached ∙ nothing_after g.reached.keys);
    }

-- ---- between places

pub copy_asks : (l : Layout) (p : RegProgram) (g a b : Found) (s : SolverView) (from to : Place) (i j filter : ℕ) → Adds l p g a (λ t. ⊤) → IsSet l a from i → Adds l p a b (λ t. ⊤)
    → IsSet l b to j → filter < length g.solver.constraints.filters → s ≡ with_copy b.solver record { from = i; to = j; filter = filter }
    → Adds l p g record b { solver = s } (λ t. IncludesThrough l t (has (set_at g.solver.constraints.filters filter)) from to)
copy_asks l p g a b s from to i j filter one is_from two is_to inside e =
    let later = two.stays i is_from.inside in
    let all = two.filters ∙ one.filters in
    let last = adds_copy l p b s record { from = i; to = j; filter = filter } two.laid later.0 is_to.inside (subst (λ fs. filter < length fs) (sym all) inside) e in
    let both = adds_after l p g b record b { solver = s } (Passes l b record { from = i; to = j; filter = filter })
    (adds_after l p g a b (λ t. ⊤) one two) last in
    adds_as l p g record b { solver = s } (Passes l b record { from = i; to = j; filter = filter }) (λ t. IncludesThrough l t (has (set_at g.solver.constraints.filters filter)) from to)
    (λ t is x there pass.
    is_to.same t x ∙ is_there t is x (sym (later.1 t x ∙ is_from.same t x) ∙ there) (subst (λ fs. has (set_at fs filter) x ≡ true) all pass))
    (λ t range is from_there to_there x there pass.
    sym (is_to.same t x) ∙ is x ((later.1 t x ∙ is_from.same t x) ∙ there) (subst (λ fs. has (set_at fs filter) x ≡ true) (sym all) pass))
    both
  where
    is_there : (t : FactSets) → IncludesThrough l t (has (set_at g.solver.constraints.filters filter)) from to → (x : ℕ) → at t from x ≡ true
        → has (set_at g.solver.constraints.filters filter) x ≡ true → at t to x ≡ true
    is_there t is x = is is_from.there is_to.there x

-- ---- one after the other, along a list

all_one : {X : Type 0} (Q : X → Type 0) (xs : List X) (x : X) → AllByRecursion Q xs → Q x → AllByRecursion Q (xs ++ x ∷ [])
all_one Q [] x all one = (one, tt)
all_one Q (y ∷ xs) x all one = (all.0, all_one Q xs x all.1 one)

one_of_all : {X : Type 0} (Q : X → Type 0) (xs : List X) (x : X) → AllByRecursion Q (xs ++ x ∷ []) → AllByRecursion Q xs × Q x
one_of_all Q [] x all = (tt, all.0)
one_of_all Q (y ∷ xs) x all = let rest = one_of_all Q xs x all.1 in ((all.0, rest.0), rest.1)

pub adds_next : {X : Type 0} (Q : X → FactSets → Type 0) (l : Layout) (p : RegProgram) (a b d : Found) (xs : List X) (i : ℕ) (x : X) → i < length xs
    → Adds l p a b (λ t. AllByRecursion (λ y. Q y t) (take i xs)) → Adds l p b d (Q (get_or xs i x)) → Adds l p a d (λ t. AllByRecursion (λ y. Q y t) (take (i + 1) xs))
adds_next {X} Q l p a b d xs i x h one two =
    let last : X = get_or xs i x in
    subst (λ (ys : List X). Adds l p a d (λ t. AllByRecursion (λ y. Q y t) ys)) (sym (take_more xs i x h))
    (adds_as l p a d (λ t. AllByRecursion (λ y. Q y t) (take i xs) × Q last t) (λ t. AllByRecursion (λ y. Q y t) (take i xs ++ last ∷ []))
    (λ t all. one_of_all (λ y. Q y t) (take i xs) last all)
    (λ t range all. all_one (λ y. Q y t) (take i xs) last all.0 all.1)
    (adds_both l p a b d (λ t. AllByRecursion (λ y. Q y t) (take i xs)) (Q last) one two))

-- at the end of the list
pub adds_all : {X : Type 0} (Q : X → FactSets → Type 0) (l : Layout) (p : RegProgram) (a b : Found) (xs : List X) (i : ℕ) → length xs ≤ i
    → Adds l p a b (λ t. AllByRecursion (λ y. Q y t) (take i xs)) → Adds l p a b (λ t. AllByRecursion (λ y. Q y t) xs)
adds_all {X} Q l p a b xs i h adds = subst (λ (ys : List X). Adds l p a b (λ t. AllByRecursion (λ y. Q y t) ys)) (take_whole xs i h) adds

-- sets that are alike at each place have as many pairs
same_pairs : (a b : List (List ℕ)) → ((i : ℕ) → set_at b i ≡ set_at a i) → pair_count b ≡ pair_count a
same_pairs [] [] e = refl
same_pairs [] (y ∷ b) e = let first : length y ≡ 0 = ap length (e 0) in omega (arith, first, same_pairs [] b (λ i. e (suc i)), sum_by-cons length y b)
same_pairs (x ∷ a) [] e = let first : 0 ≡ length x = ap length (e 0) in omega (arith, first, same_pairs a [] (λ i. e (suc i)), sum_by-cons length x a)
same_pairs (x ∷ a) (y ∷ b) e =
    let first : length y ≡ length x = ap length (e 0) in
    omega (arith, first, same_pairs a b (λ i. e (suc i)), sum_by-cons length x a, sum_by-cons length y b)

pub keeps_of : (l : Layout) (p : RegProgram) (g g' : Found) (P : FactSets → Type 0) → Adds l p g g' P → Keeps l g g'
keeps_of l p g g' P adds = record {
  laid = adds.laid;
  filters = adds.filters;
  grown = adds.grown;
  pairs = same_pairs g.solver.sets g'.solver.sets adds.sets;
  order = adds.order;
}

pub keeps_nothing : (l : Layout) (g : Found) → IsLaid l g → Keeps l g g
keeps_nothing l g laid = record { laid = laid; filters = refl; grown = refl; pairs = refl; order = ([], nothing_after g.reached.keys) }

pub keeps_both : (l : Layout) (a b d : Found) → Keeps l a b → Keeps l b d → Keeps l a d
keeps_both l a b d one two = record {
  laid = two.laid;
  filters = two.filters ∙ one.filters;
  grown = two.grown ∙ one.grown;
  pairs = two.pairs ∙ one.pairs;
  order = (one.order.0 ++ two.order.0, two.order.1 ∙ ap (λ xs. xs ++ two.order.0) one.order.1 ∙ append_twice a.reached.keys one.order.0 two.order.0);
}

-- nothing is asked that would hold of few facts alone
pub adds_none : (l : Layout) (p : RegProgram) (g : Found) (P : FactSets → Type 0) → IsLaid l g → ((t : FactSets) → AreInRange l t → P t) → Adds l p g g P
adds_none l p g P laid always = adds_as l p g g (λ t. ⊤) P (λ t is. tt) (λ t range is. always t range) (adds_nothing l p g laid)
