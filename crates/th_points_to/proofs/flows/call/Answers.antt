use Rattle.std.proofs.Common.{◌≡◌, inl, inr, ℕ, List, [], ◌∷◌, true, refl, sym, subst}
use Rattle.std.specs.List.{Contains}
use Rattle.std.proofs.lemmas.List.Elements.{Contains-append_left, Contains-push_cases}
use Rattle.indexmap.proofs.CallerLemmas.{Contains-insert_key}
use Rattle.th_ir.specs.declared.program.Node.{Node}
use Rattle.th_ir.specs.Program.{node_at}
use Rattle.th_ir.proofs.Plain.{same_found}
use Rattle.th_points_to.specs.Asked.{Goes, Calls}
use Rattle.th_points_to.proofs.Adding.{adds_as, adds_both, adds_call, adds_nothing, key_cases, keeps_nothing, keeps_of, keeps_both, nothing_after}
use Rattle.th_points_to.proofs.Pairs.{pair_eq, pair_same}
use Rattle.th_points_to.proofs.flows.call.Goals as goal

pub returns-then-is_called-clause-adds : goal.returns-then-is_called-clause-adds
returns-then-is_called-clause-adds c = λ go.
    let l = c.args.layout in
    let p = c.args.program.now in
    let g = c.args.found.now in
    let one : Contains g.calls.keys (c.args.number, c.args.to.0) = c.is_called.ensures c.if-is_called.true in
    let none = adds_nothing l p g c.requires.laid in
    record {
      laid = none.laid;
      go = none.go;
      sound = λ t h is. h;
      complete = λ t range h. (h, record { call = h.calls c.args.number c.args.to.0 one; goes = go t range h c.args.number c.args.to.0 one c.args.node.now c.requires.node });
      filters = none.filters;
      grown = none.grown;
      sets = none.sets;
      stays = none.stays;
      order = none.order;
    }

pub returns-clause-adds : goal.returns-clause-adds
returns-clause-adds c = λ go.
    let l = c.args.layout in
    let p = c.args.program.now in
    let n = c.args.number in
    let m = c.args.to.0 in
    let node = c.args.node.now in
    let mid = c.go.new.found in
    let old = mid.calls.keys in
    let new = c.insert.new.self.keys in
    let key : ℕ × ℕ = (n, m) in
    let cases = key_cases pair_eq old new key c.in_ok-insert.ensures.keys in
    let first = c.in_ok-go.ensures in
    let last = adds_call l p mid _ n m first.laid refl refl refl
    (λ d one. elim cases [ inl same ↦ subst (λ (ks : List (ℕ × ℕ)). Contains ks d) (sym same) one | inr is ↦ subst (λ (ks : List (ℕ × ℕ)). Contains ks d) (sym is) (Contains-append_left old (key ∷ []) d one) ])
    (subst (λ (ks : List (ℕ × ℕ)). Contains ks key) (sym c.in_ok-insert.ensures.keys) (Contains-insert_key pair_eq pair_same old key))
    (λ d one. elim cases [ inl same ↦ inl (subst (λ (ks : List (ℕ × ℕ)). Contains ks d) same one) | inr is ↦ Contains-push_cases old key d (subst (λ (ks : List (ℕ × ℕ)). Contains ks d) is one) ])
    (λ t range h other at. subst (λ (k : Node). Goes l p t k.stmt m) (same_found (node_at p n) node other c.requires.node at) (first.complete t range h).1) in
    adds_as l p c.args.found.now _ (λ t. Goes l p t node.stmt m × (t.call n m ≡ true)) (λ t. Calls l p t n node.stmt m)
    (λ t is. (is.goes, is.call))
    (λ t range is. record { call = is.1; goes = is.0 })
    (adds_both l p c.args.found.now mid _ (λ t. Goes l p t node.stmt m) (λ t. t.call n m ≡ true) first last)

pub returns-then-is_called-clause-keeps : goal.returns-then-is_called-clause-keeps
returns-then-is_called-clause-keeps c = keeps_nothing c.args.layout c.args.found.now c.requires.laid

pub returns-clause-keeps : goal.returns-clause-keeps
returns-clause-keeps c =
    let l = c.args.layout in
    let p = c.args.program.now in
    let mid = c.go.new.found in
    let key : ℕ × ℕ = (c.args.number, c.args.to.0) in
    let cases = key_cases pair_eq mid.calls.keys c.insert.new.self.keys key c.in_ok-insert.ensures.keys in
    let first = c.in_ok-go.ensures in
    keeps_both l c.args.found.now mid _ (keeps_of l p c.args.found.now mid _ first) record {
      laid = record {
        first = first.laid.first;
        count = first.laid.count;
        range = first.laid.range;
        sites = first.laid.sites;
        filters = first.laid.filters;
        every = first.laid.every;
      };
      filters = refl;
      grown = refl;
      pairs = refl;
      order = ([], nothing_after mid.reached.keys);
    }
