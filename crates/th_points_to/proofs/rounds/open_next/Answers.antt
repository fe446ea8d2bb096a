use Rattle.std.proofs.Common.{◌≡◌, ℕ, ◌<◌, true, List, [], length, Some, slice_get, refl, sym, ap, subst, arith, ◌∙◌}
use Rattle.std.specs.List.{AllByRecursion}
use Rattle.std.proofs.lemmas.List.{length-append}
use Rattle.th_base.specs.IdSet.{has}
use Rattle.th_incl.specs.Least.{set_at}
use Rattle.th_incl.proofs.Through.{read_at}
use Rattle.th_points_to.specs.Found.{Adds}
use Rattle.th_points_to.specs.Opening.{OpensAt}
use Rattle.th_points_to.proofs.Adding.{keeps_nothing}
use Rattle.th_points_to.proofs.RoundLemmas.{round_opened, state_opened, contains_at}
use Rattle.th_points_to.proofs.rounds.open_next.Goals as goal

pub open_nodes-requires-clause-laid : goal.open_nodes-requires-clause-laid
open_nodes-requires-clause-laid c = c.requires.laid

pub open_nodes-requires-clause-tables : goal.open_nodes-requires-clause-tables
open_nodes-requires-clause-tables c = c.requires.tables

pub returns-then-at-len-clause-state : goal.returns-then-at-len-clause-state
returns-then-at-len-clause-state c =
    let s = c.args.state.now in
    let m = c.in-Some.method in
    let at : slice_get s.found.reached.keys s.opened ≡ Some m = sym c.reached_at.ensures.value ∙ c.in-Some.is in
    state_opened c.args.hierarchy.now c.args.layout c.args.program.now c.args.tables.now s _ m c.requires c.in_ok-open_nodes.ensures.keeps refl c.enter.ensures.len refl at
    c.enter.ensures.stays (λ inside. c.enter.ensures.here (omega (arith, inside, c.requires.entered_len)))

pub returns-then-at-len-clause-round : goal.returns-then-at-len-clause-round
returns-then-at-len-clause-round c = λ are is.
    let h = c.args.hierarchy.now in
    let l = c.args.layout in
    let p = c.args.program.now in
    let s = c.args.state.now in
    let m = c.in-Some.method in
    let table = c.args.tables.now.nodes.items in
    let at : slice_get s.found.reached.keys s.opened ≡ Some m = sym c.reached_at.ensures.value ∙ c.in-Some.is in
    let inside : m < length p.methods = omega (arith, c.if-at-len.true, c.len.ensures, c.requires.tables.nodes.len) in
    let row_is : c.as_slice-then-at-len.result.now ≡ set_at table m = c.as_slice-then-at-len.ensures ∙ read_at table m c.index.result.now c.index.ensures (omega (arith, c.if-at-len.true, c.len.ensures)) in
    let adds = subst (λ (hs : List (List ℕ)). Adds l p s.found c.open_nodes.new.found (λ t. AllByRecursion (OpensAt h l p hs t) c.as_slice-then-at-len.result.now)) c.as_slice.ensures.value
    (c.in_ok-open_nodes.ensures.adds are is.round.go is.inits) in
    record {
      round = round_opened h l p s.handled.items s.entered.items c.enter.new.entered.items [] s.found c.open_nodes.new.found m c.as_slice-then-at-len.result.now is.round (contains_at s.found.reached.keys s.opened m at)
          c.enter.ensures.only
          (λ n one node stands. c.requires.tables.nodes.only m n (subst (λ (xs : List ℕ). has xs n ≡ true) row_is one) node stands)
          (λ n node stands e. subst (λ (xs : List ℕ). has xs n ≡ true) (sym row_is)
          (subst (λ (k : ℕ). has (set_at table k) n ≡ true) e (c.requires.tables.nodes.all n node stands (subst (λ (k : ℕ). k < length p.methods) (sym e) inside))))
          adds;
      inits = c.in_ok-open_nodes.ensures.inits are is.round.go is.inits;
    }

pub returns-clause-state : goal.returns-clause-state
returns-clause-state c =
    let s = c.args.state.now in
    let m = c.in-Some.method in
    let at : slice_get s.found.reached.keys s.opened ≡ Some m = sym c.reached_at.ensures.value ∙ c.in-Some.is in
    state_opened c.args.hierarchy.now c.args.layout c.args.program.now c.args.tables.now s _ m c.requires (keeps_nothing c.args.layout s.found c.requires.laid) refl refl refl at
    (λ k is. is) (λ inside. absurd (omega (arith, inside, c.if-at-len.false, c.len.ensures, c.requires.tables.nodes.len)))

pub returns-clause-round : goal.returns-clause-round
returns-clause-round c = λ are is. record { round = is.round; inits = is.inits }

pub returns-then-at-len-clause-keeps : goal.returns-then-at-len-clause-keeps
returns-then-at-len-clause-keeps c =
    let keeps = c.in_ok-open_nodes.ensures.keeps in
    let old = c.args.state.now.found.reached.keys in
    record { pairs = keeps.pairs; grown = keeps.grown; opened = omega arith; reached = omega (arith, ap length keeps.order.1, length-append old keeps.order.0) }

pub returns-clause-keeps : goal.returns-clause-keeps
returns-clause-keeps c = record { pairs = refl; grown = refl; opened = omega arith; reached = omega arith }

pub returns-in-None-clause-keeps : goal.returns-in-None-clause-keeps
returns-in-None-clause-keeps c = record { pairs = refl; grown = refl; opened = omega arith; reached = omega arith }
