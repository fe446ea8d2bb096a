use Rattle.std.proofs.Common.{◌≡◌, inl, inr, ℕ, ◌<◌, Bool, true, List, length, set, refl, sym, ap, subst, arith, ◌∙◌}
use Rattle.std.specs.List.{AllByRecursion}
use Rattle.std.proofs.lemmas.List.{length-set, length-append}
use Rattle.th_base.specs.IdSet.{has, difference_of}
use Rattle.th_incl.specs.Least.{set_at}
use Rattle.th_incl.proofs.Through.{read_at}
use Rattle.th_points_to.specs.Found.{Adds}
use Rattle.th_points_to.specs.Opening.{MeetsAt}
use Rattle.th_points_to.specs.Rounds.{IsRound}
use Rattle.th_points_to.proofs.Initialising.{inits_kept}
use Rattle.th_points_to.proofs.RoundLemmas.{fresh_or_not, is_fresh, round_met, round_past, state_kept}
use Rattle.th_points_to.proofs.rounds.look.Goals as goal

pub returns-then-register-layout-clause-state : goal.returns-then-register-layout-clause-state
returns-then-register-layout-clause-state c = c.requires

pub returns-then-register-layout-clause-round : goal.returns-then-register-layout-clause-round
returns-then-register-layout-clause-round c = λ are waiting later front is.
    record {
      round = round_past c.args.hierarchy.now c.args.layout c.args.program.now c.args.state.now.handled.items c.args.state.now.entered.items waiting later c.args.state.now.found c.args.register
          c.if-register-layout.true front is.round;
      inits = is.inits;
    }

pub meet-requires-clause-laid : goal.meet-requires-clause-laid
meet-requires-clause-laid c = c.requires.laid

pub meet-requires-clause-tables : goal.meet-requires-clause-tables
meet-requires-clause-tables c = c.requires.tables

pub put_handled-requires : goal.put_handled-requires
put_handled-requires c = omega (arith, c.requires.handled_len, c.if-register-layout.false)

pub returns-clause-state : goal.returns-clause-state
returns-clause-state c =
    state_kept c.args.hierarchy.now c.args.layout c.args.program.now c.args.tables.now c.args.state.now _ c.requires c.in_ok-meet.ensures.keeps
    (ap length c.put_handled.ensures ∙ length-set c.args.state.now.handled.items c.args.register c.in_ok-now.now) refl refl

pub returns-clause-round : goal.returns-clause-round
returns-clause-round c = λ are waiting later front is.
    let h = c.args.hierarchy.now in
    let l = c.args.layout in
    let p = c.args.program.now in
    let s = c.args.state.now in
    let r = c.args.register in
    let inside : r < l.registers = omega (arith, c.if-register-layout.false) in
    let within : r < length s.handled.items = omega (arith, inside, c.requires.handled_len) in
    let old : List ℕ = set_at s.handled.items r in
    let now_is : c.in_ok-now.now ≡ set_at s.found.solver.sets r = c.in_ok-now.ensures ∙ ap (λ (ss : List (List ℕ)). set_at ss r) c.sets.ensures in
    let handled_is : c.index.result.now ≡ old = read_at s.handled.items r c.index.result.now c.index.ensures within in
    let fresh_is : c.ids.result.now ≡ difference_of c.in_ok-now.now old = c.ids.ensures.value ∙ c.in_ok-fresh.ensures ∙ ap (difference_of c.in_ok-now.now) handled_is in
    let row_is : c.as_slice-2.result.now ≡ set_at c.args.tables.now.based.items r =
    c.as_slice-2.ensures ∙ read_at c.args.tables.now.based.items r c.index-2.result.now c.index-2.ensures (omega (arith, inside, c.requires.tables.based.len)) in
    let adds = subst (λ (e : List Bool). Adds l p s.found c.meet.new.found (λ t. AllByRecursion (MeetsAt h l p e c.ids.result.now t) c.as_slice-2.result.now)) c.as_slice.ensures.value
    (c.in_ok-meet.ensures.adds are is.round.go) in
    record {
      round = subst (λ (hs : List (List ℕ)). IsRound h l p hs s.entered.items later c.meet.new.found) (sym (c.put_handled.ensures ∙ ap (set s.handled.items r) now_is))
          (round_met h l p s.handled.items s.entered.items waiting later s.found c.meet.new.found r c.ids.result.now c.as_slice-2.result.now is.round inside within front
          (λ n one node at. c.requires.tables.based.only r n (subst (λ (xs : List ℕ). has xs n ≡ true) row_is one) node at)
          (λ n node at e. subst (λ (xs : List ℕ). has xs n ≡ true) (sym row_is) (c.requires.tables.based.all n node record { 0 = r } at e inside))
          (λ a there. elim (fresh_or_not c.in_ok-now.now old a (subst (λ (xs : List ℕ). has xs a ≡ true) (sym now_is) there)) [
            | inl o ↦ inl o
            | inr f ↦ inr (subst (λ (xs : List ℕ). has xs a ≡ true) (sym fresh_is) f)
          ])
          (λ a f. subst (λ (xs : List ℕ). has xs a ≡ true) now_is (is_fresh c.in_ok-now.now old a (subst (λ (xs : List ℕ). has xs a ≡ true) fresh_is f)))
          adds);
      inits = inits_kept h l p s.found c.meet.new.found _ s.met.keys adds is.inits;
    }

pub returns-then-register-layout-clause-keeps : goal.returns-then-register-layout-clause-keeps
returns-then-register-layout-clause-keeps c = record { pairs = refl; grown = refl; opened = omega arith; reached = omega arith }

pub returns-clause-keeps : goal.returns-clause-keeps
returns-clause-keeps c =
    let keeps = c.in_ok-meet.ensures.keeps in
    let old = c.args.state.now.found.reached.keys in
    record { pairs = keeps.pairs; grown = keeps.grown; opened = omega arith; reached = omega (arith, ap length keeps.order.1, length-append old keeps.order.0) }

pub returns-clause-opened : goal.returns-clause-opened
returns-clause-opened c = refl
