use Rattle.std.proofs.Common.{ℕ, ◌+◌, suc, sym, subst, ◌∙◌, add-one, arith}
use Rattle.th_syntax.specs.KindTable.{IsHeld}
use Rattle.th_syntax.proofs.LeastKinds.{held_along}
use Rattle.th_kinds.specs.States.{seen_state}
use Rattle.th_kinds.specs.Kept.{seen_kept}
use Rattle.th_kinds.specs.Walk.{line, fallen_behind}
use Rattle.th_kinds.proofs.Visits.{arrived_under}
use Rattle.th_kinds.proofs.settle.follow.Goals as goal

pub loop-place-preserved : goal.loop-place-preserved
loop-place-preserved c =
    let inv = c.loop-place.invariant in
    let done = c.in_ok-gone.ensures in
    record {
      under = λ first u stable low old.
          done.under u (inv.under first u stable low old) (inv.fall first u stable low old c.loop-place-test.true) (stable.jumping c.loop-place.place c.loop-place-test.true);
      fall = λ first u stable low old next.
          subst (λ (n : ℕ). IsHeld (seen_state c.in_ok-gone.gone.state) (u n)) (sym (add-one c.loop-place.place))
          (held_along (seen_state c.in_ok-gone.gone.state) (fallen_behind (line c.args.code.now.instrs.now c.loop-place.place).1 (u c.loop-place.place)) (u (suc c.loop-place.place))
          (done.out u (inv.under first u stable low old) (inv.fall first u stable low old c.loop-place-test.true)) (stable.falling c.loop-place.place (omega arith)));
      places = done.places ∙ inv.places;
      most = let one = done.most in let most = inv.most in omega arith;
      work = let one = done.work in let all = inv.work in omega arith;
    }

pub returns-then-is_some-clause-under : goal.returns-then-is_some-clause-under
returns-then-is_some-clause-under c first u stable low old =
    let inv = c.loop-place.invariant in
    let done = c.in_ok-gone.ensures in
    let before = inv.under first u stable low old in
    let falls = inv.fall first u stable low old c.loop-place-test.true in
    arrived_under (seen_kept c.visit.new.kept) (seen_kept c.bring.new.kept) (c.loop-place.place + 1) (seen_state c.in_ok-gone.gone.state) u c.in_ok-_changed.ensures.merged
    (done.under u before falls (stable.jumping c.loop-place.place c.loop-place-test.true))
    (subst (λ (n : ℕ). IsHeld (seen_state c.in_ok-gone.gone.state) (u n)) (sym (add-one c.loop-place.place))
    (held_along (seen_state c.in_ok-gone.gone.state) (fallen_behind (line c.args.code.now.instrs.now c.loop-place.place).1 (u c.loop-place.place)) (u (suc c.loop-place.place))
    (done.out u before falls) (stable.falling c.loop-place.place (let inside = c.if-place-code.true in omega arith))))
