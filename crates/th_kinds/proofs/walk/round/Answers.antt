use Rattle.std.proofs.Common.{ℕ, suc, List, Option, refl, sym, ap, subst, ◌∙◌, add-one, below_more, arith}
use Rattle.th_syntax.specs.Kinds.{KindsAt}
use Rattle.th_syntax.specs.KindTable.{IsHeld}
use Rattle.th_syntax.specs.KindRows.{row_of, after}
use Rattle.th_syntax.proofs.LeastKinds.{held_along}
use Rattle.th_kinds.specs.States.{seen_state}
use Rattle.th_kinds.specs.Kept.{seen_kept, IsHeldAt, IsStill}
use Rattle.th_kinds.specs.Walk.{line, jumps, fallen_behind, falls_in, here, kept_at}
use Rattle.th_kinds.proofs.walk.round.Goals as goal
use Rattle.th_kinds.proofs.walk.round.Goals.{then-gone, else-gone}

pub loop-place-init : goal.loop-place-init
unfolding falls_in
loop-place-init c = record {
  under = λ u stable old. old;
  fall = λ u stable old inside. subst (λ (s : KindsAt). IsHeld s (u 0)) (sym c.in_ok-fallen.ensures) stable.begun;
  places = refl;
  same = λ e. refl;
  state = λ e. c.in_ok-fallen.ensures;
  still = λ e k below. absurd (omega arith);
  less = λ e. absurd cc;
  most = omega arith;
}

pub returns-clause-still : goal.returns-clause-still
returns-clause-still c e k inside = c.loop-place.invariant.still e k (omega arith)

pub loop-place-preserved : goal.loop-place-preserved
unfolding falls_in
loop-place-preserved c =
    let inv = c.loop-place.invariant in
    let done = c.in_ok-gone.ensures in
    record {
      under = λ u stable old.
          done.under u (inv.under u stable old) (inv.fall u stable old c.loop-place-test.true) (stable.jumping c.loop-place.place c.loop-place-test.true);
      fall = λ u stable old next.
          subst (λ (n : ℕ). IsHeld (seen_state c.in_ok-gone.gone.state) (u n)) (sym (add-one c.loop-place.place))
          (held_along (seen_state c.in_ok-gone.gone.state) (fallen_behind (line c.args.code.now.instrs.now c.loop-place.place).1 (u c.loop-place.place)) (u (suc c.loop-place.place))
          (done.out u (inv.under u stable old) (inv.fall u stable old c.loop-place-test.true)) (stable.falling c.loop-place.place (omega arith)));
      places = done.places ∙ inv.places;
      same = elim c.if-gone.branch [
        | then-gone w ↦ λ e. absurd (let t = w.changed-is in cc)
        | else-gone w ↦ λ e. done.same w.if-gone.false ∙ inv.same (sym w.changed-is ∙ e)
      ];
      state = elim c.if-gone.branch [
        | then-gone w ↦ λ e. absurd (let t = w.changed-is in cc)
        | else-gone w ↦ λ e.
            done.state w.if-gone.false
            ∙ ap (λ (s : KindsAt). fallen_behind (line c.args.code.now.instrs.now c.loop-place.place).1 (here s (kept_at (seen_kept c.loop-place.kept) c.loop-place.place))) (inv.state (sym w.changed-is ∙ e))
            ∙ ap (λ (ks : List (Option KindsAt)). fallen_behind (line c.args.code.now.instrs.now c.loop-place.place).1 (here (falls_in (seen_state c.args.entry.now) c.args.code.now.instrs.now (seen_kept c.args.kept.now) c.loop-place.place) (kept_at ks c.loop-place.place))) (inv.same (sym w.changed-is ∙ e))
            ∙ ap (falls_in (seen_state c.args.entry.now) c.args.code.now.instrs.now (seen_kept c.args.kept.now)) (sym (add-one c.loop-place.place))
      ];
      still = elim c.if-gone.branch [
        | then-gone w ↦ λ e. absurd (let t = w.changed-is in cc)
        | else-gone w ↦ λ e.
            let old_same = inv.same (sym w.changed-is ∙ e) in
            let old_state = inv.state (sym w.changed-is ∙ e) in
            below_more (λ (k : ℕ). IsStill (seen_state c.args.entry.now) c.args.code.now.instrs.now c.args.code.now.offsets.items (seen_kept c.args.kept.now) k) c.loop-place.place (inv.still (sym w.changed-is ∙ e))
            (record {
              falling = λ known stands. subst (λ (s : KindsAt). IsHeld s known) old_state (done.falling w.if-gone.false known (ap (λ (ks : List (Option KindsAt)). kept_at ks c.loop-place.place) old_same ∙ stands));
              jumping =
                  subst (λ (s : KindsAt). IsHeldAt (seen_kept c.args.kept.now) c.args.code.now.offsets.items (jumps (line c.args.code.now.instrs.now c.loop-place.place).1) (after (row_of (line c.args.code.now.instrs.now c.loop-place.place).1) (here s (kept_at (seen_kept c.args.kept.now) c.loop-place.place)))) old_state
                  (subst (λ (ks : List (Option KindsAt)). IsHeldAt ks c.args.code.now.offsets.items (jumps (line c.args.code.now.instrs.now c.loop-place.place).1) (after (row_of (line c.args.code.now.instrs.now c.loop-place.place).1) (here (seen_state c.loop-place.fallen) (kept_at ks c.loop-place.place)))) old_same
                  (done.jumping w.if-gone.false));
            })
      ];
      less = elim c.if-gone.branch [
        | then-gone w ↦ λ e. let less = done.less w.if-gone.true in let most = inv.most in omega arith
        | else-gone w ↦ λ e. let most = done.most in let less = inv.less (sym w.changed-is ∙ e) in omega arith
      ];
      most = let one = done.most in let most = inv.most in omega arith;
    }
