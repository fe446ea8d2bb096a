use Rattle.std.proofs.Common.{◌≡◌, ℕ, List, Option, slice_index, ap, subst, sym, ◌∙◌, below_more, arith}
use Rattle.th_syntax.specs.Kinds.{KindsAt}
use Rattle.th_kinds.specs.States.{seen_state}
use Rattle.th_kinds.specs.Kept.{seen_kept, with_merged, IsUnder, IsHeldFor}
use Rattle.th_kinds.proofs.MergedKept.{under_merged, held_merged, length-seen}
use Rattle.th_kinds.proofs.kept.spread.Goals as goal
use Rattle.th_kinds.proofs.kept.spread.Goals.{then-branch, else-branch}

pub loop-target-preserved : goal.loop-target-preserved
loop-target-preserved c =
    let merged = c.in_ok-bring.ensures.merged in
    record {
      under = λ u old at.
          subst (λ (kept : List (Option KindsAt)). IsUnder kept u) (sym merged)
          (under_merged (seen_kept c.loop-target.kept) c.place_of-place.result (seen_state c.args.brought.now) u (c.loop-target.invariant.under u old at)
          (at c.loop-target.target-index c.loop-target-test.true c.place_of-place.result c.place_of-place.ensures.inside c.place_of-place.ensures.found));
      places = c.in_ok-bring.ensures.places ∙ c.loop-target.invariant.places;
      same = elim c.if-branch.branch [
        | then-branch w ↦ λ e. absurd (let t = w.changed-is in cc)
        | else-branch w ↦ λ e. c.in_ok-bring.ensures.same w.if-branch.false ∙ c.loop-target.invariant.same (sym w.changed-is ∙ e)
      ];
      held = elim c.if-branch.branch [
        | then-branch w ↦ λ e. absurd (let t = w.changed-is in cc)
        | else-branch w ↦ λ e.
            let before = c.loop-target.invariant.same (sym w.changed-is ∙ e) in
            let still = c.in_ok-bring.ensures.same w.if-branch.false in
            let quiet : with_merged (seen_kept c.args.kept.now) c.place_of-place.result (seen_state c.args.brought.now) ≡ seen_kept c.args.kept.now =
            ap (λ (kept : List (Option KindsAt)). with_merged kept c.place_of-place.result (seen_state c.args.brought.now)) (sym before) ∙ sym merged ∙ still ∙ before in
            below_more (λ (t : ℕ). IsHeldFor (seen_kept c.args.kept.now) c.args.offsets.now (slice_index c.args.targets.now t) (seen_state c.args.brought.now)) c.loop-target.target-index
            (c.loop-target.invariant.held (sym w.changed-is ∙ e))
            (held_merged (seen_kept c.args.kept.now) c.args.offsets.now c.place_of-place.result (slice_index c.args.targets.now c.loop-target.target-index) (seen_state c.args.brought.now)
            (length-seen c.args.kept.now ∙ c.requires.length) c.requires.ascending c.place_of-place.ensures.inside c.place_of-place.ensures.found quiet)
      ];
      less = elim c.if-branch.branch [
        | then-branch w ↦ λ e. let less = c.in_ok-bring.ensures.less w.if-branch.true in let most = c.loop-target.invariant.most in omega arith
        | else-branch w ↦ λ e. let most = c.in_ok-bring.ensures.most in let less = c.loop-target.invariant.less (sym w.changed-is ∙ e) in omega arith
      ];
      work = let one = c.in_ok-bring.ensures.work in let all = c.loop-target.invariant.work in omega arith;
      most = let one = c.in_ok-bring.ensures.most in let most = c.loop-target.invariant.most in omega arith;
    }
