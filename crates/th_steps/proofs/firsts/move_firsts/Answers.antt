use Rattle.std.proofs.Common.{◌+◌, ◌∙◌, ap, sym, take, drop, arith}
use Rattle.th_query.specs.Unified.{put_new}
use Rattle.th_steps.proofs.Sinking.{first_kept, later_goes}
use Rattle.th_steps.proofs.firsts.move_firsts.Goals as goal
use Rattle.th_steps.proofs.firsts.move_firsts.Goals.{then-not-has_alike, else-not-has_alike}

pub loop-i-preserved : goal.loop-i-preserved
loop-i-preserved g c =
    let A = g.A.Alike.alike in
    let xs = c.loop-i.items in
    let i = c.loop-i.i in
    let kept = c.loop-i.kept in
    let le = c.loop-i.invariant.0 in
    let lt = c.loop-i-test.true in
    elim c.if-not-has_alike.branch [
      | then-not-has_alike w ↦ (
        (let k = w.kept-is in omega (arith, k, le)),
        ap (λ n. put_new A (take n c.if-not-has_alike.items) (drop (i + 1) c.if-not-has_alike.items)) w.kept-is
            ∙ ap (λ ys. put_new A (take (kept + 1) ys) (drop (i + 1) ys)) w.items-is
            ∙ first_kept A xs kept i c.index-items-i.result le (let long = c.loop-i.auto.items in omega (arith, lt, long)) c.index-items-i.is (sym c.has_alike.ensures ∙ w.if-not-has_alike.true)
            ∙ c.loop-i.invariant.1,
      )
      | else-not-has_alike w ↦ (
        (let k = w.kept-is in omega (arith, k, le)),
        ap (λ n. put_new A (take n c.if-not-has_alike.items) (drop (i + 1) c.if-not-has_alike.items)) w.kept-is
            ∙ ap (λ ys. put_new A (take kept ys) (drop (i + 1) ys)) w.items-is
            ∙ later_goes A xs kept i c.index-items-i.result (let long = c.loop-i.auto.items in omega (arith, lt, long)) c.index-items-i.is (sym c.has_alike.ensures ∙ w.if-not-has_alike.false)
            ∙ c.loop-i.invariant.1,
      )
    ]
