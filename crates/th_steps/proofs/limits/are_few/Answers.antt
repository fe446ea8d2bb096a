use Rattle.th_steps.proofs.Cutting.{uncut_more}
use Rattle.th_steps.proofs.limits.are_few.Goals as goal

pub loop-frame-preserved : goal.loop-frame-preserved
loop-frame-preserved c = λ e.
    c.loop-frame.invariant
    (uncut_more c.loop-frame.room c.len-count.result c.args.frames.now c.loop-frame.frame-index c.frame-item.result c.loop-frame-test.true c.frame-item.is c.len-count.ensures c.if-count-room.false e)
