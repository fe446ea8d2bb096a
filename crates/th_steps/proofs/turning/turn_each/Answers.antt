use Rattle.std.proofs.Common.{arith}
use Rattle.th_steps.proofs.Turned.{turned_more}
use Rattle.th_steps.proofs.turning.turn_each.Goals as goal

pub loop-i-preserved : goal.loop-i-preserved
loop-i-preserved g c =
    let lt = c.loop-i-test.true in
    let long = c.loop-i.auto.items in
    turned_more (g.M.Turn.turned c.args.with.now) c.loop-i.items c.args.items.now c.loop-i.i c.index-items-i.result c.turn.result (omega (arith, lt, long)) long c.index-items-i.is c.turn.ensures c.loop-i.invariant.0 c.loop-i.invariant.1
