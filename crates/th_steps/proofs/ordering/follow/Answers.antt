use Rattle.std.proofs.Common.{length, arith}
use Rattle.th_steps.proofs.Mentioned.{follow_more, follow_stop, follow_end}
use Rattle.th_steps.proofs.ordering.follow.Goals as goal

pub loop-k-preserved : goal.loop-k-preserved
loop-k-preserved c =
    follow_more c.args.query.now (length c.args.query.now.syms) c.loop-k.k c.index-symbol.result.now c.loop-k.order.items c.mention_next.new.order.items _ (omega arith) (omega arith)
    c.index-symbol.ensures c.in_ok-mention_next.ensures c.loop-k.invariant

pub returns-then-k-len : goal.returns-then-k-len
returns-then-k-len c = follow_stop c.args.query.now _ c.loop-k.k c.loop-k.order.items _ (omega arith) c.loop-k.invariant

pub returns : goal.returns
returns c = follow_end c.args.query.now (length c.args.query.now.syms) c.loop-k.k c.loop-k.order.items _ (omega arith) c.loop-k.invariant
