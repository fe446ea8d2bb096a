use Rattle.th_canonical.proofs.Ranging.{ranges_more, ranges_end}
use Rattle.th_canonical.proofs.contradiction.ranges.Goals as goal

pub loop-i-preserved : goal.loop-i-preserved
loop-i-preserved c =
    ranges_more c.loop-i.ranges.items c.push_range.new.ranges.items c.args.syms.now c.loop-i.i c.index-syms-i.result _ c.loop-i-test.true c.index-syms-i.is c.in_ok-push_range.ensures c.loop-i.invariant

pub returns : goal.returns
returns c = ranges_end c.loop-i.ranges.items c.args.syms.now c.loop-i.i _ c.loop-i-test.false c.loop-i.invariant
