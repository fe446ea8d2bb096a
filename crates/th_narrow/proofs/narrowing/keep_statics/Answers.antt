use Rattle.th_narrow.specs.Rounds.{static_set}
use Rattle.th_narrow.proofs.Stepping.{bounds_none, bounds_more, passes_restricted}
use Rattle.th_narrow.proofs.narrowing.keep_statics.Goals as goal

pub loop-pair-init : goal.loop-pair-init
loop-pair-init c = bounds_none (static_set c.args.sets.now) c.args.statics.now c.args.syms.now

pub loop-pair-preserved : goal.loop-pair-preserved
loop-pair-preserved c =
    bounds_more (static_set c.args.sets.now) c.args.statics.now c.loop-pair.pair-index _ c.args.syms.now c.loop-pair.syms c.keep_place.new.syms c.loop-pair-test.true c.loop-pair.invariant
    (passes_restricted c.loop-pair.syms _ _ c.keep_place.new.syms c.in_ok-keep_place.ensures)
