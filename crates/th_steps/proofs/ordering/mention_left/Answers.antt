use Rattle.th_query.specs.Symbols.{is_left}
use Rattle.th_steps.proofs.Mentioned.{left_more}
use Rattle.th_steps.proofs.ordering.mention_left.Goals as goal

pub loop-symbol-preserved : goal.loop-symbol-preserved
loop-symbol-preserved c =
    left_more (is_left c.args.query.now) c.loop-symbol.symbol c.args.order.now.items c.loop-symbol.order.items c.mention_one_left.new.order.items c.loop-symbol.invariant c.in_ok-mention_one_left.ensures
