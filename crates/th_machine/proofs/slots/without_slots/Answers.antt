use Rattle.th_machine.proofs.Dropping.{popped_more}
use Rattle.th_machine.proofs.slots.without_slots.Goals as goal

pub loop-preserved : goal.loop-preserved
loop-preserved c = popped_more c.args.stack c.loop.rest c.pop.new.self c.loop.counter c.pop.result c.loop.invariant c.pop.ensures
