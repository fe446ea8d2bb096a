use Rattle.th_gen.specs.Items.{instr_items}
use Rattle.th_gen.proofs.Loops.{pool_more}
use Rattle.th_gen.proofs.pool.add_instrs.Goals as goal

pub loop-instr-preserved : goal.loop-instr-preserved
loop-instr-preserved c =
    pool_more instr_items c.args.instrs.now c.loop-instr.instr-index c.instr-item.result c.args.items.now.keys c.loop-instr.items.keys c.add_instr.new.items.keys c.loop-instr-test.true c.instr-item.is c.loop-instr.invariant c.in_ok-add_instr.ensures
