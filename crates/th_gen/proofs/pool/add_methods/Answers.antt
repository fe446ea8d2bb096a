use Rattle.th_gen.specs.Items.{method_items}
use Rattle.th_gen.proofs.Loops.{pool_more}
use Rattle.th_gen.proofs.pool.add_methods.Goals as goal

pub loop-method-preserved : goal.loop-method-preserved
loop-method-preserved c =
    pool_more method_items c.args.methods.now c.loop-method.method-index c.method-item.result c.args.items.now.keys c.loop-method.items.keys c.add_method.new.items.keys c.loop-method-test.true c.method-item.is c.loop-method.invariant c.in_ok-add_method.ensures
