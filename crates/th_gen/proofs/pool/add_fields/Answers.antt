use Rattle.th_gen.specs.Items.{field_items}
use Rattle.th_gen.proofs.Loops.{pool_more}
use Rattle.th_gen.proofs.pool.add_fields.Goals as goal

pub loop-field-preserved : goal.loop-field-preserved
loop-field-preserved c =
    pool_more field_items c.args.fields.now c.loop-field.field-index c.field-item.result c.args.items.now.keys c.loop-field.items.keys c.add_header.new.items.keys c.loop-field-test.true c.field-item.is c.loop-field.invariant c.in_ok-add_header.ensures
