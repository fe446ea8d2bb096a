use Rattle.th_gen.specs.ClassText.{field_bytes}
use Rattle.th_gen.proofs.Loops.{bytes_more}
use Rattle.th_gen.proofs.finish.put_fields.Goals as goal

pub loop-field-preserved : goal.loop-field-preserved
loop-field-preserved c =
    bytes_more (field_bytes c.args.pool.now.items.keys) c.args.fields.now c.loop-field.field-index c.field-item.result c.args.out.now.items c.loop-field.out.items c.put_field.new.out.items c.loop-field-test.true c.field-item.is c.loop-field.invariant c.in_ok-put_field.ensures
