use Rattle.th_machine.proofs.Begun.{statics_more}
use Rattle.th_machine.proofs.beginning.first_statics.Goals as goal

pub loop-file-preserved : goal.loop-file-preserved
loop-file-preserved c =
    statics_more c.args.files.now c.loop-file.file-index c.file-item.result c.as_slice.result.now c.loop-file.values.items c.add_values.new.into.items
    c.loop-file-test.true c.file-item.is c.as_slice.ensures c.loop-file.invariant c.in_ok-add_values.ensures
