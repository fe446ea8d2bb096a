use Rattle.th_machine.proofs.Leadings.{joins_field}
use Rattle.th_machine.proofs.leading.add_fields.Goals as goal

pub loop-value-preserved : goal.loop-value-preserved
loop-value-preserved c =
    joins_field c.args.found.now.keys c.loop-value.found.keys c.add.new.found.keys c.args.fields.now c.loop-value.value-index _ c.loop-value-test.true c.loop-value.invariant c.in_ok-add.ensures
