use Rattle.th_linker.proofs.Known.{fields_pushed}
use Rattle.th_linker.proofs.infos.field_infos.Goals as goal

pub loop-at-preserved : goal.loop-at-preserved
loop-at-preserved c =
    fields_pushed c.args.first c.loop-at.at c.args.fields.now c.index-fields-at.result c.loop-at.infos c.push.new.self c.in_ok-info.info c.loop-at-test.true c.index-fields-at.is c.loop-at.invariant
    c.in_ok-info.ensures c.in_ok-push.ensures.ok
