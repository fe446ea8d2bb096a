use Rattle.th_linker.proofs.Known.{methods_pushed}
use Rattle.th_linker.proofs.infos.method_infos.Goals as goal

pub loop-at-preserved : goal.loop-at-preserved
loop-at-preserved c =
    methods_pushed c.args.first c.loop-at.at c.args.methods.now c.index-methods-at.result c.loop-at.infos c.push.new.self c.in_ok-info.info c.loop-at-test.true c.index-methods-at.is c.loop-at.invariant
    c.in_ok-info.ensures c.in_ok-push.ensures.ok
