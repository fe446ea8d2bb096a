use Rattle.th_unify.specs.Classes.{put_for}
use Rattle.th_unify.proofs.Tables.{replaced_more}
use Rattle.th_unify.proofs.classes.replace.Goals as goal

pub loop-name-preserved : goal.loop-name-preserved
loop-name-preserved c = replaced_more (put_for c.args.old c.args.new) c.args.names.now c.loop-name.names c.loop-name.name-index c.put_for.result 0 c.loop-name-test.true c.loop-name.invariant c.put_for.ensures
