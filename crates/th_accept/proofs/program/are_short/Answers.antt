use Rattle.std.proofs.Common.{arith, refl}
use Rattle.th_accept.proofs.Joining.{more_short, all_short}
use Rattle.th_accept.proofs.program.are_short.Goals as goal

pub loop-file-preserved : goal.loop-file-preserved
loop-file-preserved c =
    more_short c.args.files.now c.loop-file.file-index c.file-item.result c.loop-file-test.true c.file-item.is (omega (arith, c.len.ensures, c.if-len.false)) c.loop-file.invariant

pub returns : goal.returns
returns c = ((λ t. all_short c.args.files.now c.loop-file.file-index c.loop-file-test.false c.loop-file.invariant), (λ all. refl))
