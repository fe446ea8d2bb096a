use Rattle.th_unify.proofs.Narrowed.{own_more, own_end}
use Rattle.th_unify.proofs.narrowing.are_own.Goals as goal

pub loop-symbol-preserved : goal.loop-symbol-preserved
loop-symbol-preserved c = own_more c.args.names.now c.loop-symbol.symbol c.loop-symbol-test.true c.if-names-symbol.false c.loop-symbol.invariant

pub returns : goal.returns
returns c = λ _ n. own_end c.args.names.now c.loop-symbol.symbol c.loop-symbol-test.false c.loop-symbol.invariant n
