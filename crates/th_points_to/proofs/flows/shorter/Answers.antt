use Rattle.std.proofs.Common.{arith}
use Rattle.th_points_to.proofs.Pairs.{zip_left, zip_right}
use Rattle.th_points_to.proofs.flows.shorter.Goals as goal

pub returns-then-args-params-clause-pairs : goal.returns-then-args-params-clause-pairs
returns-then-args-params-clause-pairs c = zip_left c.args.args.now c.args.params.now (omega (arith, c.if-args-params.true))

pub returns-else-args-params-clause-pairs : goal.returns-else-args-params-clause-pairs
returns-else-args-params-clause-pairs c = zip_right c.args.args.now c.args.params.now (omega (arith, c.if-args-params.false))
