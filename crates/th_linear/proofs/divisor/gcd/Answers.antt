use Rattle.th_linear.proofs.Greatest.{gcd_is}
use Rattle.th_linear.proofs.divisor.gcd.Goals as goal

pub returns-clause-value : goal.returns-clause-value
returns-clause-value c = λ some. gcd_is c.args.a c.args.b c.euclid.result some c.euclid.ensures
