use Rattle.std.specs.Int.{w128}
use Rattle.std.proofs.lemmas.Int.{quot_is, quot_fits}
use Rattle.th_linear.proofs.Divisors.{exact_div-signed}
use Rattle.th_linear.proofs.division.exact_quotient.Goals as goal

pub returns : goal.returns
returns c =
    rw (quot_is w128 c.args.z c.args.g c.ranges.z c.ranges.g (quot_fits w128 c.args.z c.args.g c.ranges.z c.requires.positive))
    (exact_div-signed c.args.z c.args.g c.requires.positive c.requires.divides)
