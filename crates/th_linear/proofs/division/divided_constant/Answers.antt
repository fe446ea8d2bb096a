use Rattle.std.proofs.Common.{◌^◌, rules}
use Rattle.std.specs.Int.{w128}
use Rattle.std.specs.Int.RustNames.{FitsSigned}
use Rattle.std.proofs.lemmas.Int.{to_z-of_z}
use Rattle.th_linear.proofs.Divisors.{quotient_small}
use Rattle.th_linear.proofs.division.divided_constant.Goals as goal

pub exact_quotient-requires-clause-divides : goal.exact_quotient-requires-clause-divides
exact_quotient-requires-clause-divides c =
    rw (to_z-of_z w128 c.args.g c.ranges.g, to_z-of_z w128 c.args.constant c.ranges.constant)
    (rw c.in-Eq.is at c.requires.whole)

pub exact_quotient-requires-in-Ne-clause-divides : goal.exact_quotient-requires-in-Ne-clause-divides
exact_quotient-requires-in-Ne-clause-divides c =
    rw (to_z-of_z w128 c.args.g c.ranges.g, to_z-of_z w128 c.args.constant c.ranges.constant)
    (rw c.in-Ne.is at c.requires.whole)

pub returns-in-Eq-clause-small : goal.returns-in-Eq-clause-small
returns-in-Eq-clause-small c =
    let q : FitsSigned w128 c.exact_quotient.result = search rules in
    let e = rw (to_z-of_z w128 c.args.constant c.ranges.constant, to_z-of_z w128 c.args.g c.ranges.g) at c.exact_quotient.ensures in
    rw (to_z-of_z w128 c.exact_quotient.result q) (quotient_small c.args.g c.args.constant c.exact_quotient.result (2 ^ 62) c.requires.positive e c.requires.small)

pub returns-in-Ne-clause-small : goal.returns-in-Ne-clause-small
returns-in-Ne-clause-small c =
    let q : FitsSigned w128 c.exact_quotient-in-Ne.result = search rules in
    let e = rw (to_z-of_z w128 c.args.constant c.ranges.constant, to_z-of_z w128 c.args.g c.ranges.g) at c.exact_quotient-in-Ne.ensures in
    rw (to_z-of_z w128 c.exact_quotient-in-Ne.result q) (quotient_small c.args.g c.args.constant c.exact_quotient-in-Ne.result (2 ^ 62) c.requires.positive e c.requires.small)
