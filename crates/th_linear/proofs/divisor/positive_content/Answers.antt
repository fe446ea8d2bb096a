use Rattle.std.proofs.Common.{arith, rules}
use Rattle.std.specs.Int.{w128}
use Rattle.std.specs.Int.RustNames.{FitsSigned}
use Rattle.std.proofs.lemmas.Int.{to_z-of_z, ints}
use Rattle.th_linear.proofs.Divisors.{content_positive}
use Rattle.th_linear.proofs.divisor.positive_content.Goals as goal

pub returns-clause-positive : goal.returns-clause-positive
returns-clause-positive c =
    let f : FitsSigned w128 c.from.result = search rules in
    let above = content_positive c.content.result 0 c.args.coefs.now c.requires.some c.requires.terms c.content.ensures.0 in
    rw (to_z-of_z w128 c.from.result f, c.from.ensures) (omega (arith, ints, above))

pub returns-clause-content : goal.returns-clause-content
returns-clause-content c =
    let f : FitsSigned w128 c.from.result = search rules in
    rw (to_z-of_z w128 c.from.result f, c.from.ensures) c.content.ensures
