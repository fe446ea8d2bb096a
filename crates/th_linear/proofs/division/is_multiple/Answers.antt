use Rattle.std.proofs.Common.{arith}
use Rattle.std.specs.Int.{w128}
use Rattle.std.specs.Int.RustNames.{FitsSigned, int_rem}
use Rattle.std.proofs.lemmas.Int.{ints, to_z-of_z, rem_below, fits_signed_from_abs}
use Rattle.th_linear.proofs.Divisors.{rest-divides, divides-rest}
use Rattle.th_linear.proofs.Rounds.{zero_test}
use Rattle.th_linear.proofs.division.is_multiple.Goals as goal

pub returns : goal.returns
returns c =
    let b = rem_below c.args.k c.args.g (omega (arith, ints)) in
    let fits : FitsSigned w128 (int_rem c.args.k c.args.g) = fits_signed_from_abs w128 (int_rem c.args.k c.args.g) (omega (arith, ints, b)) in
    let z = zero_test (int_rem c.args.k c.args.g) fits in
    rw (to_z-of_z w128 c.args.k c.ranges.k, to_z-of_z w128 c.args.g c.ranges.g)
    ((λ t. rest-divides c.args.k c.args.g (z.0 t)), (λ d. z.1 (divides-rest c.args.k c.args.g d)))
