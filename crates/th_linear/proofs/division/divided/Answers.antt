use Rattle.std.proofs.Common.{rules}
use Rattle.std.specs.Int.{w128}
use Rattle.std.specs.Int.RustNames.{FitsSigned}
use Rattle.std.proofs.lemmas.Int.{to_z-of_z}
use Rattle.th_linear.proofs.Divisors.{divided-terms}
use Rattle.th_linear.proofs.division.divided.Goals as goal

pub invariant_of-result : goal.invariant_of-result
invariant_of-result c =
    let q : FitsSigned w128 c.divided_constant.result = search rules in
    let d = rw (to_z-of_z w128 c.args.g c.ranges.g) at c.divide.ensures in
    rw (to_z-of_z w128 c.divided_constant.result q) (record {
      terms = divided-terms c.args.g 0 c.f.inside.coefs.items c.divide.new.coefs.items c.requires.positive d c.f.invariant.terms;
      small = c.divided_constant.ensures.small;
    })
