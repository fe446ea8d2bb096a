use Rattle.std.proofs.Common.{rules}
use Rattle.std.specs.Int.{w128}
use Rattle.std.specs.Int.RustNames.{FitsSigned}
use Rattle.std.proofs.lemmas.Int.{to_z-of_z}
use Rattle.th_linear.proofs.Follows.{coef_small}
use Rattle.th_linear.proofs.fact.Lin.coefficient.Goals as goal

pub returns-clause-small : goal.returns-clause-small
returns-clause-small c =
    let f : FitsSigned w128 c.coefficient.result = search rules in
    rw (to_z-of_z w128 c.coefficient.result f, c.coefficient.ensures, c.as_slice.ensures.value)
    (coef_small c.args.variable 0 c.self.inside.coefs.items c.self.invariant.terms)
