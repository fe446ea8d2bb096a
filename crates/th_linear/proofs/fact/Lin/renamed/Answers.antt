use Rattle.std.specs.Int.{w128}
use Rattle.std.specs.Int.RustNames.{FitsSigned}
use Rattle.std.proofs.Common.{rules}
use Rattle.std.proofs.lemmas.Int.{to_z-of_z}
use Rattle.th_linear.proofs.Totals.{renames}
use Rattle.th_linear.proofs.fact.Lin.renamed.Goals as goal

pub returns-clause-exact : goal.returns-clause-exact
returns-clause-exact c =
    let f : FitsSigned w128 c.self.inside.constant = search rules in
    rw (← c.self.view_is)
    (renames c.args.names.now _ c.from_terms.result c.self.invariant.small
    (rw (c.in_ok-terms.ensures.value, c.as_slice.ensures.value, to_z-of_z w128 c.self.inside.constant f) at c.from_terms.ensures.exact))
