use Rattle.std.proofs.Common.{rules}
use Rattle.std.specs.Int.{w128}
use Rattle.std.specs.Int.RustNames.{FitsSigned}
use Rattle.std.proofs.lemmas.Int.{to_z-of_z}
use Rattle.th_pure.proofs.Turned.{turned_are}
use Rattle.th_pure.proofs.bounds.at_least.Goals as goal

pub invariant_of-result : goal.invariant_of-result
invariant_of-result c =
    let f : FitsSigned w128 c.turned.result = search rules in
    rw (to_z-of_z w128 c.turned.result f) (record {
      terms = rw (c.in_ok-turned_terms.ensures, c.as_slice.ensures.value) (turned_are 0 c.fact.inside.coefs.items c.fact.invariant.terms);
      small = c.turned.ensures.small;
    })
