use Rattle.std.specs.Int.{w128}
use Rattle.std.proofs.lemmas.Int.{to_z-of_z}
use Rattle.th_linear.proofs.Totals.{answered, gathers}
use Rattle.th_linear.proofs.fact.Lin.from_terms.Goals as goal

pub returns-clause-exact : goal.returns-clause-exact
returns-clause-exact c =
    let valid = rw (to_z-of_z w128 c.args.constant c.ranges.constant) at c.new.ensures.valid in
    let value = rw (to_z-of_z w128 c.args.constant c.ranges.constant) at c.new.ensures.value in
    gathers c.args.terms.items c.args.constant c.args.rel c.new.result
    (answered c.args.terms.items c.gather.result.items c.args.constant c.args.rel c.new.result c.gather.ensures valid value)

pub returns-clause-value : goal.returns-clause-value
returns-clause-value c =
    let valid = rw (to_z-of_z w128 c.args.constant c.ranges.constant) at c.new.ensures.valid in
    let value = rw (to_z-of_z w128 c.args.constant c.ranges.constant) at c.new.ensures.value in
    answered c.args.terms.items c.gather.result.items c.args.constant c.args.rel c.new.result c.gather.ensures valid value
