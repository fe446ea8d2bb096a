use Rattle.std.proofs.Common.{◌<ℤ◌, ◌≤ℤ◌, ◌+ℤ◌, pos, arith}
use Rattle.std.specs.Int.{w128}
use Rattle.std.specs.Int.RustNames.{int_div, int_rem}
use Rattle.std.proofs.lemmas.Int.{ints, to_z-of_z, quot_is, rem_is, quot_fits, quot-rem, rem_below}
use Rattle.th_linear.proofs.Rounds.{bump_fits, above, at}
use Rattle.th_linear.proofs.division.divided_up.Goals as goal

pub returns-then-k-g-gt0 : goal.returns-then-k-g-gt0
returns-then-k-g-gt0 c =
    let k = c.args.k in
    let g = c.args.g in
    let whole = quot-rem k g in
    let fits = quot_fits w128 k g c.ranges.k c.requires.positive in
    let test = rw (rem_is w128 k g c.ranges.k c.ranges.g) at c.if-k-g-gt0.true in
    let rest : pos 0 <ℤ int_rem k g = omega (arith, ints) in
    rw (quot_is w128 k g c.ranges.k c.ranges.g fits, to_z-of_z w128 (int_div k g +ℤ pos 1) (bump_fits k g (int_div k g) (int_rem k g) c.ranges.k fits c.requires.positive whole rest))
    (above k g (int_div k g) (int_rem k g) c.requires.positive whole rest (rem_below k g (omega (arith, ints))))

pub returns-else-k-g-gt0 : goal.returns-else-k-g-gt0
returns-else-k-g-gt0 c =
    let k = c.args.k in
    let g = c.args.g in
    let whole = quot-rem k g in
    let fits = quot_fits w128 k g c.ranges.k c.requires.positive in
    let test = rw (rem_is w128 k g c.ranges.k c.ranges.g) at c.if-k-g-gt0.false in
    let rest : int_rem k g ≤ℤ pos 0 = omega (arith, ints) in
    rw (quot_is w128 k g c.ranges.k c.ranges.g fits)
    (at k g (int_div k g) (int_rem k g) c.requires.positive whole rest (rem_below k g (omega (arith, ints))))
