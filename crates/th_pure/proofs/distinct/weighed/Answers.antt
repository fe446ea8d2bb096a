use Rattle.std.proofs.Common.{◌≡◌, ◌+◌, ◌<◌, ◌≤◌, ◌^◌, arith, ap, ◌∙◌}
use Rattle.std.specs.Int.{w128}
use Rattle.std.specs.Int.RustNames.{unsigned_abs}
use Rattle.std.proofs.lemmas.Int.{to_z-of_z}
use Rattle.th_pure.proofs.Indexed.{square_fits, weight_fits}
use Rattle.th_pure.proofs.distinct.weighed.Goals as goal

pub overflow_mul-result : goal.overflow_mul-result
overflow_mul-result c =
    let root : c.from-root.result + 1 ≤ 2 ^ 32 = omega arith in
    omega (arith, square_fits (c.from-root.result + 1) root)

pub overflow_mul-result-2 : goal.overflow_mul-result-2
overflow_mul-result-2 c =
    let root : c.from-root.result + 1 ≤ 2 ^ 32 = omega arith in
    let same : c.unsigned_abs.result ≡ unsigned_abs c.args.coefficient = c.unsigned_abs.ensures.value ∙ ap unsigned_abs (to_z-of_z w128 c.args.coefficient c.ranges.coefficient) in
    let small : c.unsigned_abs.result < 2 ^ 62 = omega (arith, same, c.requires) in
    omega (arith, weight_fits c.unsigned_abs.result (c.from-root.result + 1) small root)

pub returns-clause-bound : goal.returns-clause-bound
returns-clause-bound c =
    let root : c.from-root.result + 1 ≤ 2 ^ 32 = omega arith in
    let same : c.unsigned_abs.result ≡ unsigned_abs c.args.coefficient = c.unsigned_abs.ensures.value ∙ ap unsigned_abs (to_z-of_z w128 c.args.coefficient c.ranges.coefficient) in
    let small : c.unsigned_abs.result < 2 ^ 62 = omega (arith, same, c.requires) in
    omega (arith, weight_fits c.unsigned_abs.result (c.from-root.result + 1) small root)
