use Rattle.std.proofs.Common.{◌<◌, ◌/◌, ◌^◌, arith}
use Rattle.std.proofs.lemmas.Int.{ints}
use native.Mathlib.Nat.{pos_of_dvd_of_pos}
use Rattle.th_pure.proofs.Parts.{factor_positive, factor_small}
use Rattle.th_pure.proofs.products.times.Goals as goal

pub returns-clause-low : goal.returns-clause-low
returns-clause-low c =
    let some = factor_positive c.args.n c.args.g c.requires.some c.requires.divides in
    let small : c.args.n / c.args.g < 2 ^ 62 = factor_small c.args.n c.args.g (2 ^ 62) c.requires.some c.requires.divides c.requires.small in
    omega (arith, ints, some, small)

pub nonzero_div-n : goal.nonzero_div-n
nonzero_div-n c = pos_of_dvd_of_pos c.requires.divides c.requires.some
