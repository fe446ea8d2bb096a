use Rattle.std.proofs.Common.{◌≡◌, true, false, refl}
use Rattle.std.specs.Int.{w128}
use Rattle.std.proofs.lemmas.Int.{to_z-of_z}
use Rattle.th_linear.proofs.Judging.{alone_holds, alone_fails}
use Rattle.th_linear.proofs.mixture.judge_alone.Goals as goal

pub returns-then-stands : goal.returns-then-stands
returns-then-stands c = alone_holds c.args.constant (rw (to_z-of_z w128 c.args.constant c.ranges.constant) at (c.if-stands.ensures.0 refl))

pub returns-else-stands : goal.returns-else-stands
returns-else-stands c = alone_fails c.args.constant (λ h. let n : false ≡ true = c.if-stands.ensures.1 (rw (to_z-of_z w128 c.args.constant c.ranges.constant) h) in cc)
