use Rattle.std.proofs.Common.{◌*ℤ◌, ◌+ℤ◌}
use Rattle.std.specs.Int.{w128}
use Rattle.std.proofs.lemmas.Int.{to_z-of_z}
use Rattle.th_linear.proofs.Mixes.{mixed_fits}
use Rattle.th_linear.proofs.mixture.mix.Goals as goal

pub overflow_add-result : goal.overflow_add-result
overflow_add-result c =
    let f = mixed_fits c.args.p c.args.x c.args.q c.args.y c.requires.p c.requires.x c.requires.q c.requires.y in
    rw (
      to_z-of_z w128 c.args.p c.ranges.p,
      to_z-of_z w128 c.args.x c.ranges.x,
      to_z-of_z w128 c.args.q c.ranges.q,
      to_z-of_z w128 c.args.y c.ranges.y,
      to_z-of_z w128 (c.args.p *ℤ c.args.x) f.0,
      to_z-of_z w128 (c.args.q *ℤ c.args.y) f.1,
    ) f.2

pub returns : goal.returns
returns c =
    let f = mixed_fits c.args.p c.args.x c.args.q c.args.y c.requires.p c.requires.x c.requires.q c.requires.y in
    rw (
      to_z-of_z w128 c.args.p c.ranges.p,
      to_z-of_z w128 c.args.x c.ranges.x,
      to_z-of_z w128 c.args.q c.ranges.q,
      to_z-of_z w128 c.args.y c.ranges.y,
      to_z-of_z w128 (c.args.p *ℤ c.args.x) f.0,
      to_z-of_z w128 (c.args.q *ℤ c.args.y) f.1,
      to_z-of_z w128 ((c.args.p *ℤ c.args.x) +ℤ (c.args.q *ℤ c.args.y)) f.2,
    )
