use Rattle.std.specs.Int.{w32}
use Rattle.th_wrap.proofs.Widths.{product_is}
use Rattle.th_wrap.proofs.int.mul32.Goals as goal

pub returns : goal.returns
returns c = product_is w32 c.args.a c.args.b c.ranges.a c.ranges.b
