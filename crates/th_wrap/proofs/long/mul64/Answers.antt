use Rattle.std.specs.Int.{w64}
use Rattle.th_wrap.proofs.Widths.{product_is}
use Rattle.th_wrap.proofs.long.mul64.Goals as goal

pub returns : goal.returns
returns c = product_is w64 c.args.a c.args.b c.ranges.a c.ranges.b
