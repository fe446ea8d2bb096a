use Rattle.std.specs.Int.{w64}
use Rattle.th_wrap.proofs.Widths.{sum_is}
use Rattle.th_wrap.proofs.long.add64.Goals as goal

pub returns : goal.returns
returns c = sum_is w64 c.args.a c.args.b c.ranges.a c.ranges.b
