use Rattle.std.specs.Int.{w64}
use Rattle.th_wrap.proofs.Widths.{difference_is}
use Rattle.th_wrap.proofs.long.sub64.Goals as goal

pub returns : goal.returns
returns c = difference_is w64 c.args.a c.args.b c.ranges.a c.ranges.b
