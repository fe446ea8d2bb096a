use Rattle.std.specs.Int.{w32}
use Rattle.th_wrap.proofs.Widths.{difference_is}
use Rattle.th_wrap.proofs.int.sub32.Goals as goal

pub returns : goal.returns
returns c = difference_is w32 c.args.a c.args.b c.ranges.a c.ranges.b
