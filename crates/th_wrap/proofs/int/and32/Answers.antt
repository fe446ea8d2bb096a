use Rattle.std.specs.Int.Bits.{and_lt}
use Rattle.std.specs.Prelude.{bit_and}
use Rattle.std.specs.Int.{w32}
use Rattle.th_wrap.proofs.Widths.{bitwise_is}
use Rattle.th_wrap.proofs.int.and32.Goals as goal

pub returns : goal.returns
returns c = bitwise_is w32 c.args.a c.args.b c.ranges.a c.ranges.b bit_and and_lt
