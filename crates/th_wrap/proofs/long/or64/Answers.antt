use Rattle.std.proofs.lemmas.Nat.{or_lt}
use Rattle.std.specs.Prelude.{bit_or}
use Rattle.std.specs.Int.{w64}
use Rattle.th_wrap.proofs.Widths.{bitwise_is}
use Rattle.th_wrap.proofs.long.or64.Goals as goal

pub returns : goal.returns
returns c = bitwise_is w64 c.args.a c.args.b c.ranges.a c.ranges.b bit_or or_lt
