use Rattle.std.specs.Int.{w64}
use Rattle.th_wrap.proofs.Widths.{negation_is}
use Rattle.th_wrap.proofs.long.neg64.Goals as goal

pub returns : goal.returns
returns c = negation_is w64 c.args.a c.wrapping_neg.result c.ranges.a c.wrapping_neg.type_inv c.wrapping_neg.ensures
