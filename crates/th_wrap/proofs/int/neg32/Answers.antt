use Rattle.std.specs.Int.{w32}
use Rattle.th_wrap.proofs.Widths.{negation_is}
use Rattle.th_wrap.proofs.int.neg32.Goals as goal

pub returns : goal.returns
returns c = negation_is w32 c.args.a c.wrapping_neg.result c.ranges.a c.wrapping_neg.type_inv c.wrapping_neg.ensures
