use Rattle.std.proofs.Common.{sym}
use Rattle.std.specs.Int.{w32}
use Rattle.th_wrap.proofs.Widths.{quotient_is}
use Rattle.th_wrap.proofs.int.div32.Goals as goal

pub returns-else-b-eq0-clause-value : goal.returns-else-b-eq0-clause-value
returns-else-b-eq0-clause-value c = sym (quotient_is w32 c.args.a c.args.b c.wrapping_div.result c.ranges.a c.ranges.b c.if-b-eq0.false c.wrapping_div.type_inv c.wrapping_div.ensures)
