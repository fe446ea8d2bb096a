use Rattle.std.proofs.Common.{◌^◌, refl}
use Rattle.std.specs.Int.{w32, w64}
use Rattle.th_wrap.proofs.Widths.{shr_is}
use Rattle.th_wrap.proofs.long.shr64.Goals as goal

pub returns : goal.returns
returns c = shr_is w64 w32 c.args.a c.args.b 6 (2 ^ 26) c.cast_unsigned.result c.ranges.a c.ranges.b refl c.cast_unsigned.ensures c.wrapping_shr.result c.wrapping_shr.type_inv c.wrapping_shr.ensures
