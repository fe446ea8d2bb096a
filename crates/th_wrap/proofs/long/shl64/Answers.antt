use Rattle.std.proofs.Common.{◌^◌, refl}
use Rattle.std.specs.Int.{w32, w64}
use Rattle.th_wrap.proofs.Widths.{shl_is}
use Rattle.th_wrap.proofs.long.shl64.Goals as goal

pub returns : goal.returns
returns c = shl_is w64 w32 c.args.a c.args.b 6 (2 ^ 26) c.cast_unsigned.result c.ranges.a c.ranges.b refl c.cast_unsigned.ensures c.wrapping_shl.result c.wrapping_shl.type_inv refl c.wrapping_shl.ensures
