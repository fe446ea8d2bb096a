use Rattle.std.proofs.Common.{◌^◌, refl}
use Rattle.std.specs.Int.{w32}
use Rattle.th_wrap.proofs.Widths.{shl_is}
use Rattle.th_wrap.proofs.int.shl32.Goals as goal

pub returns : goal.returns
returns c = shl_is w32 w32 c.args.a c.args.b 5 (2 ^ 27) c.cast_unsigned.result c.ranges.a c.ranges.b refl c.cast_unsigned.ensures c.wrapping_shl.result c.wrapping_shl.type_inv refl c.wrapping_shl.ensures
