use Rattle.std.proofs.Common.{◌^◌, refl}
use Rattle.std.specs.Int.{w32}
use Rattle.th_wrap.proofs.Widths.{ushr_is}
use Rattle.th_wrap.proofs.int.ushr32.Goals as goal

pub returns : goal.returns
returns c = ushr_is w32 w32 c.args.a c.args.b 5 (2 ^ 27) c.cast_unsigned-2.result c.ranges.a c.ranges.b refl c.cast_unsigned-2.ensures c.cast_signed.result c.cast_signed.type_inv c.cast_unsigned.result c.wrapping_shr-bits.result c.cast_unsigned.ensures c.wrapping_shr-bits.ensures c.cast_signed.ensures
