use Rattle.std.proofs.Common.{◌^◌, ◌∙◌, refl}
use Rattle.std.specs.Int.{w32, w64}
use Rattle.th_wrap.proofs.Widths.{kept, narrowed_is}
use Rattle.th_wrap.proofs.narrow.low32.Goals as goal

pub returns : goal.returns
returns c = kept w32 c.cast_signed.result _ c.cast_signed.type_inv (c.cast_signed.ensures ∙ narrowed_is w64 w32 c.args.a (2 ^ 32) c.cast_unsigned.result c.ranges.a refl c.cast_unsigned.ensures)
