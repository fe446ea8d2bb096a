use Rattle.std.proofs.Common.{◌^◌, ◌∙◌, refl}
use Rattle.std.specs.Int.{w8, w32}
use Rattle.th_wrap.proofs.Widths.{kept, narrowed_is}
use Rattle.th_wrap.proofs.narrow.narrow8.Goals as goal

pub returns : goal.returns
returns c = kept w32 c.from.result _ c.from.type_inv
    (c.from.ensures ∙ kept w8 c.cast_signed.result _ c.cast_signed.type_inv (c.cast_signed.ensures ∙ narrowed_is w32 w8 c.args.a (2 ^ 24) c.cast_unsigned.result c.ranges.a refl c.cast_unsigned.ensures))
