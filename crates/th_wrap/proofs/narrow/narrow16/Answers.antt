use Rattle.std.proofs.Common.{◌^◌, ◌∙◌, refl}
use Rattle.std.specs.Int.{w16, w32}
use Rattle.th_wrap.proofs.Widths.{kept, narrowed_is}
use Rattle.th_wrap.proofs.narrow.narrow16.Goals as goal

pub returns : goal.returns
returns c = kept w32 c.from.result _ c.from.type_inv
    (c.from.ensures ∙ kept w16 c.cast_signed.result _ c.cast_signed.type_inv (c.cast_signed.ensures ∙ narrowed_is w32 w16 c.args.a (2 ^ 16) c.cast_unsigned.result c.ranges.a refl c.cast_unsigned.ensures))
