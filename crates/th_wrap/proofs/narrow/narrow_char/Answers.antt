use Rattle.std.proofs.Common.{◌≡◌, ◌^◌, ◌%◌, ◌<◌, ap, ◌∙◌, refl, pos, arith}
use Rattle.std.proofs.Math.Nat.{mod-lt}
use Rattle.std.proofs.lemmas.Int.{to_z-of_z, to_z_pos}
use Rattle.std.specs.Int.{w32, cast_unsigned}
use Rattle.th_wrap.specs.TwosComplement.{low_bits}
use Rattle.th_wrap.proofs.Widths.{low_bits-cast}
use Rattle.th_wrap.proofs.narrow.narrow_char.Goals as goal

pub returns : goal.returns
returns c =
    let n = c.cast_unsigned.result in
    let low : n % 2 ^ 16 ≡ low_bits 16 c.args.a = ap (λ k. k % 2 ^ 16) (c.cast_unsigned.ensures ∙ ap (cast_unsigned w32) (to_z-of_z w32 c.args.a c.ranges.a)) ∙ low_bits-cast w32 c.args.a 16 (2 ^ 16) c.ranges.a refl in
    let small : n % 2 ^ 16 < 2 ^ 31 = omega (arith, mod-lt n {m = 2 ^ 16} (omega arith)) in
    to_z_pos w32 (n % 2 ^ 16) small ∙ ap pos low
