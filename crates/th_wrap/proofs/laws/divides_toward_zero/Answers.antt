use Rattle.std.proofs.Common.{refl}
use Rattle.std.proofs.lemmas.Int.{quot-rem}
use Rattle.th_wrap.specs.TwosComplement.{low_bits, signed_value, wrapped_value}
use Rattle.th_wrap.proofs.Division.{toward_zero}
use Rattle.th_wrap.proofs.laws.divides_toward_zero.Goals as goal

pub returns-clause-parts : goal.returns-clause-parts
returns-clause-parts c = quot-rem

pub returns-clause-toward_zero : goal.returns-clause-toward_zero
returns-clause-toward_zero c = toward_zero

pub returns-clause-least_int : goal.returns-clause-least_int
unfolding low_bits signed_value wrapped_value
returns-clause-least_int c = refl

pub returns-clause-least_long : goal.returns-clause-least_long
unfolding low_bits signed_value wrapped_value
returns-clause-least_long c = refl
