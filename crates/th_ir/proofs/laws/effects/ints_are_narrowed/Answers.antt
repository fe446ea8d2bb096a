use Rattle.std.proofs.Common.{refl}
use Rattle.th_wrap.specs.TwosComplement.{low_bits, signed_value, wrapped_value}
use Rattle.th_ir.proofs.laws.effects.ints_are_narrowed.Goals as goal

pub returns-clause-byte : goal.returns-clause-byte
unfolding low_bits signed_value wrapped_value
returns-clause-byte c = refl

pub returns-clause-char : goal.returns-clause-char
unfolding low_bits signed_value wrapped_value
returns-clause-char c = refl

pub returns-clause-short : goal.returns-clause-short
unfolding low_bits signed_value wrapped_value
returns-clause-short c = refl
