use Rattle.std.proofs.Common.{refl}
use Rattle.th_wrap.specs.TwosComplement.{low_bits, signed_value, wrapped_value}
use Rattle.th_ir.proofs.laws.effects.operations_are_computed.Goals as goal

pub returns-clause-sum : goal.returns-clause-sum
unfolding low_bits signed_value wrapped_value
returns-clause-sum c = refl

pub returns-clause-difference : goal.returns-clause-difference
unfolding low_bits signed_value wrapped_value
returns-clause-difference c = refl

pub returns-clause-product : goal.returns-clause-product
unfolding low_bits signed_value wrapped_value
returns-clause-product c = refl

pub returns-clause-quotient : goal.returns-clause-quotient
unfolding low_bits signed_value wrapped_value
returns-clause-quotient c = refl

pub returns-clause-left_shift : goal.returns-clause-left_shift
unfolding low_bits signed_value wrapped_value
returns-clause-left_shift c = refl

pub returns-clause-right_shift : goal.returns-clause-right_shift
unfolding low_bits signed_value wrapped_value
returns-clause-right_shift c = refl

pub returns-clause-unsigned_shift : goal.returns-clause-unsigned_shift
unfolding low_bits signed_value wrapped_value
returns-clause-unsigned_shift c = refl

pub returns-clause-bits_of_both : goal.returns-clause-bits_of_both
unfolding low_bits signed_value wrapped_value
returns-clause-bits_of_both c = refl

pub returns-clause-bits_of_either : goal.returns-clause-bits_of_either
unfolding low_bits signed_value wrapped_value
returns-clause-bits_of_either c = refl

pub returns-clause-bits_of_one : goal.returns-clause-bits_of_one
unfolding low_bits signed_value wrapped_value
returns-clause-bits_of_one c = refl
