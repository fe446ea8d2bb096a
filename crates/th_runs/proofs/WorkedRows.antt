-- What instructions do in small states, computed, and the run of a small program.
use Rattle.std.proofs.Common.{◌≡◌, [], ◌∷◌, codes, refl}
use Rattle.std.specs.Prelude.{pos, negsuc}
use Rattle.th_base.specs.declared.built_in.TheConstants.{CONSTRUCTOR}
use Rattle.th_base.specs.declared.lifecycle.Lifecycle.TheVariants.{Any}
use Rattle.th_base.specs.declared.operation.ArithOp.TheVariants.{Shl}
use Rattle.th_wrap.specs.TwosComplement.{wrapped_value, low_bits, signed_value}
use Rattle.th_syntax.specs.declared.class_file.Constant.TheVariants as constant
use Rattle.th_syntax.specs.declared.instr.Instr.TheVariants.{Int, Long, LArith}
use Rattle.th_syntax.specs.declared.machine.Slot.TheVariants.{Holds, SecondHalf}
use Rattle.th_syntax.specs.declared.machine.Value.TheVariants.{Int as IntValue, Long as LongValue, Null as NullValue, Address}
use Rattle.th_syntax.specs.Descriptors.{method_type_of, method_at, types_at, type_at, element_at, name_before, base_type, result_at, field_type_of}
use Rattle.th_syntax.specs.Effects.{Ends, Calls, GoesOn, SetsObject, needs, or_ends, ends_unless, either_of, initialised}
use Rattle.th_syntax.specs.Initial.{constant_value}
use Rattle.th_syntax.specs.WorkedEffects.{i, l}
use Rattle.th_syntax.specs.WorkedRuns.{LeadsTo, launch}
use Rattle.th_runs.specs.WorkedRows.{acts_on, special_call, call_on, moves_on_short, all_stuck, plain_interface, nested, nested_store, writing_program, written_last}

pub constructor_itself : special_call 23 (codes "Upper") CONSTRUCTOR.now ≡ Calls 17 (Holds (Address 0) ∷ []) []
unfolding needs or_ends ends_unless either_of initialised method_type_of method_at types_at type_at element_at name_before base_type result_at field_type_of
constructor_itself = refl

pub no_superclass : special_call 18 (codes "Middle") (codes "m") ≡ Calls 21 (Holds (Address 0) ∷ Holds NullValue ∷ []) []
unfolding needs or_ends ends_unless either_of initialised method_type_of method_at types_at type_at element_at name_before base_type result_at field_type_of
no_superclass = refl

pub without_code : special_call 18 (codes "Upper") (codes "onStart") ≡ Ends
unfolding needs or_ends ends_unless either_of initialised method_type_of method_at types_at type_at element_at name_before base_type result_at field_type_of
without_code = refl

pub on_object : call_on 1 ≡ Calls 0 (Holds (Address 1) ∷ []) []
unfolding needs or_ends ends_unless either_of initialised method_type_of method_at types_at type_at element_at name_before base_type result_at field_type_of
on_object = refl

pub on_array : call_on 2 ≡ Ends
unfolding needs or_ends ends_unless either_of initialised method_type_of method_at types_at type_at element_at name_before base_type result_at field_type_of
on_array = refl

pub too_short : moves_on_short ≡ all_stuck
unfolding needs or_ends ends_unless either_of initialised
too_short = refl

pub interface_made : plain_interface ≡ Ends
unfolding needs or_ends ends_unless either_of initialised
interface_made = refl

pub ints_stored : nested_store 1 ≡ SetsObject 0 (nested (Address 1)) []
unfolding needs or_ends ends_unless either_of initialised
ints_stored = refl

pub longs_stored : nested_store 2 ≡ Ends
unfolding needs or_ends ends_unless either_of initialised
longs_stored = refl

pub int_pushed : acts_on [] (Int (pos 2147483648)) ≡ GoesOn [] (Holds (IntValue (negsuc 2147483647)) ∷ [])
unfolding needs or_ends ends_unless either_of initialised wrapped_value low_bits signed_value
int_pushed = refl

pub long_pushed : acts_on [] (Long (pos 9223372036854775808)) ≡ GoesOn [] (SecondHalf ∷ Holds (LongValue (negsuc 9223372036854775807)) ∷ [])
unfolding needs or_ends ends_unless either_of initialised wrapped_value low_bits signed_value
long_pushed = refl

pub int_held : constant_value [] (constant.Int (pos 2147483648)) ≡ IntValue (negsuc 2147483647)
unfolding wrapped_value low_bits signed_value
int_held = refl

pub long_held : constant_value [] (constant.Long (pos 9223372036854775808)) ≡ LongValue (negsuc 9223372036854775807)
unfolding wrapped_value low_bits signed_value
long_held = refl

pub long_shifted : acts_on (i 33 ∷ l 3) (LArith Shl) ≡ GoesOn [] (l 25769803776)
unfolding needs or_ends ends_unless either_of initialised wrapped_value low_bits signed_value
long_shifted = refl

pub superclass_first : LeadsTo Any writing_program (launch 12 ∷ []) written_last
unfolding needs or_ends ends_unless either_of initialised wrapped_value low_bits signed_value method_type_of method_at types_at type_at element_at name_before base_type result_at field_type_of
superclass_first = refl
