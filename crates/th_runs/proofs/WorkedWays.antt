-- More of what instructions do in small states, computed.
use Rattle.std.proofs.Common.{◌≡◌, [], ◌∷◌, true, codes, map, refl}
use Rattle.th_base.specs.declared.lifecycle.Lifecycle.TheVariants.{Any}
use Rattle.th_wrap.specs.TwosComplement.{wrapped_value, low_bits, signed_value}
use Rattle.th_syntax.specs.declared.event.Event.TheVariants.{Handler}
use Rattle.th_syntax.specs.declared.instr.Instr.TheVariants.{Stack, GetField, InvokeVirtual}
use Rattle.th_syntax.specs.declared.machine.Mark.TheVariants.{Done}
use Rattle.th_syntax.specs.declared.machine.Object.TheVariants.{Instance}
use Rattle.th_syntax.specs.declared.machine.Value.TheVariants.{Null as NullValue}
use Rattle.th_syntax.specs.Descriptors.{method_type_of, method_at, types_at, type_at, element_at, name_before, base_type, result_at, field_type_of}
use Rattle.th_syntax.specs.Effects.{Ends, Calls, needs, or_ends, ends_unless, either_of, initialised}
use Rattle.th_syntax.specs.Initial.{initial}
use Rattle.th_syntax.specs.Machine.{class_id}
use Rattle.th_syntax.specs.WorkedEffects.{at, gives, i, ref}
use Rattle.th_syntax.specs.WorkedRuns.{LeadsTo, at_rest, bundle_program, constant_program, launch}
use Rattle.th_runs.specs.WorkedRows.{acts_on}
use Rattle.th_runs.specs.WorkedWays.{constants_unset, constructed, constructing_program, interface_call, interface_calls, missed_loads, missed_stores, moves_in_forms, static_without_code}

pub groups_moved : map (λ one. acts_on one.0 (Stack one.1)) moves_in_forms ≡ map (λ one. gives one.2) moves_in_forms
unfolding needs or_ends ends_unless either_of initialised
groups_moved = refl

pub loads_missed : map (λ one. acts_on one.0 one.1) missed_loads ≡ map (λ one. Ends) missed_loads
unfolding needs or_ends ends_unless either_of initialised
loads_missed = refl

pub stores_missed : map (λ one. acts_on one.0 one.1) missed_stores ≡ map (λ one. Ends) missed_stores
unfolding needs or_ends ends_unless either_of initialised
stores_missed = refl

pub field_declared : acts_on (at 0 ∷ i 8 ∷ []) (GetField (ref (codes "B") (codes "x") (codes "I"))) ≡ gives (i 5 ∷ i 8 ∷ [])
unfolding needs or_ends ends_unless either_of initialised
field_declared = refl

pub method_declared : acts_on (at 0 ∷ []) (InvokeVirtual (ref (codes "B") (codes "p") (codes "()V"))) ≡ Calls 19 (at 0 ∷ []) []
unfolding needs or_ends ends_unless either_of initialised method_type_of method_at types_at type_at element_at name_before base_type result_at field_type_of
method_declared = refl

pub code_missed : static_without_code ≡ Ends
unfolding needs or_ends ends_unless either_of initialised method_type_of method_at types_at type_at element_at name_before base_type result_at field_type_of
code_missed = refl

pub interfaces_called : map (λ one. interface_call one.0 one.1) interface_calls ≡ map (λ one. one.2) interface_calls
unfolding needs or_ends ends_unless either_of initialised method_type_of method_at types_at type_at element_at name_before base_type result_at field_type_of
interfaces_called = refl

pub no_bundle : LeadsTo Any bundle_program (launch 11 ∷ Handler 1 1 true ∷ []) (at_rest (Instance (class_id 11) [] ∷ []) (NullValue ∷ []) (Done ∷ []) 0)
unfolding needs or_ends ends_unless either_of initialised wrapped_value low_bits signed_value method_type_of method_at types_at type_at element_at name_before base_type result_at field_type_of
no_bundle = refl

pub constructor_called : LeadsTo Any constructing_program (launch 11 ∷ []) constructed
unfolding needs or_ends ends_unless either_of initialised wrapped_value low_bits signed_value method_type_of method_at types_at type_at element_at name_before base_type result_at field_type_of
constructor_called = refl

pub unset_at_first : initial constant_program ≡ constants_unset
unset_at_first = refl
