-- The runs of the small programs, computed.
use Rattle.std.proofs.Common.{◌≡◌, ℕ, zero, suc, ◌||◌, Bool, true, false, List, [], ◌∷◌, Option, None, Some, map, refl, subst, inl, inr, if◌then◌else◌, codes, ◌<◌, arith}
use Rattle.std.specs.Option.{option_and_then}
use Rattle.th_base.specs.declared.lifecycle.Lifecycle.{Lifecycle}
use Rattle.th_base.specs.declared.lifecycle.Lifecycle.TheVariants.{Any}
use Rattle.th_wrap.specs.TwosComplement.{wrapped_value, low_bits, signed_value}
use Rattle.th_syntax.specs.declared.class_file.ClassFile.{ClassFile}
use Rattle.th_syntax.specs.declared.event.Event.{Event}
use Rattle.th_syntax.specs.declared.event.Event.TheVariants.{Handler}
use Rattle.th_syntax.specs.Machine.{NullValue, Address, Done, Instance, Array, State, class_id}
use Rattle.th_syntax.specs.Descriptors.{method_type_of, method_at, types_at, type_at, element_at, name_before, base_type, result_at, field_type_of}
use Rattle.th_syntax.specs.Effects.{needs, or_ends, ends_unless, either_of, initialised}
use Rattle.th_syntax.specs.Strings.{ascending_texts}
use Rattle.th_syntax.specs.Initial.{initial}
use Rattle.th_syntax.specs.Step.{step}
use Rattle.th_syntax.specs.Harness.{event, is_idle}
use Rattle.th_syntax.specs.Run.{IsReachable}
use Rattle.th_syntax.specs.Joined.{IsJoined, here, through}
use Rattle.th_syntax.specs.WorkedEffects.{field_id}
use Rattle.th_syntax.specs.WorkedRuns.{LeadsTo, IsEndedBy, settled, events_from, launch, called, at_rest, object_field, constant_program, constants_launched, constants_started, constants_created, bundle_program, bundle_heap, skipping_program, skipping_state, holding_program, held_in_box, stages_from, chart_rows}
use Rattle.th_syntax.specs.WorkedLeaks.{vector_program, vector_created, overflowing_program, overflowing_created, initialising_program, initialising_created, resuming_program, resuming_resumed, halving_program, halving_created, testing_program, untesting_program, array_launched}

-- ---- the states of worked runs are reachable

settled_by : (lifecycle : Lifecycle) (files : List ClassFile) (n : ℕ) (s t : State) (b : Bool) (next : Option State) → IsReachable lifecycle files s → step files s ≡ next
    → ((u : State) → IsReachable lifecycle files u → settled files n u ≡ Some t → IsReachable lifecycle files t)
    → (if b then Some s else option_and_then (settled files n) next) ≡ Some t → IsReachable lifecycle files t
settled_by lifecycle files n s t true next run is rest e = subst (IsReachable lifecycle files) (let same : s ≡ t = cc in same) run
settled_by lifecycle files n s t false None run is rest e = absurd cc
settled_by lifecycle files n s t false (Some u) run is rest e = rest u (s ∷ run.0, (inl is, run.1)) e

settled_reachable : (lifecycle : Lifecycle) (files : List ClassFile) (n : ℕ) (s t : State) → IsReachable lifecycle files s → settled files n s ≡ Some t → IsReachable lifecycle files t
settled_reachable lifecycle files zero s t run e = absurd cc
settled_reachable lifecycle files (suc n) s t run e =
    settled_by lifecycle files n s t (s.ended || is_idle s.frames) (step files s) run refl (λ u. settled_reachable lifecycle files n u t) e

-- after a state that an event settled into
after_settled : (lifecycle : Lifecycle) (files : List ClassFile) (n : ℕ) (events : List Event) (u s : State) (next : Option State) → IsReachable lifecycle files u → settled files n u ≡ next
    → ((t : State) → IsReachable lifecycle files t → events_from lifecycle files n events t ≡ Some s → IsReachable lifecycle files s)
    → option_and_then (events_from lifecycle files n events) next ≡ Some s → IsReachable lifecycle files s
after_settled lifecycle files n events u s None run is rest e = absurd cc
after_settled lifecycle files n events u s (Some t) run is rest e = rest t (settled_reachable lifecycle files n u t run is) e

after_event : (lifecycle : Lifecycle) (files : List ClassFile) (n : ℕ) (events : List Event) (r s : State) (x : Event) (next : Option State) → IsReachable lifecycle files r → event lifecycle files r x ≡ next
    → ((t : State) → IsReachable lifecycle files t → events_from lifecycle files n events t ≡ Some s → IsReachable lifecycle files s)
    → option_and_then (λ t. option_and_then (events_from lifecycle files n events) (settled files n t)) next ≡ Some s → IsReachable lifecycle files s
after_event lifecycle files n events r s x None run is rest e = absurd cc
after_event lifecycle files n events r s x (Some u) run is rest e =
    after_settled lifecycle files n events u s (settled files n u) (r ∷ run.0, (inr (x, is), run.1)) refl rest e

events_reachable : (lifecycle : Lifecycle) (files : List ClassFile) (n : ℕ) (events : List Event) (r s : State) → IsReachable lifecycle files r → events_from lifecycle files n events r ≡ Some s → IsReachable lifecycle files s
events_reachable lifecycle files n [] r s run e = subst (IsReachable lifecycle files) (let same : r ≡ s = cc in same) run
events_reachable lifecycle files n (x ∷ events) r s run e =
    after_event lifecycle files n events r s x (event lifecycle files r x) run refl (λ t. events_reachable lifecycle files n events t s) e

pub reachable : (lifecycle : Lifecycle) (files : List ClassFile) (n : ℕ) (events : List Event) (s : State) → events_from lifecycle files n events (initial files) ≡ Some s → IsReachable lifecycle files s
reachable lifecycle files n events s e = events_reachable lifecycle files n events (initial files) s ([], refl) e

-- ---- states computed

pub constants_are_launched : LeadsTo Any constant_program (launch 12 ∷ []) constants_launched
unfolding needs or_ends ends_unless either_of initialised wrapped_value low_bits signed_value method_type_of method_at types_at type_at element_at name_before base_type result_at field_type_of
constants_are_launched = refl

pub constants_are_started : LeadsTo Any constant_program (launch 12 ∷ called 1 ∷ []) constants_started
unfolding needs or_ends ends_unless either_of initialised wrapped_value low_bits signed_value method_type_of method_at types_at type_at element_at name_before base_type result_at field_type_of
constants_are_started = refl

pub texts_are_ascending : ascending_texts (codes "b" ∷ codes "a" ∷ codes "b" ∷ codes "ab" ∷ []) ≡ codes "a" ∷ codes "ab" ∷ codes "b" ∷ []
texts_are_ascending = refl

pub constants_are_created : LeadsTo Any constant_program (launch 12 ∷ called 0 ∷ []) constants_created
unfolding needs or_ends ends_unless either_of initialised wrapped_value low_bits signed_value method_type_of method_at types_at type_at element_at name_before base_type result_at field_type_of
constants_are_created = refl

pub bundle_is_fresh : LeadsTo Any bundle_program (launch 11 ∷ Handler 1 0 true ∷ []) (at_rest bundle_heap (Address 1 ∷ []) (Done ∷ []) 0)
unfolding needs or_ends ends_unless either_of initialised wrapped_value low_bits signed_value method_type_of method_at types_at type_at element_at name_before base_type result_at field_type_of
bundle_is_fresh = refl

pub bundle_is_null : LeadsTo Any bundle_program (launch 11 ∷ Handler 1 0 true ∷ called 0 ∷ []) (at_rest bundle_heap (NullValue ∷ []) (Done ∷ []) 0)
unfolding needs or_ends ends_unless either_of initialised wrapped_value low_bits signed_value method_type_of method_at types_at type_at element_at name_before base_type result_at field_type_of
bundle_is_null = refl

pub superclass_skips : LeadsTo Any skipping_program (launch 13 ∷ called 3 ∷ []) (skipping_state (Address 0))
unfolding needs or_ends ends_unless either_of initialised wrapped_value low_bits signed_value method_type_of method_at types_at type_at element_at name_before base_type result_at field_type_of
superclass_skips = refl

pub handler_ends : IsEndedBy Any skipping_program (launch 13 ∷ called 1 ∷ [])
unfolding needs or_ends ends_unless either_of initialised wrapped_value low_bits signed_value method_type_of method_at types_at type_at element_at name_before base_type result_at field_type_of
handler_ends = refl

pub call_ends : IsEndedBy Any skipping_program (launch 13 ∷ called 4 ∷ [])
unfolding needs or_ends ends_unless either_of initialised wrapped_value low_bits signed_value method_type_of method_at types_at type_at element_at name_before base_type result_at field_type_of
call_ends = refl

pub superclass_call_ends : IsEndedBy Any skipping_program (launch 13 ∷ called 5 ∷ [])
unfolding needs or_ends ends_unless either_of initialised wrapped_value low_bits signed_value method_type_of method_at types_at type_at element_at name_before base_type result_at field_type_of
superclass_call_ends = refl

pub box_is_held : LeadsTo Any holding_program (launch 12 ∷ called 0 ∷ []) held_in_box
unfolding needs or_ends ends_unless either_of initialised wrapped_value low_bits signed_value method_type_of method_at types_at type_at element_at name_before base_type result_at field_type_of
box_is_held = refl

pub chart_is : map stages_from (0 ∷ 1 ∷ 2 ∷ 3 ∷ 4 ∷ 5 ∷ 6 ∷ 7 ∷ []) ≡ chart_rows
unfolding needs or_ends ends_unless either_of initialised wrapped_value low_bits signed_value method_type_of method_at types_at type_at element_at name_before base_type result_at field_type_of
chart_is = refl

pub vector_is_created : LeadsTo Any vector_program (launch 12 ∷ called 0 ∷ []) vector_created
unfolding needs or_ends ends_unless either_of initialised wrapped_value low_bits signed_value method_type_of method_at types_at type_at element_at name_before base_type result_at field_type_of
vector_is_created = refl

pub overflowing_is_created : LeadsTo Any overflowing_program (launch 11 ∷ called 1 ∷ called 0 ∷ []) overflowing_created
unfolding needs or_ends ends_unless either_of initialised wrapped_value low_bits signed_value method_type_of method_at types_at type_at element_at name_before base_type result_at field_type_of
overflowing_is_created = refl

pub initialising_is_created : LeadsTo Any initialising_program (launch 13 ∷ called 0 ∷ []) initialising_created
unfolding needs or_ends ends_unless either_of initialised wrapped_value low_bits signed_value method_type_of method_at types_at type_at element_at name_before base_type result_at field_type_of
initialising_is_created = refl

pub resuming_is_resumed : LeadsTo Any resuming_program (launch 11 ∷ called 4 ∷ called 3 ∷ []) resuming_resumed
unfolding needs or_ends ends_unless either_of initialised wrapped_value low_bits signed_value method_type_of method_at types_at type_at element_at name_before base_type result_at field_type_of
resuming_is_resumed = refl

pub halving_is_created : LeadsTo Any halving_program (launch 11 ∷ called 0 ∷ []) halving_created
unfolding needs or_ends ends_unless either_of initialised wrapped_value low_bits signed_value method_type_of method_at types_at type_at element_at name_before base_type result_at field_type_of
halving_is_created = refl

pub tested_is_created : LeadsTo Any testing_program (launch 11 ∷ called 0 ∷ []) array_launched
unfolding needs or_ends ends_unless either_of initialised wrapped_value low_bits signed_value method_type_of method_at types_at type_at element_at name_before base_type result_at field_type_of
tested_is_created = refl

pub untested_ends : IsEndedBy Any untesting_program (launch 11 ∷ called 0 ∷ [])
unfolding needs or_ends ends_unless either_of initialised wrapped_value low_bits signed_value method_type_of method_at types_at type_at element_at name_before base_type result_at field_type_of
untested_ends = refl

-- ---- what is joined

first_place : 0 < 1
first_place = omega arith

pub box_is_joined : IsJoined holding_program held_in_box 1 12
box_is_joined = record {
  holds = record {
    is_field = record { declared = record { owner = 12; member = object_field (codes "s") }; numbered = refl; static_one = refl; reference = refl };
    value = Address 1;
    held = refl;
    address = 0;
    leads = through {a = 1} {v = Address 2} (Instance (class_id 11) ((field_id 0, Address 2) ∷ [])) refl (0, first_place, refl)
        (through {a = 2} {v = Address 0} (Array (codes "[Ljava/lang/Object;") (Address 0 ∷ [])) refl (0, first_place, refl) here);
    object = Instance (class_id 12) [];
    stands = refl;
    exactly = refl;
  };
  is_activity_class = refl;
}

pub initialising_is_joined : IsJoined initialising_program initialising_created 0 13
initialising_is_joined = record {
  holds = record {
    is_field = record { declared = record { owner = 11; member = object_field (codes "s") }; numbered = refl; static_one = refl; reference = refl };
    value = Address 1;
    held = refl;
    address = 1;
    leads = here;
    object = Instance (class_id 13) [];
    stands = refl;
    exactly = refl;
  };
  is_activity_class = refl;
}
