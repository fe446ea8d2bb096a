-- The tables of what each instruction does, computed.
use Rattle.std.proofs.Common.{◌≡◌, [], ◌∷◌, codes, refl}
use Rattle.th_wrap.specs.TwosComplement.{wrapped_value, low_bits, signed_value}
use Rattle.th_syntax.specs.Machine.{Untouched, Done}
use Rattle.th_syntax.specs.Descriptors.{method_type_of, method_at, types_at, type_at, element_at, name_before, base_type, result_at, field_type_of}
use Rattle.th_syntax.specs.Effects.{needs, or_ends, ends_unless, either_of, initialised}
use Rattle.th_syntax.specs.Strings.{string_constants}
use Rattle.th_syntax.specs.WorkedEffects.{acting_program, acted, effects_of, moving, computing, branching, accessing, making, indexing, calling, with_abstract}

pub moves_are : acted Untouched moving ≡ effects_of moving
unfolding needs or_ends ends_unless either_of initialised wrapped_value low_bits signed_value method_type_of method_at types_at type_at element_at name_before base_type result_at field_type_of
moves_are = refl

pub computes_are : acted Untouched computing ≡ effects_of computing
unfolding needs or_ends ends_unless either_of initialised wrapped_value low_bits signed_value method_type_of method_at types_at type_at element_at name_before base_type result_at field_type_of
computes_are = refl

pub branches_are : acted Untouched branching ≡ effects_of branching
unfolding needs or_ends ends_unless either_of initialised wrapped_value low_bits signed_value method_type_of method_at types_at type_at element_at name_before base_type result_at field_type_of
branches_are = refl

pub accesses_are : acted Untouched accessing ≡ effects_of accessing
unfolding needs or_ends ends_unless either_of initialised wrapped_value low_bits signed_value method_type_of method_at types_at type_at element_at name_before base_type result_at field_type_of
accesses_are = refl

pub makes_are : acted Untouched making ≡ effects_of making
unfolding needs or_ends ends_unless either_of initialised wrapped_value low_bits signed_value method_type_of method_at types_at type_at element_at name_before base_type result_at field_type_of
makes_are = refl

pub indexes_are : acted Untouched indexing ≡ effects_of indexing
unfolding needs or_ends ends_unless either_of initialised wrapped_value low_bits signed_value method_type_of method_at types_at type_at element_at name_before base_type result_at field_type_of
indexes_are = refl

pub calls_are : acted Untouched calling ≡ effects_of calling
unfolding needs or_ends ends_unless either_of initialised wrapped_value low_bits signed_value method_type_of method_at types_at type_at element_at name_before base_type result_at field_type_of
calls_are = refl

pub abstract_are : acted Done with_abstract ≡ effects_of with_abstract
unfolding needs or_ends ends_unless either_of initialised wrapped_value low_bits signed_value method_type_of method_at types_at type_at element_at name_before base_type result_at field_type_of
abstract_are = refl

pub strings_are : string_constants acting_program ≡ codes "a" ∷ codes "b" ∷ []
strings_are = refl
