-- What reading the descriptor of a method keeps of it.
use Rattle.std.specs.Prelude.{ℕ, List, [], ◌∷◌, ◌++◌, map, nat_le, sum_by, Option, Some, None, Result, Ok, Err, Bool, true, false, ◌&&◌, ◌||◌, if◌then◌else◌}
use Rattle.std.specs.List.{list_any, list_all}
use Rattle.std.specs.Borrow.{Bor}
use Rattle.std.specs.Option.{option_map}
use Rattle.th_syntax.specs.declared.limit.TheConstants.{MOST_PARAMETER_SLOTS}
use Rattle.th_syntax.specs.Descriptors.{FieldType, MethodType, is_type, is_floating}
use Rattle.th_pool.specs.declared.descriptor.ParsedType.{ParsedType}
use Rattle.th_pool.specs.declared.parse.Params.{Params}
use Rattle.th_pool.specs.declared.shape.MethodShape.{MethodShape}
use Rattle.th_pool.specs.declared.shape.FieldShape.{FieldShape}
use Rattle.th_pool.specs.declared.shape.DescriptorFault.{DescriptorFault}
use Rattle.th_pool.specs.declared.shape.DescriptorFault.TheVariants.{Form, FloatType}
use Rattle.th_pool.specs.Shapes.{slot_of, slot_size}
use Rattle.th_pool.specs.Types.{type_seen}

-- the answer for a field by what was seen of its type
abbrev pub field_answer : Option ParsedType → Result FieldShape DescriptorFault
field_answer None = Err Form
field_answer (Some seen) =
    if seen.well_formed then (if seen.floating then Err FloatType else Ok (record { slot = seen.slot })) else Err Form

abbrev pub params_of : List FieldType → Params
params_of types = record { slots = map slot_of types; floating = list_any is_floating types; well_formed = list_all is_type types }

-- parameters with one more
abbrev pub pushed : Params → ParsedType → Params
pushed p seen = record {
  slots = p.slots ++ seen.slot ∷ [];
  floating = p.floating || seen.floating;
  well_formed = p.well_formed && seen.well_formed;
}

-- parameters, and those behind them
abbrev pub joined : Params → Params → Params
joined p q = record { slots = p.slots ++ q.slots; floating = p.floating || q.floating; well_formed = p.well_formed && q.well_formed }

abbrev pub params_found : Option (List FieldType × List ℕ) → Option (Params × List ℕ)
params_found found = option_map (λ x. (params_of x.0, x.1)) found

abbrev pub params_view : Option (Params × Bor (List ℕ)) → Option (Params × List ℕ)
params_view found = option_map (λ x. (x.0, x.1.now)) found

abbrev pub method_seen : MethodType → Params × Option ParsedType
method_seen m = (params_of m.params, option_map type_seen m.result_type)

abbrev pub parts_view : Option (Params × Option ParsedType) → Option (Params × Option ParsedType)
parts_view found = found

abbrev pub returns_well : Option ParsedType → Bool
returns_well None = true
returns_well (Some seen) = seen.well_formed

abbrev pub returns_floating : Option ParsedType → Bool
returns_floating None = false
returns_floating (Some seen) = seen.floating

-- the shape of a method by what was seen of its parameters and its result
abbrev pub shape_seen : Params → Option ParsedType → MethodShape
shape_seen p returned = record { params = p.slots; result = option_map (λ seen. seen.slot) returned }

-- the answer for a method by the same
abbrev pub method_answer : Params → Option ParsedType → Result MethodShape DescriptorFault
method_answer p returned =
    if p.well_formed && returns_well returned && nat_le (sum_by slot_size p.slots) MOST_PARAMETER_SLOTS
    then (if p.floating || returns_floating returned then Err FloatType else Ok (shape_seen p returned))
    else Err Form
