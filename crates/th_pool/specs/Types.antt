-- What reading a type keeps of it.
use Rattle.std.specs.Prelude.{ℕ, zero, suc, ◌==◌, ◌&&◌, nat_le, List, [], ◌∷◌, Option, Some, None, if◌then◌else◌}
use Rattle.std.specs.Borrow.{Bor}
use Rattle.std.specs.Option.{option_map}
use Rattle.th_syntax.specs.declared.limit.TheConstants.{MOST_DIMENSIONS}
use Rattle.th_syntax.specs.Descriptors.{FieldType, array_type, is_type, is_floating}
use Rattle.th_pool.specs.declared.descriptor.ParsedType.{ParsedType}
use Rattle.th_pool.specs.declared.shape.Slot.TheVariants.{Ref}
use Rattle.th_pool.specs.Shapes.{slot_of}

abbrev pub type_seen : FieldType → ParsedType
type_seen type = record { slot = slot_of type; floating = is_floating type; well_formed = is_type type }

-- a type and the bytes behind it
abbrev pub summed : FieldType × List ℕ → ParsedType × List ℕ
summed x = (type_seen x.0, x.1)

abbrev pub seen : Option (ParsedType × Bor (List ℕ)) → Option (ParsedType × List ℕ)
seen found = option_map (λ x. (x.0, x.1.now)) found

-- an array type of so many dimensions, or the element where there are none
abbrev pub arrayed : ParsedType → ℕ → ParsedType
arrayed element n = record {
  slot = if n == 0 then element.slot else Ref;
  floating = element.floating;
  well_formed = element.well_formed && nat_le n MOST_DIMENSIONS;
}

-- the element type inside so many dimensions
abbrev pub arrays : ℕ → FieldType → FieldType
arrays zero type = type
arrays (suc n) type = arrays n (array_type type)

abbrev pub with_dimensions : ℕ → Option (FieldType × List ℕ) → Option (FieldType × List ℕ)
with_dimensions n found = option_map (λ x. (arrays n x.0, x.1)) found

-- the first byte, and those behind it
abbrev pub front_of : List ℕ → Option (ℕ × List ℕ)
front_of [] = None
front_of (b ∷ bytes) = Some (b, bytes)

abbrev pub front_seen : Option (ℕ × Bor (List ℕ)) → Option (ℕ × List ℕ)
front_seen found = option_map (λ x. (x.0, x.1.now)) found
