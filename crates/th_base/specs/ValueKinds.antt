-- The kinds of values, by the descriptor of the field, parameter or result that holds them.
use Rattle.std.specs.Prelude.{ℕ, ◌==◌, ◌||◌, Bool, false, List, [], ◌∷◌}
use Rattle.std.specs.Str.{byte}

-- the descriptor is that of a class or of an array (Java specification 4.3.2)
abbrev pub is_reference : List ℕ → Bool
is_reference [] = false
is_reference (x ∷ xs) = x == byte "L" || x == byte "["

-- the descriptor is that of `long` (Java specification 4.3.2)
abbrev pub is_long : List ℕ → Bool
is_long [] = false
is_long (x ∷ xs) = x == byte "J"

-- the descriptor is that of a type whose values are computed with as ints: `byte`, `char`, `int`,
-- `short` or `boolean` (Java specification 2.11.1)
abbrev pub is_int : List ℕ → Bool
is_int [] = false
is_int (x ∷ xs) = x == byte "B" || (x == byte "C" || (x == byte "I" || (x == byte "S" || x == byte "Z")))
