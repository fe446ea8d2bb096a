-- What reading a switch keeps of it.
use Rattle.std.specs.Prelude.{ℕ, ℤ, List, [], ◌∷◌, ◌++◌, ◌&&◌, map, int_lt, Bool, true, Option, Some, None, Result, Ok, Err}
use Rattle.th_syntax.specs.Forms.{Found}
use Rattle.th_syntax.specs.CodeBytes.{target}

-- numbers, pairs and lists as they are
abbrev pub as_int : ℤ → ℤ
as_int x = x

abbrev pub as_pair : ℤ × ℤ → ℤ × ℤ
as_pair x = x

abbrev pub as_targets : List ℕ → List ℕ
as_targets x = x

abbrev pub as_pairs : List (ℤ × ℕ) → List (ℤ × ℕ)
as_pairs x = x

-- a key with the target of its branch
abbrev pub led_to : ℕ → ℤ × ℤ → ℤ × ℕ
led_to pc pair = (pair.0, target pc pair.1)

-- the targets of branches, and of keys
unfoldable pub targets_of : ℕ → List ℤ → List ℕ
targets_of pc raw = map (target pc) raw

unfoldable pub pairs_of : ℕ → List (ℤ × ℤ) → List (ℤ × ℕ)
pairs_of pc raw = map (led_to pc) raw

-- what was found, seen by a function
abbrev pub mapped : {A B : Type 0} → (A → B) → Result (Found A) ℕ → Result (Found B) ℕ
mapped f (Ok found) = Ok (f found.0, found.1, found.2)
mapped f (Err number) = Err number

-- what was read before, in front of what is read
abbrev pub with_front : {A : Type 0} → List A → Result (Found (List A)) ℕ → Result (Found (List A)) ℕ
with_front front (Ok found) = Ok (front ++ found.0, found.1, found.2)
with_front front (Err number) = Err number

abbrev pub rises_after : Option ℤ → ℤ → Bool
rises_after None key = true
rises_after (Some last) key = int_lt last key

-- each key is above the one before, the first above this one
abbrev pub rising_after : Option ℤ → List (ℤ × ℕ) → Bool
rising_after before [] = true
rising_after before (pair ∷ pairs) = rises_after before pair.0 && rising_after (Some pair.0) pairs
