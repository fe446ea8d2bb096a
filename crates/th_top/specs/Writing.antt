-- What stands in a sink after a text was written to it.
use Rattle.std.specs.Prelude.{ℕ, ◌≡◌, ◌+◌, ◌<◌, ◌≤◌, List, ◌++◌, length, take, Option, None, Some}
use Rattle.th_outside.specs.Held.{Held}

-- what is held, and then a text; nothing is said of a sink that doesn't tell
abbrev pub with_text : Option Held → List ℕ → Option Held
with_text None text = None
with_text (Some held) text = Some (record { bytes = held.bytes ++ text; end = held.end })

-- a front of the text that isn't the whole of it was added
abbrev pub AddsPart : Option Held → List ℕ → Option Held → Type 0
AddsPart old text new = (n : ℕ) × (n < length text) × (new ≡ with_text old (take n text))

-- there is room for the text
abbrev pub HasRoomFor : Option Held → List ℕ → Type 0
HasRoomFor None text = ⊥
HasRoomFor (Some held) text = length held.bytes + length text ≤ held.end
