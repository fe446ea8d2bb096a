-- What a sink holds.
use Rattle.std.specs.Prelude.{ℕ, ◌+◌, ◌<◌, ◌≤◌, List, ◌++◌, length, take, min, max, Option, None, Some, Result, Ok, Err}

-- the bytes so far, and how many bytes the sink takes at most
pub record Held : Type 0 where
  pub bytes : List ℕ
  pub end : ℕ

-- what is held after a write: the front that was taken is added, and the end stays
abbrev pub held_after : {E : Type 0} → Option Held → List ℕ → Result ℕ E → Option Held
held_after None piece result = None
held_after (Some held) piece (Ok n) = Some (record { bytes = held.bytes ++ take n piece; end = held.end })
held_after (Some held) piece (Err e) = Some held

-- a sink tells what it holds, and has not reached its end
abbrev pub HasRoom : Option Held → Type 0
HasRoom None = ⊥
HasRoom (Some held) = length held.bytes < held.end

-- no more is held than the end allows, or than was held before
abbrev pub KeepsEnd : Option Held → Option Held → Type 0
KeepsEnd (Some old) (Some new) = length new.bytes ≤ max (length old.bytes) old.end
KeepsEnd old new = Unit {0}

-- the lesser of the room and the number of bytes at which a sink fails
abbrev pub end_of : ℕ → Option ℕ → ℕ
end_of room None = room
end_of room (Some fail_at) = min room fail_at

-- what a sink in memory holds, with its room and the number of bytes at which it fails
abbrev pub held_in : List ℕ → ℕ → Option ℕ → Held
held_in bytes room fail_at = record { bytes = bytes; end = end_of room fail_at }
