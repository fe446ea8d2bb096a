-- What contracts see of the states that are kept, and what a merge at one place does to them.
use Rattle.std.specs.Prelude.{◌≡◌, ℕ, suc, ◌+◌, ◌*◌, ◌<◌, Bool, true, false, List, [], ◌∷◌, length, Option, None, Some, slice_index, slice_set, Contains}
use Rattle.std.specs.Option.{option_map}
use Rattle.th_syntax.specs.Kinds.{KindsAt, NoKinds, merged_at}
use Rattle.th_syntax.specs.KindTable.{IsHeld}
use Rattle.th_kinds.specs.declared.queue.Queue.{Queue}
use Rattle.th_kinds.specs.declared.state.State.{State}
use Rattle.th_kinds.specs.States.{seen_state, state_room}
use Rattle.th_syntax.specs.declared.instr.Instr.{Instr}
use Rattle.th_syntax.specs.KindRows.{row_of, after}
use Rattle.th_kinds.specs.Walk.{line, jumps, fallen_behind, falls_in, state_at, kept_at}

abbrev pub seen_kept : List (Option State) → List (Option KindsAt)
seen_kept [] = []
seen_kept (None ∷ kept) = None ∷ seen_kept kept
seen_kept (Some s ∷ kept) = Some (seen_state s) ∷ seen_kept kept

-- how much may still be lost of all
abbrev pub kept_room : List (Option State) → ℕ
kept_room [] = 0
kept_room (None ∷ kept) = kept_room kept
kept_room (Some s ∷ kept) = state_room s + kept_room kept

-- how much may still be lost, and how many places wait: a change takes two of the one, and adds one place
abbrev pub work_left : List (Option State) → Queue → ℕ
work_left kept queue = 2 * kept_room kept + length queue.places.items

-- at which places something is kept
abbrev pub kept_places : List (Option State) → List Bool
kept_places [] = []
kept_places (None ∷ kept) = false ∷ kept_places kept
kept_places (Some s ∷ kept) = true ∷ kept_places kept

-- with what is brought to a place, if that place is kept
unfoldable pub with_merged : List (Option KindsAt) → ℕ → KindsAt → List (Option KindsAt)
with_merged kept place brought = slice_set kept place (option_map (merged_at brought) (kept_at kept place))

-- each place that is kept is below this one of a table by places
abbrev pub IsUnder : List (Option KindsAt) → (ℕ → KindsAt) → Type 0
IsUnder kept u = (k : ℕ) (known : KindsAt) → kept_at kept k ≡ Some known → IsHeld known (u k)

-- what is brought to an offset is below the table at its place
abbrev pub IsUnderFor : (ℕ → KindsAt) → List ℕ → ℕ → KindsAt → Type 0
IsUnderFor u offsets target brought = (k : ℕ) → k < length offsets → slice_index offsets k ≡ target → IsHeld brought (u k)

-- and at the places of these
abbrev pub IsUnderAt : (ℕ → KindsAt) → List ℕ → List ℕ → KindsAt → Type 0
IsUnderAt u offsets targets brought = (t : ℕ) → t < length targets → IsUnderFor u offsets (slice_index targets t) brought

-- what is brought to an offset is held already where something is kept
abbrev pub IsHeldFor : List (Option KindsAt) → List ℕ → ℕ → KindsAt → Type 0
IsHeldFor kept offsets target brought =
    (k : ℕ) (known : KindsAt) → k < length offsets → slice_index offsets k ≡ target → kept_at kept k ≡ Some known → IsHeld brought known

abbrev pub IsHeldAt : List (Option KindsAt) → List ℕ → List ℕ → KindsAt → Type 0
IsHeldAt kept offsets targets brought = (t : ℕ) → t < length targets → IsHeldFor kept offsets (slice_index targets t) brought

-- offsets ascend
abbrev pub Ascend : List ℕ → Type 0
Ascend offsets = (i j : ℕ) → i < j → j < length offsets → slice_index offsets i < slice_index offsets j

-- a table by places has the entry and is closed under the flow of control
pub record IsStable (entry : KindsAt) (instrs : List (ℕ × Instr)) (offsets : List ℕ) (u : ℕ → KindsAt) : Type 0 where
  pub begun : IsHeld entry (u 0)
  pub jumping : (k : ℕ) → k < length instrs → IsUnderAt u offsets (jumps (line instrs k).1) (after (row_of (line instrs k).1) (u k))
  pub falling : (k : ℕ) → suc k < length instrs → IsHeld (fallen_behind (line instrs k).1 (u k)) (u (suc k))

-- nothing new falls into an instruction, and its jumps bring nothing new where something is kept
pub record IsStill (entry : KindsAt) (instrs : List (ℕ × Instr)) (offsets : List ℕ) (kept : List (Option KindsAt)) (k : ℕ) : Type 0 where
  pub falling : (known : KindsAt) → kept_at kept k ≡ Some known → IsHeld (falls_in entry instrs kept k) known
  pub jumping : IsHeldAt kept offsets (jumps (line instrs k).1) (after (row_of (line instrs k).1) (state_at entry instrs kept k))

-- what is kept below each stable table, where nothing new comes; and something is kept wherever an
-- instruction jumps
pub record IsSettled (entry : KindsAt) (instrs : List (ℕ × Instr)) (offsets : List ℕ) (kept : List (Option KindsAt)) : Type 0 where
  pub below : (u : ℕ → KindsAt) → IsStable entry instrs offsets u → IsUnder kept u
  pub still : (k : ℕ) → k < length instrs → IsStill entry instrs offsets kept k
  pub keeps : (k j : ℕ) → k < length instrs → j < length offsets → Contains (jumps (line instrs k).1) (slice_index offsets j)
      → (known : KindsAt) × (kept_at kept j ≡ Some known)

-- nothing is known yet
abbrev pub IsNothing : List (Option KindsAt) → Type 0
IsNothing kept = (k : ℕ) (known : KindsAt) → kept_at kept k ≡ Some known → known ≡ NoKinds
