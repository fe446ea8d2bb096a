-- What a replay of events speaks of.
use Rattle.std.specs.Prelude.{◌≡◌, ◌≢◌, ℕ, zero, suc, ◌+◌, ◌^◌, ◌<◌, Bool, MatchBool, List, [], ◌∷◌, length}
use Rattle.th_edge_table.specs.declared.state.CoreState.{CoreState}
use Rattle.th_edge_table.specs.declared.state.CoreEvent.{CoreEvent}
use Rattle.th_edge_table.specs.Core.{seat_at, IsThere, Allowed, happens}

-- the event k, from 0, is the first that is not allowed where it stands
abbrev pub IsFirstBad : CoreState → List CoreEvent → ℕ → Type 0
IsFirstBad c [] k = ⊥
IsFirstBad c (x ∷ xs) zero = ¬ Allowed c x
IsFirstBad c (x ∷ xs) (suc k) = Allowed c x × IsFirstBad (happens c x) xs k

-- an event is made exactly where it is allowed, and else the state stays
abbrev pub MakesIfAllowed : CoreEvent → CoreState → Bool → CoreState → Type 0
MakesIfAllowed x old made new =
    MatchBool made (Allowed old x × (new ≡ happens old x)) ((¬ Allowed old x) × (new ≡ old))

-- the numbers of the next event have room: the length of a seat's `seen`, and the sum of two seats' parts
pub record HasRoom (c : CoreState) : Type 0 where
  pub seen : (s : ℕ) → length (seat_at c.seats s).seen < 2 ^ 32
  pub parts : (s t : ℕ) → s ≢ t → IsThere c s → IsThere c t
      → (seat_at c.seats s).part + (seat_at c.seats t).part < 2 ^ 32
