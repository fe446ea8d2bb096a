-- The core of the edge table: one word for each edge, a list of seats, and five kinds of event.
-- Seats are named by their places in the list, and their lists name edges as `EdgeId`s.
use Rattle.th_edge_table.specs.declared.state.TheConstants.{PARTS}
use Rattle.std.specs.Prelude.{◌≡◌, ℕ, ◌+◌, ◌-◌, ◌<◌, ◌≤◌, ◌≢◌, true, false, List, [], ◌∷◌, ◌++◌, length, slice_index_or, slice_set, replicate, Some, None}
use Rattle.th_base.specs.declared.number.EdgeId.{EdgeId}
use Rattle.th_edge_table.specs.declared.word.Verdict.{Verdict}
use Rattle.th_edge_table.specs.declared.word.Word.{Word}
use Rattle.th_edge_table.specs.declared.word.Word.TheVariants.{Free, Claimed, Decided}
use Rattle.th_edge_table.specs.declared.state.CoreSeat.{CoreSeat}
use Rattle.th_edge_table.specs.declared.state.CoreState.{CoreState}
use Rattle.th_edge_table.specs.declared.state.CoreEvent.{CoreEvent}
use Rattle.th_edge_table.specs.declared.state.CoreEvent.TheVariants.{Look, Claim, Publish, Split, Join}

-- a seat with nothing in its lists
abbrev pub newcomer : ℕ → CoreSeat
newcomer part = record { seen = []; taken = []; done = []; in_flight = None; part = part; ended = false }

-- what the running table keeps of a seat that was joined into another
abbrev pub spent : CoreSeat
spent = record { seen = []; taken = []; done = []; in_flight = None; part = 0; ended = true }

-- all words free, and one seat with all parts
abbrev pub opening : ℕ → CoreState
opening n = record { words = replicate n Free; seats = newcomer PARTS ∷ [] }

-- a seat after it read a word of an edge
abbrev pub saw : EdgeId → Word → CoreSeat → CoreSeat
saw e w v = record v { seen = v.seen ++ (e, w) ∷ [] }

-- a seat after it claimed a free edge
abbrev pub got : EdgeId → CoreSeat → CoreSeat
got e v = record v { taken = v.taken ++ (e, length v.seen) ∷ []; in_flight = Some e }

-- a seat after a claim of an edge that found this word
abbrev pub claimed : EdgeId → Word → CoreSeat → CoreSeat
claimed e Free v = got e v
claimed e w v = saw e w v

-- a seat after it published the verdict of the edge that it had in flight
abbrev pub published : EdgeId → Verdict → CoreSeat → CoreSeat
published e d v = record v { done = v.done ++ (e, d) ∷ []; in_flight = None }

-- a seat after it gave away one part
abbrev pub parted : CoreSeat → CoreSeat
parted v = record v { part = v.part - 1 }

-- a seat after it took over another
abbrev pub joined : CoreSeat → CoreSeat → CoreSeat
joined v u = record v { done = v.done ++ u.done; part = v.part + u.part }

-- a seat after it was joined into another
abbrev pub ended : CoreSeat → CoreSeat
ended v = record v { ended = true }

-- a word after a claim
abbrev pub claim_word : Word → Word
claim_word Free = Claimed
claim_word w = w

-- the word of an edge, by number; past the end of the list, free
abbrev pub word_at : List Word → ℕ → Word
word_at words e = slice_index_or words e Free

-- the seat of a number; past the end of the list, one that has ended
abbrev pub seat_at : List CoreSeat → ℕ → CoreSeat
seat_at seats s = slice_index_or seats s spent

-- the seat is there and has not ended
abbrev pub IsThere : CoreState → ℕ → Type 0
IsThere c s = (seat_at c.seats s).ended ≡ false

-- the edge is there
abbrev pub HasEdge : CoreState → EdgeId → Type 0
HasEdge c e = e.0 < length c.words

-- the condition of an event
abbrev pub Allowed : CoreState → CoreEvent → Type 0
Allowed c (Look s e) = IsThere c s × HasEdge c e
Allowed c (Claim s e) = IsThere c s × HasEdge c e × ((seat_at c.seats s).in_flight ≡ None)
Allowed c (Publish s e d) = IsThere c s × HasEdge c e × ((seat_at c.seats s).in_flight ≡ Some e)
Allowed c (Split s) = IsThere c s × (2 ≤ (seat_at c.seats s).part)
Allowed c (Join s t) = IsThere c s × IsThere c t × (s ≢ t) × ((seat_at c.seats t).in_flight ≡ None)

-- the state with another seat in a place
abbrev pub with_seat : CoreState → ℕ → CoreSeat → CoreState
with_seat c s v = record c { seats = slice_set c.seats s v }

-- the state with another word of an edge
abbrev pub with_word : CoreState → EdgeId → Word → CoreState
with_word c e w = record c { words = slice_set c.words e.0 w }

-- the state after an event; all that is not named stays as it was
abbrev pub happens : CoreState → CoreEvent → CoreState
happens c (Look s e) = with_seat c s (saw e (word_at c.words e.0) (seat_at c.seats s))
happens c (Claim s e) =
    with_word (with_seat c s (claimed e (word_at c.words e.0) (seat_at c.seats s))) e (claim_word (word_at c.words e.0))
happens c (Publish s e d) =
    with_word (with_seat c s (published e d (seat_at c.seats s))) e (Decided d)
happens c (Split s) =
    record c { seats = slice_set c.seats s (parted (seat_at c.seats s)) ++ newcomer 1 ∷ [] }
happens c (Join s t) =
    with_seat (with_seat c s (joined (seat_at c.seats s) (seat_at c.seats t))) t (ended (seat_at c.seats t))

-- each event is allowed where it stands
abbrev pub AllAllowed : CoreState → List CoreEvent → Type 0
AllAllowed c [] = Unit {0}
AllAllowed c (x ∷ xs) = Allowed c x × AllAllowed (happens c x) xs

-- the state after a list of events
abbrev pub replayed : CoreState → List CoreEvent → CoreState
replayed c [] = c
replayed c (x ∷ xs) = replayed (happens c x) xs
