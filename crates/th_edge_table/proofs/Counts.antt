-- The six facts as sums over the seats: the form in which each event is shown to keep them.
use Rattle.std.specs.Prelude.{◌≡◌, ℕ, ◌+◌, ◌<◌, ◌≤◌, ◌==◌, cond, List, length, Contains, sum_by, Option, Some, None}
use Rattle.th_base.specs.declared.number.EdgeId.{EdgeId}
use Rattle.th_edge_table.specs.declared.word.Verdict.{Verdict}
use Rattle.th_edge_table.specs.declared.word.Word.{Word}
use Rattle.th_edge_table.specs.declared.word.Word.TheVariants.{Claimed, Decided}
use Rattle.th_edge_table.specs.declared.state.CoreSeat.{CoreSeat}
use Rattle.th_edge_table.specs.Facts.{times, Outlives, Lives, live_part}

-- 1 where the edge is the one in flight
abbrev pub flies : EdgeId → Option EdgeId → ℕ
flies e None = 0
flies e (Some f) = cond (f.0 == e.0) 1 0

-- how often the edge is in flight in the seat
abbrev pub flights : EdgeId → CoreSeat → ℕ
flights e v = cond v.ended 0 (flies e v.in_flight)

-- how often the edge is done by the seat
abbrev pub dones : EdgeId → CoreSeat → ℕ
dones e v = cond v.ended 0 (times e v.done)

abbrev pub claims : Word → ℕ
claims Claimed = 1
claims _ = 0

abbrev pub decides : Word → ℕ
decides (Decided d) = 1
decides _ = 0

-- what holds of one seat
pub record Own (word : ℕ → Word) (v : CoreSeat) : Type 0 where
  pub done : (e : EdgeId) (d : Verdict) → Contains v.done (e, d) → word e.0 ≡ Decided d
  pub seen : (e : EdgeId) (x : Word) → Contains v.seen (e, x) → Outlives x (word e.0)
  pub taken : (e : EdgeId) → times e v.taken ≤ flies e v.in_flight + times e v.done
  pub lengths : (e : EdgeId) (k : ℕ) → Contains v.taken (e, k) → k ≤ length v.seen
  pub part : 0 < v.part

pub record Counted (word : ℕ → Word) (total : ℕ) (seats : List CoreSeat) : Type 0 where
  pub claimed : (e : EdgeId) → sum_by (flights e) seats ≡ claims (word e.0)
  pub decided : (e : EdgeId) → sum_by (dones e) seats ≡ decides (word e.0)
  pub each : (i : ℕ) (v : CoreSeat) → Lives seats i v → Own word v
  pub parts : sum_by live_part seats ≡ total
