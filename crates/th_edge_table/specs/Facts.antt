-- The six facts: what holds of the words and of the seats that have not ended, between any two events.
use Rattle.th_edge_table.specs.declared.state.TheConstants.{PARTS}
use Rattle.std.specs.Prelude.{◌≡◌, ◌≢◌, ◌⊎◌, ℕ, ◌<◌, ◌≤◌, ◌==◌, false, cond, List, length, Contains, count_by, sum_by, Some}
use mathlib.Core.Option.{some}
use lib.ListN.{get_elem?}
use Rattle.th_base.specs.declared.number.EdgeId.{EdgeId}
use Rattle.th_edge_table.specs.declared.word.Verdict.{Verdict}
use Rattle.th_edge_table.specs.declared.word.Word.{Word}
use Rattle.th_edge_table.specs.declared.word.Word.TheVariants.{Free, Claimed, Decided}
use Rattle.th_edge_table.specs.declared.state.CoreSeat.{CoreSeat}

-- how often the edge stands in the list
abbrev pub times : {X : Type 0} → EdgeId → List (EdgeId × X) → ℕ
times e xs = count_by (λ x. x.0.0 == e.0) xs

-- what may be there now, where this word was seen before
abbrev pub Outlives : Word → Word → Type 0
Outlives Free now = Unit {0}
Outlives Claimed now = now ≢ Free
Outlives (Decided d) now = now ≡ Decided d

-- what the word of an edge can be, by what a seat knows and has done
pub record Faithful (v : CoreSeat) (e : EdgeId) (w : Word) : Type 0 where
  pub seen : (x : Word) → Contains v.seen (e, x) → Outlives x w
  pub taken : (k : ℕ) → Contains v.taken (e, k) → w ≢ Free
  pub in_flight : v.in_flight ≡ Some e → w ≡ Claimed
  pub done : (d : Verdict) → Contains v.done (e, d) → w ≡ Decided d

-- the seat i is v, which has not ended
abbrev pub Lives : List CoreSeat → ℕ → CoreSeat → Type 0
Lives seats i v = (get_elem? seats i ≡ some v) × (v.ended ≡ false)

-- the edge is in flight in the seat i
abbrev pub FliesIn : List CoreSeat → EdgeId → ℕ → Type 0
FliesIn seats e i = (v : CoreSeat) × Lives seats i v × (v.in_flight ≡ Some e)

-- the edge stands with the verdict in the `done` of the seat i
abbrev pub DoneIn : List CoreSeat → EdgeId → Verdict → ℕ → Type 0
DoneIn seats e d i = (v : CoreSeat) × Lives seats i v × Contains v.done (e, d)

-- the part of a seat that has not ended
abbrev pub live_part : CoreSeat → ℕ
live_part v = cond v.ended 0 v.part

pub record SixFacts (word : ℕ → Word) (seats : List CoreSeat) : Type 0 where
  -- 1. a word is Claimed exactly where its edge is in flight in one seat, and then in no other
  pub claimed : (e : EdgeId) → word e.0 ≡ Claimed → (i : ℕ) × FliesIn seats e i
  pub in_flight : (e : EdgeId) (i : ℕ) → FliesIn seats e i → word e.0 ≡ Claimed
  pub one_flight : (e : EdgeId) (i j : ℕ) → FliesIn seats e i → FliesIn seats e j → i ≡ j
  -- 2. a word is Decided exactly where its edge with the verdict is done by one seat, there once, and by no other
  pub decided : (e : EdgeId) (d : Verdict) → word e.0 ≡ Decided d → (i : ℕ) × DoneIn seats e d i
  pub done : (e : EdgeId) (d : Verdict) (i : ℕ) → DoneIn seats e d i → word e.0 ≡ Decided d
  pub one_done : (e : EdgeId) (d d' : Verdict) (i j : ℕ) → DoneIn seats e d i → DoneIn seats e d' j → i ≡ j
  pub done_once : (i : ℕ) (v : CoreSeat) → Lives seats i v → (e : EdgeId) → times e v.done ≤ 1
  -- 3. no edge is both done and in flight
  pub apart : (e : EdgeId) (d : Verdict) (i j : ℕ) → DoneIn seats e d i → ¬ FliesIn seats e j
  -- 4. what was seen as Claimed is not Free now, and what was seen as Decided is that now
  pub seen : (i : ℕ) (v : CoreSeat) → Lives seats i v
      → (e : EdgeId) (x : Word) → Contains v.seen (e, x) → Outlives x (word e.0)
  -- 5. no edge is taken twice by one seat; what is taken is in flight or done there, at no more than the length of `seen`
  pub taken_once : (i : ℕ) (v : CoreSeat) → Lives seats i v → (e : EdgeId) → times e v.taken ≤ 1
  pub taken : (i : ℕ) (v : CoreSeat) → Lives seats i v
      → (e : EdgeId) (k : ℕ) → Contains v.taken (e, k) → (v.in_flight ≡ Some e) ⊎ ((d : Verdict) × Contains v.done (e, d))
  pub taken_at : (i : ℕ) (v : CoreSeat) → Lives seats i v
      → (e : EdgeId) (k : ℕ) → Contains v.taken (e, k) → k ≤ length v.seen
  -- 6. the parts are positive and add up to 65,536
  pub part : (i : ℕ) (v : CoreSeat) → Lives seats i v → 0 < v.part
  pub parts : sum_by live_part seats ≡ PARTS
