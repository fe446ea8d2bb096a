-- The rule of the running table, and what each of its steps tells.
-- The word 0 of the running table never changes; the word of an edge stands one place behind its number.
use Rattle.std.specs.Prelude.{◌≡◌, ℕ, ◌+◌, zero, suc, List, [], ◌∷◌, ◌++◌, length, slice_index}
use Rattle.atomic_table.specs.Table.{State, Me, Step}
use Rattle.th_base.specs.declared.number.EdgeId.{EdgeId}
use Rattle.th_edge_table.specs.declared.word.Verdict.{Verdict}
use Rattle.th_edge_table.specs.declared.word.Word.{Word}
use Rattle.th_edge_table.specs.declared.word.Word.TheVariants.{Decided}
use Rattle.th_edge_table.specs.declared.state.CoreSeat.{CoreSeat}
use Rattle.th_edge_table.specs.Encoding.{word_of}
use Rattle.th_edge_table.specs.Core.{saw, claimed, published}
use Rattle.th_edge_table.specs.Facts.{SixFacts, Faithful}

-- the word of an edge in a row of numbers
abbrev pub word_in : List ℕ → ℕ → Word
word_in row e = word_of (slice_index row (e + 1))

-- the rule: one word more than there are edges, and the six facts
pub record Ruled (edges : ℕ) (s : State (Unit {0}) CoreSeat) : Type 0 where
  pub wide : length s.words ≡ edges + 1
  pub facts : SixFacts (word_in s.words) s.views

-- a seat of the running table: what it knows, and the slots that it holds, which are none
abbrev Sat : Type 0
Sat = Me (Unit {0}) CoreSeat

-- a load of an edge's word is a look at the edge
abbrev pub looks_once : Step (Unit {0}) → Sat → ℕ → Sat → Type 0
looks_once st m r m' =
    (e : EdgeId) → st.word ≡ e.0 + 1 → (m' ≡ (saw e (word_of r) m.0, m.1)) × Faithful m.0 e (word_of r)

-- a compare and exchange of an edge's word, from free to claimed, is a claim of the edge
abbrev pub claims_once : Step (Unit {0}) → Sat → ℕ → Sat → Type 0
claims_once st m r m' =
    (e : EdgeId) → st.word ≡ e.0 + 1 → (m' ≡ (claimed e (word_of r) m.0, m.1)) × Faithful m.0 e (word_of r)

-- a store of a verdict into an edge's word publishes it
abbrev pub publishes_once : Step (Unit {0}) → Sat → ℕ → Sat → Type 0
publishes_once st m r m' =
    (e : EdgeId) (d : Verdict) → st.word ≡ e.0 + 1 → word_of r ≡ Decided d → m' ≡ (published e d m.0, m.1)

-- the words of the first edges of a row of numbers
abbrev pub words_from : List ℕ → ℕ → List Word
words_from row zero = []
words_from row (suc n) = words_from row n ++ word_in row n ∷ []
