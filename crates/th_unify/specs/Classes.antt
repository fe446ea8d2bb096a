-- Tables that name for each symbol the one that stands for it, and what a search for two symbols that
-- a table doesn't make one finds.
use Rattle.std.specs.Prelude.{ℕ, ◌≡◌, ◌≢◌, ◌+◌, ◌<◌, ◌≤◌, ◌==◌, true, min, max, List, [], ◌∷◌, map, if◌then◌else◌}
use Rattle.th_linear.specs.Gathered.{name_of}
use Rattle.th_ir.specs.Program.{Among}
use Rattle.th_query.specs.declared.query.Frame.{Frame}
use Rattle.th_query.specs.declared.query.Cell.{Cell}
use Rattle.th_query.specs.declared.query.Query.{Query}
use Rattle.th_query.specs.Symbols.{is_named}
use Rattle.th_query.specs.Unified.{IsOne}

-- the symbols that the query names are below n
abbrev pub AreNamedBelow : Query → ℕ → Type 0
AreNamedBelow q n = (s : ℕ) → is_named q s ≡ true → s < n

-- what stands for each symbol is one with it, and isn't above it
pub record IsTable (q : Query) (names : List ℕ) : Type 0 where
  pub sound : (s : ℕ) → IsOne q s (name_of names s)
  pub below : (s : ℕ) → name_of names s ≤ s

-- ---- a join

-- the new number where x is the old one, else x
abbrev pub put_for : ℕ → ℕ → ℕ → ℕ
put_for old new x = if x == old then new else x

-- the lesser of the names of two symbols stands for all that either stood for
abbrev pub joined : List ℕ → ℕ → ℕ → List ℕ
joined names s t = map (put_for (max (name_of names s) (name_of names t)) (min (name_of names s) (name_of names t))) names

-- all numbers together
abbrev pub total : List ℕ → ℕ
total [] = 0
total (x ∷ xs) = x + total xs

-- ---- a search

-- g is one thing for facts with one key
abbrev pub Agree : {K : Type 0} → List (K × ℕ) → (ℕ → ℕ) → Type 0
Agree {K = K} xs g = (k : K) (s t : ℕ) → Among xs (k, s) → Among xs (k, t) → g s ≡ g t

-- two facts with one key for which g is two things
abbrev pub Clash : {K : Type 0} → List (K × ℕ) → (ℕ → ℕ) → ℕ → ℕ → Type 0
Clash {K = K} xs g s t = (k : K) × Among xs (k, s) × Among xs (k, t) × (g s ≢ g t)

-- the same of one fact: its key, and what g is there
abbrev pub AgreeWith : {K : Type 0} → K → ℕ → List (K × ℕ) → (ℕ → ℕ) → Type 0
AgreeWith k n xs g = (t : ℕ) → Among xs (k, t) → g t ≡ n

abbrev pub ClashWith : {K : Type 0} → K → ℕ → List (K × ℕ) → (ℕ → ℕ) → ℕ → Type 0
ClashWith k n xs g t = Among xs (k, t) × (g t ≢ n)

abbrev pub AgreeFrames : List Frame → (ℕ → ℕ) → Type 0
AgreeFrames fs g = (f : Frame) → Among fs f → Agree f.regs g

abbrev pub ClashFrames : List Frame → (ℕ → ℕ) → ℕ → ℕ → Type 0
ClashFrames fs g s t = (f : Frame) × Among fs f × Clash f.regs g s t

abbrev pub AgreeCell : Cell → List Cell → (ℕ → ℕ) → Type 0
AgreeCell c cs g = (d : Cell) → Among cs d → d.field ≡ c.field → g d.base ≡ g c.base → g d.value ≡ g c.value

abbrev pub ClashCell : Cell → List Cell → (ℕ → ℕ) → ℕ → Type 0
ClashCell c cs g t = (d : Cell) × Among cs d × (d.field ≡ c.field) × (g d.base ≡ g c.base) × (g d.value ≢ g c.value) × (d.value ≡ t)

abbrev pub AgreeCells : List Cell → (ℕ → ℕ) → Type 0
AgreeCells cs g = (c : Cell) → Among cs c → AgreeCell c cs g

abbrev pub ClashCells : List Cell → (ℕ → ℕ) → ℕ → ℕ → Type 0
ClashCells cs g s t = (c : Cell) × Among cs c × (c.value ≡ s) × ClashCell c cs g t

-- g is one thing for all facts of the query with one key
pub record AllAgree (q : Query) (g : ℕ → ℕ) : Type 0 where
  pub frames : AgreeFrames q.frames g
  pub statics : Agree q.statics g
  pub cells : AgreeCells q.cells g

-- two named symbols that are one, and aren't yet one in the table
pub record IsUnequal (q : Query) (names : List ℕ) (s t : ℕ) : Type 0 where
  pub one : IsOne q s t
  pub unequal : name_of names s ≢ name_of names t
  pub first : is_named q s ≡ true
  pub second : is_named q t ≡ true
