-- Forms: what bytes have to be, as items that follow one another.
use Rattle.std.specs.Prelude.{◌≡◌, ℕ, ◌+◌, ◌*◌, ◌^◌, ◌<◌, ◌⊎◌, List, [], ◌∷◌, ◌++◌, length, take, drop, Result, Ok, Err, nat_lt, if◌then◌else◌}
use Rattle.std.specs.List.{concat}
use Rattle.th_syntax.specs.declared.cause.TheConstants as cause
use Rattle.th_syntax.specs.declared.refusal.Flaw.{Flaw}
use Rattle.th_syntax.specs.Flaws.{flaw_at}

-- what the next items have to be
pub data Form (A : Type 0) : Type 0 where
  -- no more items, and what they stand for
  whole : A → Form A
  -- an item of so many bytes; what follows may depend on its offset and on its bytes
  item : ℕ → (ℕ → List ℕ → Form A) → Form A
  -- nothing may follow: the offset and the number of what is wrong
  wrong : ℕ → ℕ → Form A

infixl 10 ◌>>=◌
-- one form after the other
unfoldable pub ◌>>=◌ : {A B : Type 0} → Form A → (A → Form B) → Form B
whole x >>= f = f x
item n next >>= f = item n (λ at bytes. next at bytes >>= f)
wrong at number >>= f = wrong at number

-- a value, and the offset at which it stands
pub record Placed (A : Type 0) : Type 0 where
  pub at : ℕ
  pub value : A

-- the number that bytes spell, the highest first (Java specification 4)
abbrev pub number_of : List ℕ → ℕ
number_of [] = 0
number_of (b ∷ bytes) = b * 256 ^ length bytes + number_of bytes

-- ---- what stands at the front of bytes

-- These items, the first of them at this offset, are the first of the form, and leave the form `rest`.
abbrev pub Begins : {A : Type 0} → Form A → ℕ → List (List ℕ) → Form A → Type 0
Begins form at [] rest = form ≡ rest
Begins (whole x) at (first ∷ items) rest = ⊥
Begins (item n next) at (first ∷ items) rest = (length first ≡ n) × Begins (next at first) (at + n) items rest
Begins (wrong place number) at (first ∷ items) rest = ⊥

-- All items of the form stand at the front of the bytes, the first of them at the offset `at`, and
-- stand for this value. The offset `behind` is the one behind them, where the bytes `others` follow.
pub record Stands {A : Type 0} (form : Form A) (at : ℕ) (bytes : List ℕ) (value : A) (behind : ℕ) (others : List ℕ) : Type 0 where
  pub items : List (List ℕ)
  pub front : bytes ≡ concat items ++ others
  pub begins : Begins form at items (whole value)
  pub behind_is : behind ≡ at + length (concat items)

-- The longest list of items that lies within the bytes ends before an item that goes past the end:
-- this is refused at its start.
pub record IsTruncated {A : Type 0} (form : Form A) (at : ℕ) (bytes : List ℕ) (flaw : Flaw) : Type 0 where
  pub items : List (List ℕ)
  pub others : List ℕ
  pub size : ℕ
  pub next : ℕ → List ℕ → Form A
  pub front : bytes ≡ concat items ++ others
  pub begins : Begins form at items (item size next)
  pub short : length others < size
  pub flaw_is : flaw ≡ flaw_at cause.TRUNCATED (at + length (concat items))

-- The longest list of items that lies within the bytes ends where nothing may follow.
pub record IsWrong {A : Type 0} (form : Form A) (at : ℕ) (bytes : List ℕ) (flaw : Flaw) : Type 0 where
  pub items : List (List ℕ)
  pub others : List ℕ
  pub place : ℕ
  pub number : ℕ
  pub front : bytes ≡ concat items ++ others
  pub begins : Begins form at items (wrong place number)
  pub flaw_is : flaw ≡ flaw_at number place

-- what is wrong with the items of the form at the front of the bytes
abbrev pub IsFlawed : {A : Type 0} → Form A → ℕ → List ℕ → Flaw → Type 0
IsFlawed form at bytes flaw = IsTruncated form at bytes flaw ⊎ IsWrong form at bytes flaw

-- ---- the same as a function, as the laws say

-- a value, the offset behind its items, and the bytes there
abbrev pub Found : Type 0 → Type 0
Found A = A × ℕ × List ℕ

unfoldable pub read : {A : Type 0} → Form A → ℕ → List ℕ → Result (Found A) Flaw
read (whole x) at bytes = Ok (x, at, bytes)
read {A = A} (item n next) at bytes =
    let longer : Result (Found A) Flaw = read (next at (take n bytes)) (at + n) (drop n bytes) in
    if nat_lt (length bytes) n then Err (flaw_at cause.TRUNCATED at) else longer
read (wrong place number) at bytes = Err (flaw_at number place)
