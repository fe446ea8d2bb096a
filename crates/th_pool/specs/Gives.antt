-- What a function read is what stands at a place by a form.
use Rattle.std.specs.Prelude.{◌≡◌, ℕ, List, ◌++◌, drop, Result, Ok, Err}
use Rattle.std.specs.Borrow.{Bor}
use Rattle.th_syntax.specs.declared.refusal.Flaw.{Flaw}
use Rattle.th_base.specs.declared.fail.Fail.{Fail}
use Rattle.th_base.specs.declared.fail.Fail.TheVariants.{Refused, NoMemory}
use Rattle.th_syntax.specs.Forms.{Placed, Found}
use Rattle.th_syntax.specs.ClassBytes.{Pool}
use Rattle.th_pool.specs.declared.place.Place.{Place}

-- what was read, seen by `view`, is what reading gives, with the place behind it
abbrev pub Gives : {X A : Type 0} → (X → A) → Result (X × Place) Flaw → Result (Found A) Flaw → Type 0
Gives view (Ok x) given = given ≡ Ok (view x.0, x.1.at, x.1.rest.now)
Gives view (Err flaw) given = given ≡ Err flaw

-- bytes, and a number, that stand at an offset
abbrev pub bytes_at : ℕ → Bor (List ℕ) → Placed (List ℕ)
bytes_at at bytes = record { at = at; value = bytes.now }

abbrev pub number_at : ℕ → ℕ → Placed ℕ
number_at at number = record { at = at; value = number }

-- what stands behind a reference
abbrev pub behind : Bor (List ℕ) → List ℕ
behind bytes = bytes.now

-- two numbers as they are
abbrev pub pair_of : ℕ × ℕ → ℕ × ℕ
pair_of pair = pair

-- The same of a call that may want memory: it answered so, or memory ran out.
abbrev pub Answers : {X A : Type 0} → (X → A) → Result X (Fail Flaw) → Result A Flaw → Type 0
Answers view (Ok x) given = given ≡ Ok (view x)
Answers view (Err (Refused flaw)) given = given ≡ Err flaw
Answers view (Err NoMemory) given = Unit {0}

-- what was read before, in front of what is read
abbrev pub with_front : Pool → Result (Found Pool) Flaw → Result (Found Pool) Flaw
with_front front (Ok found) = Ok (front ++ found.0, found.1, found.2)
with_front front (Err flaw) = Err flaw

-- a fact of the flaw that a call was refused for
abbrev pub IfRefused : {X : Type 0} → Result X (Fail Flaw) → (Flaw → Type 0) → Type 0
IfRefused (Ok x) P = Unit {0}
IfRefused (Err (Refused flaw)) P = P flaw
IfRefused (Err NoMemory) P = Unit {0}

-- a pool, the offset behind it, and the bytes of the file from there on
abbrev pub end_at : List ℕ → Pool × ℕ → Found Pool
end_at bytes x = (x.0, x.1, drop x.1 bytes)
