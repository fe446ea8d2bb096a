-- A step that stops the reading, for a flaw or for want of memory.
use Rattle.std.proofs.Common.{◌≡◌, ℕ, List, Result, Ok, Err, ◌∙◌}
use Rattle.th_base.specs.declared.fail.Fail.{Fail}
use Rattle.th_base.specs.declared.fail.Fail.TheVariants.{Refused, NoMemory}
use Rattle.th_syntax.specs.declared.refusal.Flaw.{Flaw}
use Rattle.th_syntax.specs.Forms.{Form, ◌>>=◌, Found, read}
use Rattle.th_syntax.proofs.ReadingParts.{read_stops, read_after}
use Rattle.th_pool.specs.Gives.{Answers}

-- the reading gives this flaw, or memory ran out
abbrev pub Stops : {A : Type 0} → Fail Flaw → Result A Flaw → Type 0
Stops (Refused flaw) given = given ≡ Err flaw
Stops NoMemory given = Unit {0}

-- a part stops, and so does what begins with it
pub stops_first : {X A B : Type 0} (view : X → Found A) (fail : Fail Flaw) (f : Form A) (g : A → Form B) (at : ℕ) (bytes : List ℕ) → Answers {X = X} view (Err fail) (read f at bytes) → Stops fail (read (f >>= g) at bytes)
stops_first view (Refused flaw) f g at bytes e = read_stops f g at bytes flaw e
stops_first view NoMemory f g at bytes e = tt

-- a part was read, and what follows stops
pub stops_later : {A B : Type 0} (fail : Fail Flaw) (f : Form A) (g : A → Form B) (at : ℕ) (bytes : List ℕ) (found : Found A) → read f at bytes ≡ Ok found → Stops fail (read (g found.0) found.1 found.2) → Stops fail (read (f >>= g) at bytes)
stops_later (Refused flaw) f g at bytes found e later = read_after f g at bytes found e ∙ later
stops_later NoMemory f g at bytes found e later = tt
