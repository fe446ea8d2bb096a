-- What a check answers: the first of the flaws that there are.
use Rattle.std.specs.Prelude.{◌≡◌, List, [], ◌∷◌, Result, Ok, Err}
use Rattle.th_syntax.specs.declared.refusal.Flaw.{Flaw}

-- nothing is wrong exactly where there are no flaws, else the first one of them is answered
abbrev pub BeginsWith : List Flaw → Result (Unit {0}) Flaw → Type 0
BeginsWith flaws (Ok done) = flaws ≡ []
BeginsWith flaws (Err flaw) = (others : List Flaw) × (flaws ≡ flaw ∷ others)
