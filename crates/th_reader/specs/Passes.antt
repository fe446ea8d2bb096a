-- What the checks of a pass answer: the first of its flaws, which stand in ascending order.
use Rattle.std.specs.Prelude.{◌≡◌, List, [], ◌∷◌, Option, Some, None, Result, Ok, Err}
use Rattle.th_base.specs.declared.fail.Fail.{Fail}
use Rattle.th_base.specs.declared.fail.Fail.TheVariants.{Refused, NoMemory}
use Rattle.th_syntax.specs.declared.refusal.Flaw.{Flaw}

-- the flaw that a list of flaws begins with
abbrev pub front_flaw : List Flaw → Option Flaw
front_flaw [] = None
front_flaw (flaw ∷ flaws) = Some flaw

-- the flaw for which a check refuses
abbrev pub refused_flaw : Result (Unit {0}) Flaw → Option Flaw
refused_flaw (Ok done) = None
refused_flaw (Err flaw) = Some flaw

-- The answer of what is checked and made in one: the value where there are no flaws, or else the first
-- of them, or memory ran out.
abbrev pub Makes : {X : Type 0} → List Flaw → Option X → Result X (Fail Flaw) → Type 0
Makes flaws value (Ok x) = (flaws ≡ []) × (value ≡ Some x)
Makes flaws value (Err (Refused flaw)) = front_flaw flaws ≡ Some flaw
Makes flaws value (Err NoMemory) = Unit {0}
