-- Outcomes of steps on a list of facts, one after another.
use Rattle.std.specs.Prelude.{List, [], ◌∷◌, ◌++◌, Option, Some, None}
use Rattle.th_linear.specs.Forms.{Form}
use Rattle.th_pure.specs.declared.facts.Outcome.{Outcome}
use Rattle.th_pure.specs.declared.facts.Outcome.TheVariants.{Refuted, Undecided, Remaining}

-- a step on the facts that are left
abbrev pub and_then : Outcome → (List Form → Outcome) → Outcome
and_then Refuted step = Refuted
and_then Undecided step = Undecided
and_then (Remaining fs) step = step fs

-- facts put before those that are left
abbrev pub facts_before : List Form → Outcome → Outcome
facts_before fs outcome = and_then outcome (λ gs. Remaining (fs ++ gs))

-- the facts that are made, where each is: their magnitudes are below 2^62
abbrev pub made : Option Form → Outcome → Outcome
made None rest = Undecided
made (Some f) rest = facts_before (f ∷ []) rest
