-- Facts divided by their greatest common divisors and judged.
use Rattle.std.specs.Prelude.{List, [], ◌∷◌}
use Rattle.th_linear.specs.Forms.{Form}
use Rattle.th_linear.specs.Divided.{normal_of}
use Rattle.th_linear.specs.declared.division.NormalForm.{NormalForm}
use Rattle.th_linear.specs.declared.division.NormalForm.TheVariants.{True, False, Fact}
use Rattle.th_pure.specs.declared.facts.Outcome.{Outcome}
use Rattle.th_pure.specs.declared.facts.Outcome.TheVariants.{Refuted, Remaining}
use Rattle.th_pure.specs.Outcomes.{facts_before}

-- a fact judged before others: a false one refutes them all, a true one is dropped
abbrev pub judged : NormalForm → Outcome → Outcome
judged True rest = rest
judged False rest = Refuted
judged (Fact f) rest = facts_before (f ∷ []) rest

-- each fact divided by the greatest common divisor of its coefficients, and judged
abbrev pub divided_all : List Form → Outcome
divided_all [] = Remaining []
divided_all (f ∷ fs) = judged (normal_of f) (divided_all fs)
