use Rattle.std.proofs.Common.{◌≡◌}
use Rattle.th_pure.specs.Outcomes.{facts_before}
use Rattle.th_pure.specs.Substitution.{taken_out}
use Rattle.th_pure.proofs.substitution.substitute_all.Given as goal

-- what is left stands before what the rest gives
abbrev pub invariant-loop-fact : goal.invariant-loop-fact
invariant-loop-fact l = taken_out l.by l.variable l.fn.facts ≡ facts_before l.left (taken_out l.by l.variable l.fact-iterator.rest.items)
