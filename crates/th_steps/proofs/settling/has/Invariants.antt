use Rattle.std.proofs.Common.{◌≡◌, drop}
use Rattle.th_pure.specs.Elimination.{has_fact}
use Rattle.th_steps.proofs.settling.has.Given as goal

-- what is left decides
abbrev pub invariant-loop-other : goal.invariant-loop-other
invariant-loop-other l = has_fact l.fact (drop l.other-index l.facts) ≡ has_fact l.fact l.facts
