use Rattle.std.proofs.Common.{◌≡◌, drop}
use Rattle.th_pure.specs.Bounds.{variables, with_facts}
use Rattle.th_pure.proofs.bounds.variables.Given as goal

-- the rest's variables put into the list give all
abbrev pub invariant-loop-fact : goal.invariant-loop-fact
invariant-loop-fact l = variables l.facts ≡ with_facts l.list.items (drop l.fact-index l.facts)
