use Rattle.th_pure.proofs.Parts.{Apart}
use Rattle.th_pure.proofs.elimination.split.Given as goal

-- the parts so far stand before those of the rest
abbrev pub invariant-loop-fact : goal.invariant-loop-fact
invariant-loop-fact l = Apart l.variable l.fn.facts l.uppers l.lowers l.without l.fact-iterator.rest.items
