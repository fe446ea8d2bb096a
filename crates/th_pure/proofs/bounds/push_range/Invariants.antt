use Rattle.std.proofs.Common.{◌≡◌, drop}
use Rattle.th_pure.specs.Substitution.{range_facts}
use Rattle.th_pure.proofs.bounds.push_range.Given as goal

-- the ranges so far are of other variables
abbrev pub invariant-loop-range : goal.invariant-loop-range
invariant-loop-range l = (l.facts ≡ l.fn.facts) × (range_facts l.ranges l.variable ≡ range_facts (drop l.range-index l.ranges) l.variable)
