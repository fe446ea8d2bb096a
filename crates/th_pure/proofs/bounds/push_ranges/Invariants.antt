use Rattle.std.proofs.Common.{◌≡◌, ◌++◌, drop}
use Rattle.th_pure.specs.Bounds.{all_range_facts}
use Rattle.th_pure.proofs.bounds.push_ranges.Given as goal

-- the facts stand before the ranges to come
abbrev pub invariant-loop-variable : goal.invariant-loop-variable
invariant-loop-variable l = l.fn.facts ++ all_range_facts l.ranges l.variables ≡ l.facts ++ all_range_facts l.ranges (drop l.variable-index l.variables)
