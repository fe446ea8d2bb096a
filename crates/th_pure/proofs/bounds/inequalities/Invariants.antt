use Rattle.std.proofs.Common.{◌≡◌, ◌++◌}
use Rattle.th_pure.specs.Bounds.{inequalities}
use Rattle.th_pure.proofs.bounds.inequalities.Given as goal

-- the list stands before what the rest gives
abbrev pub invariant-loop-fact : goal.invariant-loop-fact
invariant-loop-fact l = inequalities l.fn.facts ≡ l.list ++ inequalities l.fact-iterator.rest.items
