use Rattle.std.proofs.Common.{◌≡◌}
use Rattle.th_pure.specs.Outcomes.{facts_before}
use Rattle.th_pure.specs.Division.{divided_all}
use Rattle.th_pure.proofs.division.divide_all.Given as goal

-- what is left stands before what the rest gives
abbrev pub invariant-loop-fact : goal.invariant-loop-fact
invariant-loop-fact l = divided_all l.fn.facts ≡ facts_before l.left (divided_all l.fact-iterator.rest.items)
