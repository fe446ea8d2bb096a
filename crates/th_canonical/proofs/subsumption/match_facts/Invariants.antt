use Rattle.std.proofs.Common.{◌≡◌, drop}
use Rattle.th_query.specs.Subsumed.{matched_in_turn, matched_fact}
use Rattle.th_canonical.proofs.subsumption.match_facts.Given as goal

-- what is left is matched from here on
abbrev pub invariant-loop-fact : goal.invariant-loop-fact
invariant-loop-fact l = matched_in_turn (matched_fact l.query l.by) (drop l.fact-index l.by.facts) l.matching.items ≡ matched_in_turn (matched_fact l.query l.by) l.by.facts l.fn.matching.items
