use Rattle.std.proofs.Common.{◌≡◌, drop}
use Rattle.th_base.specs.Hierarchy.{first_some}
use Rattle.th_query.specs.Subsumed.{matched_with_fact}
use Rattle.th_canonical.proofs.subsumption.match_fact.Given as goal

-- it is looked for in what is left, and nothing was matched
abbrev pub invariant-loop-other : goal.invariant-loop-other
invariant-loop-other l =
    (first_some (λ g. matched_with_fact l.query l.by l.fact g l.fn.matching.items) (drop l.other-index l.query.facts)
    ≡ first_some (λ g. matched_with_fact l.query l.by l.fact g l.fn.matching.items) l.query.facts) × (l.matching.items ≡ l.fn.matching.items)
