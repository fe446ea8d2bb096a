use Rattle.std.proofs.Common.{◌≡◌, drop, [], ◌∷◌}
use Rattle.th_base.specs.Hierarchy.{first_some}
use Rattle.th_query.specs.Subsumed.{matched_all}
use Rattle.th_canonical.proofs.subsumption.match_element_in.Given as goal

-- it is looked for in what is left, and nothing was matched
abbrev pub invariant-loop-other : goal.invariant-loop-other
invariant-loop-other l =
    (first_some (λ d. matched_all l.query l.by ((l.element.array, d.array) ∷ (l.element.value, d.value) ∷ []) l.fn.matching) (drop l.other-index l.others)
    ≡ first_some (λ d. matched_all l.query l.by ((l.element.array, d.array) ∷ (l.element.value, d.value) ∷ []) l.fn.matching) l.others) × (l.matching ≡ l.fn.matching)
