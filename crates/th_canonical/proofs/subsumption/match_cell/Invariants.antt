use Rattle.std.proofs.Common.{◌≡◌, ◌==◌, cond, drop, None, [], ◌∷◌}
use Rattle.th_base.specs.Hierarchy.{first_some}
use Rattle.th_query.specs.Subsumed.{matched_all, matched_cell}
use Rattle.th_canonical.proofs.subsumption.match_cell.Given as goal

-- it is looked for in what is left, and nothing was matched
abbrev pub invariant-loop-other : goal.invariant-loop-other
invariant-loop-other l =
    (first_some (λ d. cond (d.field.0 == l.cell.field.0) (matched_all l.query l.by ((l.cell.base, d.base) ∷ (l.cell.value, d.value) ∷ []) l.fn.matching) None) (drop l.other-index l.query.cells)
    ≡ matched_cell l.query l.by l.cell l.fn.matching) × (l.matching ≡ l.fn.matching)
