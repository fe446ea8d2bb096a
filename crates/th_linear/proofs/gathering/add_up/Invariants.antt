use Rattle.th_linear.proofs.Totals.{AddingAt}
use Rattle.th_linear.proofs.gathering.add_up.Given as goal

-- the terms so far are added up, but for those of the variable
abbrev pub invariant-loop-at : goal.invariant-loop-at
invariant-loop-at l = AddingAt l.fn.terms.items l.terms.items l.kept l.at l.variable l.sum
