use Rattle.std.proofs.Common.{◌≡◌, drop}
use Rattle.th_pure.specs.Elimination.{AreInequalities, eliminated_all}
use Rattle.th_pure.proofs.elimination.eliminate_all.Given as goal

-- the variables to come, eliminated from what is left, give what all give
abbrev pub invariant-loop-variable : goal.invariant-loop-variable
invariant-loop-variable l =
    AreInequalities l.left × (eliminated_all l.variables l.fn.facts ≡ eliminated_all (drop l.variable-index l.variables) l.left)
