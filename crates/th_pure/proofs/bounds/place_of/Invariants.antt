use Rattle.std.proofs.Common.{◌≡◌, ◌++◌, take, drop}
use Rattle.th_pure.specs.Bounds.{with_variable}
use Rattle.th_pure.proofs.bounds.place_of.Given as goal

-- the variables so far are less
abbrev pub invariant-loop-at : goal.invariant-loop-at
invariant-loop-at l = with_variable l.variable l.list ≡ take l.at l.list ++ with_variable l.variable (drop l.at l.list)
