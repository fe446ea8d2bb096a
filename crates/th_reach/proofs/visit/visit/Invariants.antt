use Rattle.std.proofs.Common.{◌-◌, ◌^◌}
use Rattle.th_reach.specs.Visit.{IsVisit}
use Rattle.th_reach.proofs.visit.visit.Given as goal

abbrev pub invariant-loop-at : goal.invariant-loop-at
invariant-loop-at l = IsVisit l.instrs l.at l.found.keys

abbrev pub decreases-loop-at : goal.decreases-loop-at
decreases-loop-at l = 2 ^ 63 - l.at
