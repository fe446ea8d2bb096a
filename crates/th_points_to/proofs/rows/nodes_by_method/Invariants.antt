use Rattle.std.proofs.Common.{take}
use Rattle.th_points_to.specs.Rows.{AreRows, pairs_from, standing}
use Rattle.th_points_to.proofs.rows.nodes_by_method.Given as goal

abbrev pub invariant-loop-at : goal.invariant-loop-at
invariant-loop-at l = AreRows l.count (pairs_from standing 0 (take l.at l.nodes)) l.rows.items
