use Rattle.std.proofs.Common.{take}
use Rattle.th_points_to.specs.Rows.{AreRows, pairs_from, based}
use Rattle.th_points_to.proofs.rows.nodes_by_base.Given as goal

abbrev pub invariant-loop-at : goal.invariant-loop-at
invariant-loop-at l = AreRows l.count (pairs_from based 0 (take l.at l.nodes)) l.rows.items
