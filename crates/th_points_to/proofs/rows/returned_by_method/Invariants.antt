use Rattle.std.proofs.Common.{take}
use Rattle.th_points_to.specs.Rows.{AreRows, pairs_from, returned_by}
use Rattle.th_points_to.proofs.rows.returned_by_method.Given as goal

abbrev pub invariant-loop-node : goal.invariant-loop-node
invariant-loop-node l = AreRows l.count (pairs_from returned_by 0 (take l.node-index l.nodes)) l.rows.items
