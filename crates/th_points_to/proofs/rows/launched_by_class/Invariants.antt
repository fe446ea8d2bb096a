use Rattle.std.proofs.Common.{take}
use Rattle.th_points_to.specs.Rows.{AreRows, pairs_from, launched_by}
use Rattle.th_points_to.proofs.rows.launched_by_class.Given as goal

abbrev pub invariant-loop-at : goal.invariant-loop-at
invariant-loop-at l = AreRows l.count (pairs_from launched_by 0 (take l.at l.sites)) l.rows.items
