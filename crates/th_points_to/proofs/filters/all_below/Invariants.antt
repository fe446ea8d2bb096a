use Rattle.std.proofs.Common.{◌≡◌}
use Rattle.th_points_to.proofs.Over.{numbers}
use Rattle.th_points_to.proofs.filters.all_below.Given as goal

abbrev pub invariant-loop-at : goal.invariant-loop-at
invariant-loop-at l = l.ids.items ≡ numbers 0 l.at
