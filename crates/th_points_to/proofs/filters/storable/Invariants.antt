use Rattle.std.proofs.Common.{◌≡◌, take}
use Rattle.th_points_to.specs.Storing.{storable}
use Rattle.th_points_to.proofs.filters.storable.Given as goal

abbrev pub invariant-loop-at : goal.invariant-loop-at
invariant-loop-at l = l.ids.items ≡ storable l.hierarchy l.array (take l.at l.sites)
