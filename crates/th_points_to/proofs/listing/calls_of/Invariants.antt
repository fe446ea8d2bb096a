use Rattle.std.proofs.Common.{◌≡◌, map, take}
use Rattle.th_points_to.specs.Listing.{call_of}
use Rattle.th_points_to.proofs.listing.calls_of.Given as goal

abbrev pub invariant-loop-pair : goal.invariant-loop-pair
invariant-loop-pair l = l.list ≡ map call_of (take l.pair-index l.pairs)
