use Rattle.std.proofs.Common.{ap, ◌∙◌}
use Rattle.std.specs.Prelude.{map}
use Rattle.th_points_to.specs.Listing.{call_of}
use Rattle.th_points_to.proofs.listing.list_calls.Goals as goal

pub returns : goal.returns
returns c = record { ordered = c.in_ok-pairs.pairs.items; pairs = c.in_ok-pairs.ensures; is = c.in_ok-list.ensures ∙ ap (map call_of) c.as_slice.ensures.value }
