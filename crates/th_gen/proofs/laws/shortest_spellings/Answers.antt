use Rattle.std.proofs.Common.{refl}
use Rattle.th_gen.specs.Items.{index_of}
use Rattle.th_gen.proofs.laws.shortest_spellings.Goals as goal

pub returns : goal.returns
unfolding index_of
returns c = record { spellings = refl; last_short_index = refl; first_long_index = refl; farthest_on = refl; too_far_on = refl; farthest_back = refl; too_far_back = refl }
