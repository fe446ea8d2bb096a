use Rattle.std.proofs.Common.{refl}
use Rattle.th_incl.proofs.Small.{small_range, small_is_least, four_within, three_over}
use Rattle.th_incl.proofs.laws.small_system_is_solved.Goals as goal

pub returns : goal.returns
returns c = record { range = small_range; least = small_is_least; pairs = refl; within = four_within; over = three_over }
