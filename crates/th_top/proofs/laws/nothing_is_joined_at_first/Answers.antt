use Rattle.th_top.proofs.Beginning.{nothing_joined}
use Rattle.th_top.proofs.laws.nothing_is_joined_at_first.Goals as goal

pub returns : goal.returns
returns c = nothing_joined
