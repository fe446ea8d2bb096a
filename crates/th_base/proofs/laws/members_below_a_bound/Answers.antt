use Rattle.th_base.proofs.Sieve.{length_below}
use Rattle.th_base.proofs.laws.members_below_a_bound.Goals as goal

pub returns : goal.returns
returns c = length_below
