use Rattle.th_top.proofs.Verifying.{all_joined}
use Rattle.th_top.proofs.laws.all_joined_survive.Goals as goal

pub returns : goal.returns
returns c = all_joined c.joined_pairs_are_alarms.ensures.survivors
