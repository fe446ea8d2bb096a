use Rattle.th_runs.proofs.WorkedWays.{groups_moved}
use Rattle.th_runs.proofs.laws.worked.moves_keep_groups_whole.Goals as goal

pub returns : goal.returns
returns c = groups_moved
