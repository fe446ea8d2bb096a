use Rattle.th_syntax.proofs.WorkedKinds.{conflicts_straight, conflicts_returning, conflicts_merging, settled_straight, settled_returning, settled_merging}
use Rattle.th_syntax.proofs.laws.kinds.conflicts_are_found.Goals as goal

pub returns : goal.returns
returns c = record { straight = conflicts_straight; returning = conflicts_returning; merging = conflicts_merging; straight_settled = settled_straight; returning_settled = settled_returning; merging_settled = settled_merging }
