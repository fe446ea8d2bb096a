use Rattle.th_query.proofs.Subsuming.{subsumed_met}
use Rattle.th_query.proofs.laws.subsumed_is_met.Goals as goal

pub returns : goal.returns
returns c plan s q r f e m = subsumed_met s q r f.diffs e m
