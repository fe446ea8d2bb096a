use Rattle.th_query.proofs.Settling.{limited_met}
use Rattle.th_query.proofs.laws.limited_is_met.Goals as goal

pub returns : goal.returns
returns c s q (v, m) = (v, limited_met s q v m)
