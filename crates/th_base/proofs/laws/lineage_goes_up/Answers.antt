use Rattle.th_base.proofs.Enough.{lineage_of_is}
use Rattle.th_base.proofs.laws.lineage_goes_up.Goals as goal

pub returns : goal.returns
returns c = lineage_of_is
