use Rattle.th_syntax.proofs.WorkedKinds.{longs_table, longs_settled, longs_conflicts}
use Rattle.th_syntax.proofs.laws.kinds.longs_are_merged.Goals as goal

pub returns : goal.returns
returns c = record { table = longs_table; settled = longs_settled; conflicts = longs_conflicts }
