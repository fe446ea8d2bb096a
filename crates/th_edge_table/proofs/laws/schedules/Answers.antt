use Rattle.th_edge_table.proofs.Runs.{scheduled}
use Rattle.th_edge_table.proofs.laws.schedules.Goals as goal

pub returns : goal.returns
returns c = scheduled
