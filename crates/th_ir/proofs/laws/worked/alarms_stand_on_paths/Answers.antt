use Rattle.th_ir.proofs.WorkedGraphs.{vector_alarms_are}
use Rattle.th_ir.proofs.laws.worked.alarms_stand_on_paths.Goals as goal

pub returns : goal.returns
returns c = vector_alarms_are
