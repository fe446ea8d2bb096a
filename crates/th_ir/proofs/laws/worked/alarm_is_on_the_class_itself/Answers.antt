use Rattle.th_ir.proofs.WorkedGraphs.{storing_alarms_are}
use Rattle.th_ir.proofs.laws.worked.alarm_is_on_the_class_itself.Goals as goal

pub returns : goal.returns
returns c = storing_alarms_are
