use Rattle.th_coarse.proofs.Alarming.{alarm_listed}
use Rattle.th_coarse.proofs.laws.coarse_alarms_are_listed.Goals as goal

pub returns : goal.returns
returns c = alarm_listed c.reached_offsets_are_found.ensures
