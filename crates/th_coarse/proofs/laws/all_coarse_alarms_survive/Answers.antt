use Rattle.th_coarse.specs.Coarse.{coarse_alarms}
use Rattle.th_coarse.proofs.Judging.{all_survive}
use Rattle.th_coarse.proofs.laws.all_coarse_alarms_survive.Goals as goal

pub returns : goal.returns
returns c = λ files. all_survive (coarse_alarms files)
