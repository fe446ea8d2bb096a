use Rattle.th_runs.proofs.WorkedWays.{loads_missed, stores_missed}
use Rattle.th_runs.proofs.laws.worked.missing_elements_end.Goals as goal

pub returns : goal.returns
returns c = record { loads = loads_missed; stores = stores_missed }
