use Rattle.th_runs.proofs.WorkedRows.{interface_made, ints_stored, longs_stored}
use Rattle.th_runs.proofs.laws.worked.types_decide.Goals as goal

pub returns : goal.returns
returns c = record { interface = interface_made; ints = ints_stored; longs = longs_stored }
