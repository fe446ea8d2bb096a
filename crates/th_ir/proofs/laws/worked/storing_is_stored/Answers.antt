use Rattle.std.proofs.Common.{refl}
use Rattle.th_ir.proofs.WorkedStoringRun.{run_9, run_17}
use Rattle.th_ir.proofs.laws.worked.storing_is_stored.Goals as goal

pub returns : goal.returns
returns c = record { launched = run_9; listed = refl; reached = run_17; held = refl; idle = refl }
