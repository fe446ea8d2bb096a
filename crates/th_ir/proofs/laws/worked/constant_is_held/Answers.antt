use Rattle.std.proofs.Common.{refl}
use Rattle.th_ir.proofs.WorkedNamingRun.{run_13}
use Rattle.th_ir.proofs.laws.worked.constant_is_held.Goals as goal

pub returns : goal.returns
returns c = record { first = refl; reached = run_13; launched = refl }
