use Rattle.std.proofs.Common.{refl}
use Rattle.th_ir.proofs.WorkedInitialisingRun.{run_14, run_28, run_32}
use Rattle.th_ir.proofs.laws.worked.initialiser_is_entered.Goals as goal

pub returns : goal.returns
returns c = record { entered = run_14; passed = run_28; held = refl; reached = run_32; launched = refl; idle = refl }
