use Rattle.std.proofs.Common.{refl}
use Rattle.th_ir.proofs.WorkedReceiversRun.{run_41, run_50}
use Rattle.th_ir.proofs.laws.worked.element_is_called.Goals as goal

pub returns : goal.returns
returns c = record { stored = run_41; elements = (_, refl, refl); reached = run_50; held = refl; idle = refl }
