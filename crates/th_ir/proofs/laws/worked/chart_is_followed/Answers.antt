use Rattle.std.proofs.Common.{refl}
use Rattle.th_ir.proofs.WorkedChartedRun.{run_30}
use Rattle.th_ir.proofs.laws.worked.chart_is_followed.Goals as goal

pub returns : goal.returns
returns c = record { reached = run_30; stage = (_, refl, refl); idle = refl }
