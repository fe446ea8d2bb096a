use Rattle.th_ir.proofs.WorkedChartedForm.{has_harness as charted}
use Rattle.th_ir.proofs.WorkedStoringForm.{has_harness as stored}
use Rattle.th_ir.proofs.laws.worked.storing_is_harnessed.Goals as goal

pub returns : goal.returns
returns c = record { any = stored; chart = charted }
