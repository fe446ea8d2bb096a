use Rattle.th_ir.proofs.WorkedRefusals.{refused_run, start_refused}
use Rattle.th_ir.proofs.laws.worked.chart_refuses_a_start.Goals as goal

pub returns : goal.returns
returns c = record { reached = refused_run; stopped = start_refused }
