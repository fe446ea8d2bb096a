use Rattle.th_runs.proofs.AllLocals.{all_locals}
use Rattle.th_runs.proofs.laws.tables_know_all_locals.Goals as goal

pub returns : goal.returns
returns c = all_locals
