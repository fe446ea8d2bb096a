use Rattle.th_runs.proofs.WorkedRows.{int_pushed, long_pushed, int_held, long_held, long_shifted}
use Rattle.th_runs.proofs.laws.worked.numbers_are_kept_in_range.Goals as goal

pub returns : goal.returns
returns c = record { int = int_pushed; long = long_pushed; int_constant = int_held; long_constant = long_held; shift = long_shifted }
