use Rattle.th_runs.proofs.WorkedRows.{too_short}
use Rattle.th_runs.proofs.laws.worked.moves_need_their_slots.Goals as goal

pub returns : goal.returns
returns c = too_short
