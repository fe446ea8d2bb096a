use Rattle.th_runs.proofs.WorkedActivity.{verified}
use Rattle.th_runs.proofs.laws.worked.activity_is_verified.Goals as goal

pub returns : goal.returns
returns c = verified c.activity_is_read.ensures.value
