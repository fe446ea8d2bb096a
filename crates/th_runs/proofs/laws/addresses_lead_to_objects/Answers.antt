use Rattle.th_runs.proofs.Addressed.{objects_are_there}
use Rattle.th_runs.proofs.laws.addresses_lead_to_objects.Goals as goal

pub returns : goal.returns
returns c = objects_are_there
