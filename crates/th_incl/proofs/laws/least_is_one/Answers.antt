use Rattle.th_incl.proofs.Families.{one_least, least_by_families}
use Rattle.th_incl.proofs.laws.least_is_one.Goals as goal

pub returns : goal.returns
returns c = record { one = one_least; by_families = least_by_families }
