use Rattle.th_accept.proofs.Counts.{has_few}
use Rattle.th_accept.proofs.laws.members_are_few.Goals as goal

pub returns-clause-fields : goal.returns-clause-fields
returns-clause-fields c bytes class is = (has_few bytes class is).0

pub returns-clause-methods : goal.returns-clause-methods
returns-clause-methods c bytes class is = (has_few bytes class is).1
