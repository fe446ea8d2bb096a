use Rattle.std.proofs.Common.{refl}
use Rattle.th_query.proofs.laws.worked.subsumption_has_a_direction.Goals as goal

pub returns-clause-fewer : goal.returns-clause-fewer
returns-clause-fewer c = refl

pub returns-clause-more : goal.returns-clause-more
returns-clause-more c = refl

pub returns-clause-nothing_said : goal.returns-clause-nothing_said
returns-clause-nothing_said c = refl

pub returns-clause-something_said : goal.returns-clause-something_said
returns-clause-something_said c = refl

pub returns-clause-place : goal.returns-clause-place
returns-clause-place c = refl

pub returns-clause-linear : goal.returns-clause-linear
returns-clause-linear c = refl

pub returns-clause-turned : goal.returns-clause-turned
returns-clause-turned c = refl

pub returns-clause-by_difference : goal.returns-clause-by_difference
returns-clause-by_difference c = refl

pub returns-clause-first_fit : goal.returns-clause-first_fit
returns-clause-first_fit c = refl
