use Rattle.th_wrap.proofs.Range.{wrapped_in_range, wrapped_congruent, wrapped_only}
use Rattle.th_wrap.proofs.laws.wraps_into_range.Goals as goal

pub returns-clause-range : goal.returns-clause-range
returns-clause-range c = wrapped_in_range

pub returns-clause-congruent : goal.returns-clause-congruent
returns-clause-congruent c = wrapped_congruent

pub returns-clause-only : goal.returns-clause-only
returns-clause-only c = wrapped_only
