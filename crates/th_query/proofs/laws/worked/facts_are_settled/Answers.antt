use Rattle.std.proofs.Common.{refl}
use Rattle.th_linear.specs.Divided.{normal_of, content_of, greatest}
use Rattle.th_query.proofs.laws.worked.facts_are_settled.Goals as goal

pub returns-clause-pruned : goal.returns-clause-pruned
unfolding normal_of content_of greatest
returns-clause-pruned c = refl

pub returns-clause-diffs : goal.returns-clause-diffs
unfolding normal_of content_of greatest
returns-clause-diffs c = refl

pub returns-clause-facts : goal.returns-clause-facts
unfolding normal_of content_of greatest
returns-clause-facts c = refl

pub returns-clause-cut : goal.returns-clause-cut
unfolding normal_of content_of greatest
returns-clause-cut c = refl
