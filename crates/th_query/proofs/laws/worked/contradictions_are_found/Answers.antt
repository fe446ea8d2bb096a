use Rattle.std.proofs.Common.{refl}
use Rattle.th_linear.specs.Divided.{normal_of, content_of, greatest, gcd_of}
use Rattle.th_linear.specs.Summed.{mixed_form, mixed_terms}
use Rattle.th_pure.specs.Refutation.{refuted}
use Rattle.th_query.proofs.laws.worked.contradictions_are_found.Goals as goal

pub returns-clause-empty : goal.returns-clause-empty
unfolding refuted normal_of content_of greatest gcd_of mixed_form mixed_terms
returns-clause-empty c = refl

pub returns-clause-null : goal.returns-clause-null
unfolding refuted normal_of content_of greatest gcd_of mixed_form mixed_terms
returns-clause-null c = refl

pub returns-clause-itself : goal.returns-clause-itself
unfolding refuted normal_of content_of greatest gcd_of mixed_form mixed_terms
returns-clause-itself c = refl

pub returns-clause-nulls : goal.returns-clause-nulls
unfolding refuted normal_of content_of greatest gcd_of mixed_form mixed_terms
returns-clause-nulls c = refl

pub returns-clause-apart : goal.returns-clause-apart
unfolding refuted normal_of content_of greatest gcd_of mixed_form mixed_terms
returns-clause-apart c = refl

pub returns-clause-low : goal.returns-clause-low
unfolding refuted normal_of content_of greatest gcd_of mixed_form mixed_terms
returns-clause-low c = refl

pub returns-clause-high : goal.returns-clause-high
unfolding refuted normal_of content_of greatest gcd_of mixed_form mixed_terms
returns-clause-high c = refl

pub returns-clause-carry : goal.returns-clause-carry
unfolding refuted normal_of content_of greatest gcd_of mixed_form mixed_terms
returns-clause-carry c = refl
