use Rattle.std.proofs.Common.{refl}
use Rattle.th_linear.specs.Divided.{normal_of, content_of, greatest, gcd_of}
use Rattle.th_linear.specs.Summed.{mixed_form, mixed_terms}
use Rattle.th_pure.specs.Refutation.{refuted}
use Rattle.th_query.proofs.laws.worked.the_initial_state_is_admitted.Goals as goal

pub returns-clause-int : goal.returns-clause-int
unfolding refuted normal_of content_of greatest gcd_of mixed_form mixed_terms
returns-clause-int c = refl

pub returns-clause-other_int : goal.returns-clause-other_int
unfolding refuted normal_of content_of greatest gcd_of mixed_form mixed_terms
returns-clause-other_int c = refl

pub returns-clause-zero : goal.returns-clause-zero
unfolding refuted normal_of content_of greatest gcd_of mixed_form mixed_terms
returns-clause-zero c = refl

pub returns-clause-string : goal.returns-clause-string
unfolding refuted normal_of content_of greatest gcd_of mixed_form mixed_terms
returns-clause-string c = refl

pub returns-clause-other_string : goal.returns-clause-other_string
unfolding refuted normal_of content_of greatest gcd_of mixed_form mixed_terms
returns-clause-other_string c = refl

pub returns-clause-object : goal.returns-clause-object
unfolding refuted normal_of content_of greatest gcd_of mixed_form mixed_terms
returns-clause-object c = refl

pub returns-clause-null : goal.returns-clause-null
unfolding refuted normal_of content_of greatest gcd_of mixed_form mixed_terms
returns-clause-null c = refl

pub returns-clause-cells : goal.returns-clause-cells
unfolding refuted normal_of content_of greatest gcd_of mixed_form mixed_terms
returns-clause-cells c = refl

pub returns-clause-frames : goal.returns-clause-frames
unfolding refuted normal_of content_of greatest gcd_of mixed_form mixed_terms
returns-clause-frames c = refl
