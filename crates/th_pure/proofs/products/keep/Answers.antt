use Rattle.std.proofs.Common.{◌∙◌}
use Rattle.th_pure.proofs.Relations.{with_le}
use Rattle.th_pure.proofs.Stopping.{passed_true, found_false, put_fact}
use Rattle.th_pure.proofs.products.keep.Goals as goal

pub returns-in-True-clause-value : goal.returns-in-True-clause-value
returns-in-True-clause-value c = λ f os vs e. rw c.in-Open.is (passed_true c.in-Open.kept f os vs (e ∙ c.in-True.is))

pub returns-in-False-clause-value : goal.returns-in-False-clause-value
returns-in-False-clause-value c = λ f os vs e. rw c.in-Open.is (found_false c.in-Open.kept f os vs (e ∙ c.in-False.is))

pub returns-in_ok-more-in-Fact-clause-value : goal.returns-in_ok-more-in-Fact-clause-value
returns-in_ok-more-in-Fact-clause-value c = λ f os vs e.
    rw (c.in-Open.is, c.in_ok-more-in-Fact.ensures) (put_fact c.in-Open.kept f c.in-Fact.fact os vs (e ∙ c.in-Fact.is))

pub returns-in_ok-more-in-Fact-clause-inequalities : goal.returns-in_ok-more-in-Fact-clause-inequalities
returns-in_ok-more-in-Fact-clause-inequalities c = λ h k.
    rw c.in_ok-more-in-Fact.ensures (with_le c.in-Fact.fact c.in-Open.kept (rw c.in-Fact.is at h) (rw c.in-Open.is at k))
