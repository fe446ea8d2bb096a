use Rattle.std.proofs.Common.{ap, ◌∙◌, sym}
use Rattle.th_pure.specs.Refutation.{is_refuted, refuted}
use Rattle.th_pure.proofs.refutation.refutes.Goals as goal

pub returns-clause-value : goal.returns-clause-value
unfolding refuted
returns-clause-value c = c.is_refuted.ensures ∙ ap is_refuted c.in_ok-outcome.ensures.value

pub returns-clause-sound : goal.returns-clause-sound
unfolding refuted
returns-clause-sound c = λ e.
    c.refuted_have_no_solution.ensures c.args.facts.now c.args.ranges.now c.in_ok-outcome.ensures.facts
    (sym (c.is_refuted.ensures ∙ ap is_refuted c.in_ok-outcome.ensures.value) ∙ e)
