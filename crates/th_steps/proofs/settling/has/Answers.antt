use Rattle.std.proofs.lemmas.Bool.{both_ways}
use Rattle.th_steps.proofs.Repeating.{there_now, there_later, there_never}
use Rattle.th_steps.proofs.settling.has.Goals as goal

pub returns-then-same : goal.returns-then-same
returns-then-same c =
    there_now c.args.fact.now c.other-item.result c.args.facts.now c.loop-other.other-index _ c.loop-other-test.true c.other-item.is (c.same.ensures.0 c.if-same.true) c.loop-other.invariant

pub loop-other-preserved : goal.loop-other-preserved
loop-other-preserved c =
    there_later c.args.fact.now c.other-item.result c.args.facts.now c.loop-other.other-index _ c.loop-other-test.true c.other-item.is (λ e. both_ways _ c.if-same.false (c.same.ensures.1 e)) c.loop-other.invariant

pub returns : goal.returns
returns c = there_never c.args.fact.now c.args.facts.now c.loop-other.other-index _ c.loop-other-test.false c.loop-other.invariant
