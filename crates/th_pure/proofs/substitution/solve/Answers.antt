use Rattle.std.proofs.Common.{◌-◌, sym, ◌∙◌, ap}
use Rattle.th_pure.specs.declared.facts.Outcome.{Outcome}
use Rattle.th_pure.specs.Outcomes.{and_then}
use Rattle.th_pure.specs.Substitution.{rounds}
use Rattle.th_pure.proofs.Chains.{ended}
use Rattle.th_pure.proofs.Rounds.{round_made}
use Rattle.th_pure.proofs.substitution.solve.Goals as goal

pub returns-in_default : goal.returns-in_default
returns-in_default c =
    let choice = rw c.as_slice-in-loop-rounds.ensures at c.in-Some.ensures.choice c.remove-by.result in
    let made = round_made c.loop-rounds.rounds c.in-Some.place.at c.in-Some.place.variable c.args.ranges.now c.loop-rounds.left c.remove-by.new.self c.push_range.new.facts c.remove-by.result c.in_ok-other.other c.loop-rounds-test.true choice c.remove-by.ensures.fact c.remove-by.ensures.rest c.in_ok-push_range.ensures c.in_ok-other.ensures in
    sym (c.loop-rounds.invariant ∙ made ∙ ended c.in_ok-other.other (λ ks. rounds (c.loop-rounds.rounds - 1) c.args.ranges.now ks) c.in_default.not-Remaining)

pub loop-rounds-preserved : goal.loop-rounds-preserved
loop-rounds-preserved c =
    let choice = rw c.as_slice-in-loop-rounds.ensures at c.in-Some.ensures.choice c.remove-by.result in
    let made = round_made c.loop-rounds.rounds c.in-Some.place.at c.in-Some.place.variable c.args.ranges.now c.loop-rounds.left c.remove-by.new.self c.push_range.new.facts c.remove-by.result c.in_ok-other.other c.loop-rounds-test.true choice c.remove-by.ensures.fact c.remove-by.ensures.rest c.in_ok-push_range.ensures c.in_ok-other.ensures in
    c.loop-rounds.invariant ∙ made ∙ ap (λ (o : Outcome). and_then o (λ ks. rounds (c.loop-rounds.rounds - 1) c.args.ranges.now ks)) c.in-Remaining.is
