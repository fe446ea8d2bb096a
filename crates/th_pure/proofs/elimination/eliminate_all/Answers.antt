use Rattle.std.proofs.Common.{◌≤◌, ◌<◌, ◌+◌, length, drop, get_or, arith, ap, sym, ◌∙◌, subst}
use Rattle.std.proofs.lemmas.List.{drop_more}
use Rattle.th_pure.specs.declared.facts.Outcome.{Outcome}
use Rattle.th_pure.specs.Outcomes.{and_then}
use Rattle.th_pure.specs.Elimination.{eliminated_all}
use Rattle.th_pure.specs.Early.{AreLeft}
use Rattle.th_pure.specs.declared.elimination.TheConstants.{FACT_LIMIT}
use Rattle.th_pure.proofs.Chains.{ended}
use Rattle.th_pure.proofs.Repeats.{both_long, next_variable}
use Rattle.th_pure.proofs.elimination.eliminate_all.Goals as goal

pub returns-then-len-ge-FACT_LIMIT : goal.returns-then-len-ge-FACT_LIMIT
returns-then-len-ge-FACT_LIMIT c =
    let long : FACT_LIMIT ≤ length c.loop-variable.left = omega (arith, c.len.ensures, c.if-len-ge-FACT_LIMIT.true) in
    sym (c.loop-variable.invariant.1 ∙ both_long (drop c.loop-variable.variable-index c.args.variables.now) c.loop-variable.left long)

pub returns-in_default : goal.returns-in_default
returns-in_default c =
    let less : length c.loop-variable.left < FACT_LIMIT = omega (arith, c.len.ensures, c.if-len-ge-FACT_LIMIT.false) in
    let rest = drop (c.loop-variable.variable-index + 1) c.args.variables.now in
    let more = drop_more c.args.variables.now c.loop-variable.variable-index 0 c.loop-variable-test.true in
    let next = next_variable (get_or c.args.variables.now c.loop-variable.variable-index 0) rest (drop c.loop-variable.variable-index c.args.variables.now) c.loop-variable.left more less in
    sym (c.loop-variable.invariant.1 ∙ next ∙ sym (c.in_ok-other.ensures.value rest) ∙ ended c.in_ok-other.other (λ gs. eliminated_all rest gs) c.in_default.not-Remaining)

pub loop-variable-preserved : goal.loop-variable-preserved
loop-variable-preserved c =
    let less : length c.loop-variable.left < FACT_LIMIT = omega (arith, c.len.ensures, c.if-len-ge-FACT_LIMIT.false) in
    let rest = drop (c.loop-variable.variable-index + 1) c.args.variables.now in
    let more = drop_more c.args.variables.now c.loop-variable.variable-index 0 c.loop-variable-test.true in
    let next = next_variable (get_or c.args.variables.now c.loop-variable.variable-index 0) rest (drop c.loop-variable.variable-index c.args.variables.now) c.loop-variable.left more less in (
      subst AreLeft c.in-Remaining.is c.in_ok-other.ensures.inequalities,
      c.loop-variable.invariant.1 ∙ next ∙ sym (c.in_ok-other.ensures.value rest) ∙ ap (λ (o : Outcome). and_then o (λ gs. eliminated_all rest gs)) c.in-Remaining.is,
    )
