use Rattle.std.proofs.Common.{◌++◌, [], ◌∷◌, sym, ◌∙◌, subst}
use Rattle.std.proofs.lemmas.List.{take_more}
use Rattle.std.proofs.lemmas.List.Elements.{All-more}
use Rattle.th_linear.specs.Laws.{IsFact}
use Rattle.th_pure.proofs.refutation.copy_all.Goals as goal

pub loop-fact-preserved : goal.loop-fact-preserved
loop-fact-preserved c =
    let more = take_more c.args.facts.now c.loop-fact.fact-index c.fact-item.result c.loop-fact-test.true in
    let here = subst IsFact c.fact-item.is c.copy.ensures.form in (
      c.in_ok-push.ensures ∙ (λ i. c.loop-fact.invariant.0 i ++ (c.in_ok-copy.ensures.equal ∙ c.fact-item.is) i ∷ []) ∙ sym more,
      All-more IsFact c.args.facts.now c.loop-fact.fact-index c.fact-item.result c.loop-fact-test.true c.loop-fact.invariant.1 here,
    )
