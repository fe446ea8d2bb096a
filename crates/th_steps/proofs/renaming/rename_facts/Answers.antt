use Rattle.std.proofs.Common.{◌∙◌, ap}
use Rattle.th_linear.specs.Gathered.{renamed_form}
use Rattle.th_steps.proofs.Taking.{present_more, present_end}
use Rattle.th_steps.proofs.renaming.rename_facts.Goals as goal

pub loop-fact-preserved : goal.loop-fact-preserved
loop-fact-preserved c =
    let f = renamed_form c.args.names.now in
    present_more f c.args.facts.now c.loop-fact.fact-index c.fact-item.result c.in_ok-renamed.renamed c.loop-fact.kept.items c.push_present.new.items.items _ c.loop-fact-test.true
    (c.in_ok-renamed.ensures.value ∙ ap f c.fact-item.is) c.in_ok-push_present.ensures c.loop-fact.invariant

pub returns : goal.returns
returns c = present_end (renamed_form c.args.names.now) c.args.facts.now c.loop-fact.fact-index c.loop-fact.kept.items _ c.loop-fact-test.false c.loop-fact.invariant
