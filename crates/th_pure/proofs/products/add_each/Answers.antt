use Rattle.std.proofs.Common.{◌+◌, ◌++◌, List, map, drop, arith, ap, sym, ◌∙◌}
use Rattle.std.proofs.lemmas.List.{drop_all}
use Rattle.th_linear.specs.Forms.{Form}
use Rattle.th_pure.specs.Elimination.{vanishing}
use Rattle.th_pure.specs.Early.{answer_after}
use Rattle.th_pure.proofs.Chains.{drop_read}
use Rattle.th_pure.proofs.products.add_each.Goals as goal

pub loop-lower-preserved : goal.loop-lower-preserved
loop-lower-preserved c =
    let rest = drop_read c.args.lowers.now c.loop-lower.lower-index c.lower-item.result c.loop-lower-test.true c.lower-item.is in record {
      answer = λ os vs. c.loop-lower.invariant.answer os vs
          ∙ ap (λ (ls : List Form). answer_after c.loop-lower.progress (map (λ b. vanishing c.args.variable c.args.upper.now b) ls ++ os) vs) rest
          ∙ sym (c.in_ok-progress.ensures.value (map (λ b. vanishing c.args.variable c.args.upper.now b) (drop (c.loop-lower.lower-index + 1) c.args.lowers.now) ++ os) vs);
      inequalities = λ h. c.in_ok-progress.ensures.inequalities (c.loop-lower.invariant.inequalities h);
    }

pub returns-clause-value : goal.returns-clause-value
returns-clause-value c = λ os vs.
    sym (c.loop-lower.invariant.answer os vs
    ∙ ap (λ (ls : List Form). answer_after c.loop-lower.progress (map (λ b. vanishing c.args.variable c.args.upper.now b) ls ++ os) vs) (drop_all c.loop-lower.lower-index c.args.lowers.now (omega arith)))
