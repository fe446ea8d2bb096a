use Rattle.std.proofs.Common.{◌+◌, drop, ap, sym, ◌∙◌}
use Rattle.std.proofs.lemmas.List.{drop_all}
use Rattle.th_linear.specs.Forms.{Form}
use Rattle.std.proofs.Common.{List, arith}
use Rattle.th_pure.specs.Elimination.{combinations}
use Rattle.th_pure.specs.Early.{answer_after}
use Rattle.th_pure.proofs.Chains.{drop_read}
use Rattle.th_pure.proofs.products.add_all.Goals as goal

pub loop-upper-preserved : goal.loop-upper-preserved
loop-upper-preserved c =
    let rest = drop_read c.args.uppers.now c.loop-upper.upper-index c.upper-item.result c.loop-upper-test.true c.upper-item.is in record {
      answer = λ vs. c.loop-upper.invariant.answer vs
          ∙ ap (λ (us : List Form). answer_after c.loop-upper.progress (combinations c.args.variable us c.args.lowers.now) vs) rest
          ∙ sym (c.in_ok-progress.ensures.value (combinations c.args.variable (drop (c.loop-upper.upper-index + 1) c.args.uppers.now) c.args.lowers.now) vs);
      inequalities = λ h. c.in_ok-progress.ensures.inequalities (c.loop-upper.invariant.inequalities h);
    }

pub returns-clause-value : goal.returns-clause-value
returns-clause-value c = λ vs.
    sym (c.loop-upper.invariant.answer vs
    ∙ ap (λ (us : List Form). answer_after c.loop-upper.progress (combinations c.args.variable us c.args.lowers.now) vs) (drop_all c.loop-upper.upper-index c.args.uppers.now (omega arith)))
