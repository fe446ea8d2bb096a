use Rattle.std.proofs.Common.{List, ap, ◌∙◌}
use Rattle.th_linear.specs.Forms.{Form}
use Rattle.th_pure.specs.Elimination.{put_after}
use Rattle.th_pure.proofs.Relations.{with_le, next_le}
use Rattle.th_pure.proofs.elimination.distinct.Goals as goal

pub loop-fact-preserved : goal.loop-fact-preserved
loop-fact-preserved c =
    rw c.in_ok-kept.ensures (record {
      all = c.loop-fact.invariant.all ∙ ap (λ (fs : List Form). put_after c.loop-fact.kept fs) c.in-Some.ensures.steps.0;
      inequalities = λ h.
          let both = c.loop-fact.invariant.inequalities h in
          let next = next_le c.in-Some.fact c.next.new.self.rest.items c.loop-fact.fact-iterator.rest.items c.in-Some.ensures.steps.0 both.1 in
          (with_le c.in-Some.fact c.loop-fact.kept next.0 both.0, next.1);
    })
