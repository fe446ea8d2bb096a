use Rattle.std.proofs.Common.{◌-◌, refl, arith}
use Rattle.th_kinds.proofs.Flows.{ascend_more}
use Rattle.th_kinds.proofs.flowing.ascend.Goals as goal

pub loop-at-preserved : goal.loop-at-preserved
loop-at-preserved c i j less inside =
    ascend_more c.args.offsets.now c.loop-at.at (omega arith) c.loop-at.invariant (c.is_above.ensures.0 c.if-not-is_above.false) i j less inside

pub returns-then-not-is_above : goal.returns-then-not-is_above
returns-then-not-is_above c = (
  λ e. absurd cc,
  λ asc. absurd (let up = c.is_above.ensures.1 (asc (c.loop-at.at - 1) c.loop-at.at (omega arith) c.loop-at-test.true) in let down = c.if-not-is_above.true in cc),
)

pub returns : goal.returns
returns c = (λ e i j less inside. c.loop-at.invariant i j less (omega arith), λ asc. refl)
