use Rattle.std.proofs.Common.{ℕ}
use Rattle.th_base.specs.declared.number.Reg.{Reg}
use Rattle.th_steps.proofs.Mentioned.{mapped_more, mapped_end}
use Rattle.th_steps.proofs.ordering.mention_registers.Goals as goal

pub loop-pair-preserved : goal.loop-pair-preserved
loop-pair-preserved c =
    let none : Reg × ℕ = (record { 0 = 0 }, 0) in
    mapped_more (λ (x : Reg × ℕ). x.1) c.args.regs.now c.loop-pair.pair-index none c.loop-pair.order.items c.mention.new.order.items _ c.loop-pair-test.true c.in_ok-mention.ensures c.loop-pair.invariant

pub returns : goal.returns
returns c = mapped_end (λ (x : Reg × ℕ). x.1) c.args.regs.now c.loop-pair.pair-index c.loop-pair.order.items _ c.loop-pair-test.false c.loop-pair.invariant
