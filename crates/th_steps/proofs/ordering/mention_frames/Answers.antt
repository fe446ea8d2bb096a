use Rattle.std.proofs.Common.{ℕ, List, map, ap, ◌∙◌}
use Rattle.th_base.specs.declared.number.Reg.{Reg}
use Rattle.th_query.specs.declared.query.Frame.{Frame}
use Rattle.th_query.specs.Numbered.{mentioned}
use Rattle.th_steps.proofs.Mentioned.{each_more, each_end}
use Rattle.th_steps.proofs.ordering.mention_frames.Goals as goal

pub loop-frame-preserved : goal.loop-frame-preserved
loop-frame-preserved c =
    each_more (λ (f : Frame). map (λ (x : Reg × ℕ). x.1) f.regs) c.args.frames.now c.loop-frame.frame-index c.frame-item.result c.loop-frame.order.items c.mention_registers.new.order.items _
    c.loop-frame-test.true c.frame-item.is (c.in_ok-mention_registers.ensures ∙ ap (λ (regs : List (Reg × ℕ)). mentioned c.loop-frame.order.items (map (λ (x : Reg × ℕ). x.1) regs)) c.as_slice.ensures) c.loop-frame.invariant

pub returns : goal.returns
returns c = each_end (λ (f : Frame). map (λ (x : Reg × ℕ). x.1) f.regs) c.args.frames.now c.loop-frame.frame-index c.loop-frame.order.items _ c.loop-frame-test.false c.loop-frame.invariant
