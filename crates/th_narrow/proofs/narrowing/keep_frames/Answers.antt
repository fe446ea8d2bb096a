use Rattle.std.proofs.Common.{subst}
use Rattle.th_narrow.specs.Rounds.{Enforces, Bounds, register_set}
use Rattle.th_narrow.proofs.Stepping.{frames_none, frames_more}
use Rattle.th_narrow.proofs.narrowing.keep_frames.Goals as goal

pub loop-frame-init : goal.loop-frame-init
loop-frame-init c = frames_none (register_set c.args.sets.now) c.args.frames.now c.args.syms.now

pub loop-frame-preserved : goal.loop-frame-preserved
loop-frame-preserved c =
    let sets = register_set c.args.sets.now in
    let here : Enforces (Bounds sets c.frame-item.result.regs) c.loop-frame.syms c.keep_registers.new.syms = rw c.as_slice.ensures at c.in_ok-keep_registers.ensures in
    frames_more sets c.args.frames.now c.loop-frame.frame-index c.frame-item.result c.args.syms.now c.loop-frame.syms c.keep_registers.new.syms c.loop-frame-test.true c.loop-frame.invariant
    (subst (λ f. Enforces (Bounds sets f.regs) c.loop-frame.syms c.keep_registers.new.syms) c.frame-item.is here)
