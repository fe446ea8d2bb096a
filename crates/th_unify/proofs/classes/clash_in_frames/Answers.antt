use Rattle.std.proofs.Common.{subst}
use Rattle.th_linear.specs.Gathered.{name_of}
use Rattle.th_unify.specs.Classes.{Agree}
use Rattle.th_unify.proofs.Items.{among_item, all_more, all_seen}
use Rattle.th_unify.proofs.classes.clash_in_frames.Goals as goal

pub returns-in-Some : goal.returns-in-Some
returns-in-Some c = (c.frame-item.result, among_item c.args.frames.now c.loop-frame.frame-index c.frame-item.result c.loop-frame-test.true c.frame-item.is, rw c.as_slice.ensures at c.in-Some.ensures)

pub loop-frame-preserved : goal.loop-frame-preserved
loop-frame-preserved c =
    let here : Agree c.frame-item.result.regs (name_of c.args.names.now) = rw c.as_slice.ensures at c.in_default.ensures in
    all_more (λ f. Agree f.regs (name_of c.args.names.now)) c.args.frames.now c.loop-frame.frame-index c.frame-item.result c.loop-frame-test.true c.loop-frame.invariant
    (subst (λ f. Agree f.regs (name_of c.args.names.now)) c.frame-item.is here)

pub returns : goal.returns
returns c = all_seen (λ f. Agree f.regs (name_of c.args.names.now)) c.args.frames.now c.loop-frame.frame-index c.loop-frame-test.false c.loop-frame.invariant
