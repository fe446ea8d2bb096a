use Rattle.th_ir.specs.FactSets.{sets_of}
use Rattle.th_narrow.proofs.Greatest.{all_after}
use Rattle.th_narrow.proofs.narrowing.narrow_symbols.Goals as goal

pub returns : goal.returns
returns c numbers =
    let plan = c.args.plan.now in
    all_after plan.hierarchy plan.program (sets_of plan.facts) c.args.frames.now c.args.statics.now c.args.links.now
    c.args.syms.now c.keep_frames.new.syms c.keep_statics.new.syms c.keep_owners.new.syms c.narrow_links.new.syms
    (rw c.as_slice.ensures at c.in_ok-keep_frames.ensures) (rw c.as_slice-2.ensures at c.in_ok-keep_statics.ensures) (c.in_ok-keep_owners.ensures numbers) c.in_ok-narrow_links.ensures
