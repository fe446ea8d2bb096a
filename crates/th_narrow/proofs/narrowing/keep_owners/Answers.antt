use Rattle.th_query.specs.Narrowed.{has_slot}
use Rattle.th_narrow.proofs.Stepping.{owners_none, owners_more, passes_restricted}
use Rattle.th_narrow.proofs.narrowing.keep_owners.Goals as goal

pub loop-link-init : goal.loop-link-init
loop-link-init c numbers = owners_none (has_slot c.args.plan.now.hierarchy c.args.plan.now.program) c.args.links.now c.args.syms.now

pub loop-link-preserved : goal.loop-link-preserved
loop-link-preserved c numbers =
    owners_more (has_slot c.args.plan.now.hierarchy c.args.plan.now.program) c.args.links.now c.loop-link.link-index _ c.args.syms.now c.loop-link.syms c.keep_owned.new.syms c.loop-link-test.true (c.loop-link.invariant numbers)
    (passes_restricted c.loop-link.syms _ _ c.keep_owned.new.syms (c.in_ok-keep_owned.ensures numbers))
