use Rattle.std.proofs.Common.{◌∙◌, suc, drop, sym, refl, None}
use Rattle.std.specs.List.{filter_map}
use Rattle.std.proofs.Math.Seq.{drop-cons}
use Rattle.th_syntax.specs.PoolChecks as checks
use Rattle.th_syntax.specs.PoolChecks.{entry_flaws}
use Rattle.th_pool.specs.PoolView.{slots_view}
use Rattle.th_pool.proofs.check.check_entries.Goals as goal

pub loop-slot-init : goal.loop-slot-init
unfolding entry_flaws
loop-slot-init c = refl

pub returns-in-Some : goal.returns-in-Some
returns-in-Some c =
    let here = drop-cons c.args.slots.now c.loop-slot.slot-index None c.loop-slot-test.true in
    let found = sym c.flaw_of.ensures ∙ c.in-Some.is in
    (filter_map (checks.entry_flaw (slots_view c.args.slots.now)) (slots_view (drop (suc c.loop-slot.slot-index) c.args.slots.now)), sym c.loop-slot.invariant ∙ rw (here, found) refl)
