use Rattle.std.proofs.Common.{ap, ◌∙◌}
use Rattle.std.specs.Prelude.{filter}
use Rattle.std.proofs.lemmas.List.Filters.{dedup_is}
use Rattle.th_base.specs.Launchable.{is_activity}
use Rattle.th_machine.proofs.Joinings.{activities_are}
use Rattle.th_machine.proofs.reached.activities_led.Goals as goal

pub returns : goal.returns
returns c =
    activities_are c.args.hierarchy.now c.args.heap.now c.args.value c.in_ok-led.led.keys _ _ _ c.in_ok-led.ensures
    (c.in_ok-classes.ensures ∙ ap (filter (is_activity c.args.hierarchy.now)) c.as_slice.ensures.keys)
    c.sort_unstable.ensures.permutation c.sort_unstable.ensures.sorted (dedup_is _ _ _ c.dedup.ensures.filtered)
