use Rattle.std.proofs.Common.{sym, ap, ◌∙◌}
use Rattle.th_kinds.specs.States.{seen_state}
use Rattle.th_kinds.specs.Kept.{seen_kept}
use Rattle.th_kinds.specs.Listed.{is_there}
use Rattle.th_kinds.proofs.Steps.{listed_skip}
use Rattle.th_kinds.proofs.table.next_kinds.Goals as goal

pub loop-place-preserved : goal.loop-place-preserved
loop-place-preserved c =
    listed_skip c.args.instrs.now (seen_kept c.args.kept.now) (seen_state c.loop-place.fallen) c.loop-place.place c.loop-place-test.true (seen_state c.in_ok-fallen.fallen)
    (ap is_there (sym c.known_at.ensures) ∙ sym c.is_kinds.ensures ∙ c.if-is_kinds.false) c.in_ok-fallen.ensures
    ∙ c.loop-place.invariant
