use Rattle.std.proofs.Common.{None, Some, ap, sym, ◌∙◌}
use Rattle.th_kinds.specs.States.{seen_state}
use Rattle.th_kinds.specs.Walk.{here}
use Rattle.th_kinds.proofs.MergedKept.{seen_at}
use Rattle.th_kinds.proofs.walk.state_before.Goals as goal

pub returns-in_ok-copied_state-in-Some : goal.returns-in_ok-copied_state-in-Some
returns-in_ok-copied_state-in-Some c =
    c.in_ok-copied_state-in-Some.ensures
    ∙ sym (ap (here (seen_state c.args.fallen)) (seen_at c.args.kept.now c.args.place (Some c.in-Some.known) c.index-kept-place.result c.requires (sym c.index-kept-place.is ∙ c.in-Some.is)))

pub returns-in-None : goal.returns-in-None
returns-in-None c =
    sym (ap (here (seen_state c.args.fallen)) (seen_at c.args.kept.now c.args.place None c.index-kept-place.result c.requires (sym c.index-kept-place.is ∙ c.in-None.is)))
