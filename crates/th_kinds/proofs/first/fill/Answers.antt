use Rattle.std.proofs.Common.{false, List, Bool, get_or, ap, ◌∙◌}
use Rattle.th_kinds.specs.Kept.{seen_kept}
use Rattle.th_kinds.proofs.Marks.{known_there, nothing_under}
use Rattle.th_kinds.proofs.first.fill.Goals as goal

pub returns-clause-settled : goal.returns-clause-settled
returns-clause-settled c = record {
  below = λ u stable. c.in_ok-settle.ensures.under u stable (nothing_under (seen_kept c.mark_jumps.new.kept) u (c.in_ok-mark_jumps.ensures.nothing c.requires.nothing));
  still = c.in_ok-settle.ensures.still;
  keeps = λ k j inside there jump. known_there c.settle.new.kept j (ap (λ (ps : List Bool). get_or ps j false) c.in_ok-settle.ensures.places ∙ c.in_ok-mark_jumps.ensures.marked k j inside there jump);
}
