use Rattle.std.proofs.Common.{◌≡◌, drop, map}
use Rattle.std.specs.Prelude.{flat_map}
use Rattle.th_query.specs.Numbered.{mentioned}
use Rattle.th_steps.proofs.ordering.mention_frames.Given as goal

-- what is left is mentioned after
abbrev pub invariant-loop-frame : goal.invariant-loop-frame
invariant-loop-frame l = mentioned l.order.items (flat_map (λ f. map (λ x. x.1) f.regs) (drop l.frame-index l.frames)) ≡ mentioned l.fn.order.items (flat_map (λ f. map (λ x. x.1) f.regs) l.frames)
