use Rattle.std.proofs.Common.{◌≡◌, drop, map}
use Rattle.th_query.specs.Numbered.{mentioned}
use Rattle.th_steps.proofs.ordering.mention_statics.Given as goal

-- what is left is mentioned after
abbrev pub invariant-loop-pair : goal.invariant-loop-pair
invariant-loop-pair l = mentioned l.order.items (map (λ x. x.1) (drop l.pair-index l.statics)) ≡ mentioned l.fn.order.items (map (λ x. x.1) l.statics)
