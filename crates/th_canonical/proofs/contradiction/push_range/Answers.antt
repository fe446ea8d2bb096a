use Rattle.std.proofs.Common.{◌∙◌, ap, sym, ◌++◌, []}
use Rattle.th_query.specs.Contradiction.{ranges_at}
use Rattle.th_canonical.proofs.Ranging.{pushed}
use Rattle.th_canonical.proofs.contradiction.push_range.Goals as goal

pub returns-in_ok-push-in-Int : goal.returns-in_ok-push-in-Int
returns-in_ok-push-in-Int c = pushed _ _ _ _ _ _ _ _ _ c.in_ok-push-in-Int.ensures.items ∙ ap (λ x. c.args.ranges.now.items ++ ranges_at c.args.symbol x []) (sym c.in-Int.is)

pub returns-in_ok-push-in-Carry : goal.returns-in_ok-push-in-Carry
returns-in_ok-push-in-Carry c = pushed _ _ _ _ _ _ _ _ _ c.in_ok-push-in-Carry.ensures.items ∙ ap (λ x. c.args.ranges.now.items ++ ranges_at c.args.symbol x []) (sym c.in-Carry.is)
