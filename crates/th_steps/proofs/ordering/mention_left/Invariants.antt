use Rattle.std.proofs.Common.{◌≡◌}
use Rattle.std.specs.Prelude.{filter}
use Rattle.th_query.specs.FromSets.{upto}
use Rattle.th_query.specs.Numbered.{mentioned}
use Rattle.th_query.specs.Symbols.{is_left}
use Rattle.th_steps.proofs.ordering.mention_left.Given as goal

-- those so far are mentioned
abbrev pub invariant-loop-symbol : goal.invariant-loop-symbol
invariant-loop-symbol l = l.order.items ≡ mentioned l.fn.order.items (filter (is_left l.query) (upto l.symbol))
