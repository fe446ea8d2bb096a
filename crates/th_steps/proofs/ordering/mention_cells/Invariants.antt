use Rattle.std.proofs.Common.{◌≡◌, ◌==◌, drop, map}
use Rattle.std.specs.Prelude.{filter}
use Rattle.th_query.specs.Numbered.{mentioned}
use Rattle.th_steps.proofs.ordering.mention_cells.Given as goal

-- what is left is mentioned after
abbrev pub invariant-loop-cell : goal.invariant-loop-cell
invariant-loop-cell l = mentioned l.order.items (map (λ c. c.value) (filter (λ c. c.base == l.symbol) (drop l.cell-index l.cells))) ≡ mentioned l.fn.order.items (map (λ c. c.value) (filter (λ c. c.base == l.symbol) l.cells))
