use Rattle.std.proofs.Common.{◌≡◌, ◌==◌, drop, map}
use Rattle.std.specs.Prelude.{filter}
use Rattle.th_query.specs.Numbered.{mentioned}
use Rattle.th_steps.proofs.ordering.mention_elements.Given as goal

-- what is left is mentioned after
abbrev pub invariant-loop-element : goal.invariant-loop-element
invariant-loop-element l = mentioned l.order.items (map (λ e. e.value) (filter (λ e. e.array == l.symbol) (drop l.element-index l.elems))) ≡ mentioned l.fn.order.items (map (λ e. e.value) (filter (λ e. e.array == l.symbol) l.elems))
