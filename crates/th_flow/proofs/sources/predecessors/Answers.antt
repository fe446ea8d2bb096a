use Rattle.std.proofs.Common.{arith, List, ℕ, ap, length, map, ◌∙◌, ◌<◌, subst}
use Rattle.th_flow.specs.Flows.{Precedes}
use Rattle.th_flow.specs.Inverted.{places_with, successor_numbers}
use Rattle.th_flow.proofs.Listed.{list_each, preceding}
use Rattle.th_flow.proofs.sources.predecessors.Goals as goal

pub returns : goal.returns
returns c =
    let p = c.args.program.now in
    let count = ap (λ l. length l) c.as_slice-nodes.ensures in
    list_each (length p.nodes) (Precedes p) c.in_ok-rows.rows.items (map successor_numbers p.nodes) (c.in_ok-rows.ensures.count ∙ count)
    (λ r less. c.in_ok-rows.ensures.rows r (omega (arith, less, count))
    ∙ ap (λ (l : List (List ℕ)). places_with r l) (c.as_slice.ensures.value ∙ c.in_ok-lists.ensures ∙ ap (λ l. map successor_numbers l) c.as_slice-nodes.ensures))
    (λ k n. preceding p k n)
