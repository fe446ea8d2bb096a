use Rattle.std.proofs.Common.{arith, List, ℕ, ap, length, ◌∙◌, ◌<◌}
use Rattle.th_flow.specs.Flows.{IsCaller}
use Rattle.th_flow.specs.Inverted.{places_with, called_by}
use Rattle.th_flow.proofs.Listed.{list_each, calling}
use Rattle.th_flow.proofs.sources.callers.Goals as goal

pub returns : goal.returns
returns c =
    let p = c.args.program.now in
    let facts = c.args.facts.now in
    let lists : List (List ℕ) = c.in_ok-lists.lists.items in
    let methods = c.len-2.ensures in
    let nodes = c.len.ensures in
    list_each (length p.methods) (IsCaller p facts) c.in_ok-rows.rows.items lists (c.in_ok-rows.ensures.count ∙ methods)
    (λ r less. c.in_ok-rows.ensures.rows r (omega (arith, less, methods)) ∙ ap (λ (l : List (List ℕ)). places_with r l) c.as_slice-2.ensures.value)
    (λ m n. calling p facts lists m n (c.in_ok-lists.ensures.count ∙ nodes)
    (λ k less. c.in_ok-lists.ensures.each k (omega (arith, less, nodes)) ∙ ap (λ l. called_by l k) c.as_slice.ensures))
