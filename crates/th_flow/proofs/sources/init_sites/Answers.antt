use Rattle.std.proofs.Common.{arith, List, ℕ, ap, length, map, ◌∙◌, ◌<◌}
use Rattle.th_ir.specs.declared.program.Node.{Node}
use Rattle.th_flow.specs.Flows.{IsInitSite}
use Rattle.th_flow.specs.Inverted.{places_with, entered_by}
use Rattle.th_flow.proofs.Listed.{list_each, initialising}
use Rattle.th_flow.proofs.sources.init_sites.Goals as goal

pub returns : goal.returns
returns c =
    let p = c.args.program.now in
    let h = c.args.hierarchy.now in
    let methods = c.len.ensures in
    list_each (length p.methods) (IsInitSite h p) c.in_ok-rows.rows.items (map (λ (node : Node). entered_by h node.stmt) p.nodes) (c.in_ok-rows.ensures.count ∙ methods)
    (λ r less. c.in_ok-rows.ensures.rows r (omega (arith, less, methods))
    ∙ ap (λ (l : List (List ℕ)). places_with r l) (c.as_slice-2.ensures.value ∙ c.in_ok-lists.ensures ∙ ap (λ (l : List Node). map (λ (node : Node). entered_by h node.stmt) l) c.as_slice.ensures))
    (λ m n. initialising h p m n)
