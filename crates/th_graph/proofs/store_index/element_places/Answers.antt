use Rattle.std.proofs.Common.{◌≡◌, List, ℕ, sym, ap, ◌∙◌, ◌++◌, ◌∷◌, [], get_or, take, if◌then◌else◌}
use Rattle.std.proofs.lemmas.List.{append-nil}
use Rattle.th_ir.specs.declared.program.Node.{Node}
use Rattle.th_flow.proofs.Rows.{places_more}
use Rattle.th_graph.specs.Stores.{stores_element, element_places}
use Rattle.th_graph.proofs.store_index.element_places.Goals as goal
use Rattle.th_graph.proofs.store_index.element_places.Goals.{then-stores_element+in_ok-push, else-stores_element}

pub loop-place-preserved : goal.loop-place-preserved
loop-place-preserved c =
    let nodes : List Node = c.args.nodes.now in
    let at = c.loop-place.place in
    let node : Node = c.index-nodes-place.result in
    let so_far : List ℕ = element_places (take at nodes) in
    let more = places_more (λ (n : Node). stores_element n.stmt) nodes at node c.loop-place-test.true in
    let test : stores_element (get_or nodes at node).stmt ≡ c.stores_element.result = cc in
    elim c.if-stores_element.branch [
      | then-stores_element+in_ok-push w ↦
          ap (λ v. v.items) w.places-is ∙ w.in_ok-push.ensures.items ∙ ap (λ l. l ++ at ∷ []) c.loop-place.invariant
          ∙ ap (λ b. so_far ++ (if b then at ∷ [] else [])) (sym (test ∙ w.if-stores_element.true)) ∙ sym more
      | else-stores_element w ↦
          ap (λ v. v.items) w.places-is ∙ c.loop-place.invariant ∙ sym (append-nil so_far)
          ∙ ap (λ b. so_far ++ (if b then at ∷ [] else [])) (sym (test ∙ w.if-stores_element.false)) ∙ sym more
    ]
