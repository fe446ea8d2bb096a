use Rattle.std.proofs.Common.{List, ℕ, sym, ap, ◌∙◌, ◌++◌, ◌∷◌, [], get_or, take, if◌then◌else◌}
use Rattle.std.proofs.lemmas.List.{append-nil}
use Rattle.th_ir.specs.declared.program.Node.{Node}
use Rattle.th_ir.specs.WellFormed.{places_from}
use Rattle.th_flow.proofs.Rows.{places_more}
use Rattle.th_flow.proofs.heads.marked_nodes.Goals as goal
use Rattle.th_flow.proofs.heads.marked_nodes.Goals.{then-node+in_ok-push, else-node}

pub loop-place-preserved : goal.loop-place-preserved
loop-place-preserved c =
    let nodes : List Node = c.args.nodes.now in
    let at = c.loop-place.place in
    let node : Node = c.index-nodes-place.result in
    let more = places_more (λ (n : Node). n.loop_head) nodes at node c.loop-place-test.true in
    let read = c.index-nodes-place.is in
    elim c.if-node.branch [
      | then-node+in_ok-push w ↦
          ap (λ v. v.items) w.marked-is ∙ w.in_ok-push.ensures.items ∙ ap (λ l. l ++ at ∷ []) c.loop-place.invariant
          ∙ ap (λ b. places_from (λ (n : Node). n.loop_head) 0 (take at nodes) ++ (if b then at ∷ [] else [])) (sym w.if-node.true ∙ ap (λ (n : Node). n.loop_head) read) ∙ sym more
      | else-node w ↦
          ap (λ v. v.items) w.marked-is ∙ c.loop-place.invariant ∙ sym (append-nil (places_from (λ (n : Node). n.loop_head) 0 (take at nodes)))
          ∙ ap (λ b. places_from (λ (n : Node). n.loop_head) 0 (take at nodes) ++ (if b then at ∷ [] else [])) (sym w.if-node.false ∙ ap (λ (n : Node). n.loop_head) read) ∙ sym more
    ]
