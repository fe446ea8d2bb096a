use Rattle.std.proofs.Common.{◌≡◌, List, ℕ, sym, ap, append_assoc, ◌∙◌, ◌++◌, ◌∷◌, [], get_or, map, filter, take, if◌then◌else◌}
use Rattle.std.proofs.lemmas.List.{append-nil}
use Rattle.th_ir.specs.declared.graph.Producer.{Producer}
use Rattle.th_ir.specs.FactSets.{sets_of}
use Rattle.th_graph.specs.Stores.{stores_test, store_at}
use Rattle.th_graph.proofs.Producing.{filtered_more}
use Rattle.th_graph.proofs.store_index.add_stores.Goals as goal
use Rattle.th_graph.proofs.store_index.add_stores.Goals.{then-gives+in_ok-push, else-gives}

pub loop-node-preserved : goal.loop-node-preserved
loop-node-preserved c = λ numbered.
    let plan = c.args.plan.now in
    let edge = c.args.edge in
    let row : List ℕ = c.args.row.now in
    let n = c.loop-node.node-index in
    let old : List Producer = c.args.list.now.items in
    let so_far : List Producer = map store_at (filter (λ k. stores_test plan.hierarchy plan.program (sets_of plan.facts) k edge) (take n row)) in
    let item : Producer = store_at (get_or row n 0) in
    let more = filtered_more (λ k. stores_test plan.hierarchy plan.program (sets_of plan.facts) k edge) row n c.loop-node-test.true in
    let test : stores_test plan.hierarchy plan.program (sets_of plan.facts) (get_or row n 0) edge ≡ c.gives.result = sym (c.gives.ensures numbered) in
    elim c.if-gives.branch [
      | then-gives+in_ok-push w ↦
          ap (λ v. v.items) w.list-is ∙ w.in_ok-push.ensures.items ∙ ap (λ (l : List Producer). l ++ item ∷ []) (c.loop-node.invariant numbered) ∙ append_assoc old so_far (item ∷ [])
          ∙ ap (λ b. old ++ (so_far ++ (if b then item ∷ [] else []))) (sym (test ∙ w.if-gives.true)) ∙ ap (λ (l : List Producer). old ++ l) (sym more)
      | else-gives w ↦
          ap (λ v. v.items) w.list-is ∙ c.loop-node.invariant numbered ∙ ap (λ (l : List Producer). old ++ l) (sym (append-nil so_far))
          ∙ ap (λ b. old ++ (so_far ++ (if b then item ∷ [] else []))) (sym (test ∙ w.if-gives.false)) ∙ ap (λ (l : List Producer). old ++ l) (sym more)
    ]
