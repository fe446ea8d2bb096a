use Rattle.std.proofs.Common.{List, Option, ℕ, ◌+◌, ◌++◌, ◌∷◌, [], take, ap, sym, subst, ◌∙◌}
use Rattle.std.proofs.lemmas.List.{take_more}
use Rattle.th_base.specs.declared.number.EdgeId.{EdgeId}
use Rattle.th_paths.specs.Paths.{TellEachLeast}
use Rattle.th_paths.proofs.Complete.{each_more}
use Rattle.th_paths.proofs.index.paths_to_each.Goals as goal

pub loop-goal-preserved : goal.loop-goal-preserved
loop-goal-preserved c =
    let edges = c.args.links.now.edges in
    let goals : List (List ℕ) = c.args.goals.now in
    let at = c.loop-goal.goal-index in
    let goal_now : List ℕ = c.goal-item.result in
    let taken = take_more goals at goal_now c.loop-goal-test.true in
    subst (λ (l : List (Option (List EdgeId))). TellEachLeast edges c.args.field (take (at + 1) goals) c.args.cut.now l) (sym c.in_ok-push.ensures.items)
    (subst (λ (l : List (List ℕ)). TellEachLeast edges c.args.field l c.args.cut.now (c.loop-goal.found.items ++ c.in_ok-path_to_goal.field-0 ∷ []))
    (sym (taken ∙ ap (λ g. take at goals ++ g ∷ []) (sym c.goal-item.is)))
    (each_more edges c.args.field (take at goals) c.args.cut.now c.loop-goal.found.items goal_now c.in_ok-path_to_goal.field-0 c.loop-goal.invariant c.in_ok-path_to_goal.ensures))
