use Rattle.std.proofs.Common.{◌≡◌, ◌<◌, ℕ, List, map, length, true, sym, subst, arith, ◌∙◌}
use Rattle.th_base.specs.IdSet.{IsAscending}
use Rattle.th_base.specs.Launchable.{is_activity}
use Rattle.th_graph.specs.Searching.{row_of, class_of_site}
use Rattle.th_graph.proofs.TargetRows.{same_default, row_ascends, target_more}
use Rattle.th_graph.proofs.targets.add_target.Goals as goal

pub from_ascending-goal-requires : goal.from_ascending-goal-requires
from_ascending-goal-requires c =
    let h = c.args.hierarchy.now in
    let n = c.args.class in
    let rows : List (List ℕ) = c.args.rows.now in
    let inside = c.requires.inside in
    let count = c.requires.count in
    let less : n < length rows = omega (arith, inside, count) in
    let row : c.into_vec.result.items ≡ row_of n (map (class_of_site h) c.args._program.now.sites) =
    c.into_vec.ensures ∙ c.in_ok-sites.ensures ∙ c.index-rows-class.is ∙ same_default rows n c.index-rows-class.result _ less ∙ c.requires.rows in
    subst IsAscending (sym row) (row_ascends n (map (class_of_site h) c.args._program.now.sites))

pub returns-in_ok-push-2 : goal.returns-in_ok-push-2
returns-in_ok-push-2 c =
    let h = c.args.hierarchy.now in
    let p = c.args._program.now in
    let n = c.args.class in
    let rows : List (List ℕ) = c.args.rows.now in
    let inside = c.requires.inside in
    let count = c.requires.count in
    let less : n < length rows = omega (arith, inside, count) in
    let goal : List ℕ = c.from_ascending-goal.result in
    let row : goal ≡ row_of n (map (class_of_site h) p.sites) =
    c.from_ascending-goal.ensures ∙ c.into_vec.ensures ∙ c.in_ok-sites.ensures ∙ c.index-rows-class.is ∙ same_default rows n c.index-rows-class.result _ less ∙ c.requires.rows in
    let activity : is_activity h n ≡ true = sym c.is_subclass.ensures ∙ c.if-is_subclass.true in
    target_more h p c.args.targets.now (record { classes = c.push-then-is_subclass.new.self; goals = c.push.new.self }) n goal c.requires.below activity row c.in_ok-push-2.ensures.items c.in_ok-push.ensures.items
