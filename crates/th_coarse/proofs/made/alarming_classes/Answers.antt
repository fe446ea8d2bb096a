use Rattle.std.proofs.Common.{◌≡◌, ◌&&◌, ◌||◌, ◌∙◌, ap, map, length, subst}
use Rattle.std.specs.BTreeSet.{contains}
use Rattle.std.specs.List.{range_with_len}
use Rattle.std.specs.Ordering.{nat_cmp}
use Rattle.std.specs.Prelude.{IfOk, filter, filter_map}
use Rattle.std.proofs.lemmas.List.Elements.{filter_agree}
use Rattle.th_base.specs.IdSet.{has}
use Rattle.th_base.specs.Launchable.{is_activity, is_launchable}
use Rattle.th_syntax.specs.Program.{hierarchy_of}
use Rattle.th_coarse.specs.Coarse.{created_class}
use Rattle.th_coarse.proofs.made.alarming_classes.Goals as goal

pub returns : goal.returns
returns c =
    let classes = hierarchy_of c.args.program.now in
    let created = filter_map (created_class c.args.program.now) (map (λ i. i.now) c.args.instrs.now) in
    subst (λ ns. IfOk c.classes_in.result (λ found. map (λ k. k.0) found.items ≡ ns))
    (filter_agree (λ n. is_activity classes n && (is_launchable classes n || contains nat_cmp c.in_ok-created-2.created n)) (λ n. is_activity classes n && (is_launchable classes n || has created n))
    (λ n. ap (λ b. is_activity classes n && (is_launchable classes n || b)) (c.in_ok-created-2.ensures n ∙ ap (λ ns. has ns n) c.in_ok-created.ensures)) (range_with_len 0 (length classes)))
    (subst (λ ks. IfOk c.classes_in.result (λ found. map (λ k. k.0) found.items
    ≡ filter (λ n. is_activity ks n && (is_launchable ks n || contains nat_cmp c.in_ok-created-2.created n)) (range_with_len 0 (length ks))))
    c.hierarchy.ensures c.classes_in.ensures)
