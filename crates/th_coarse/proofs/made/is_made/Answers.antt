use Rattle.std.proofs.Common.{◌&&◌, ◌||◌, sym, ap, ◌∙◌}
use Rattle.std.specs.BTreeSet.{contains}
use Rattle.std.specs.Ordering.{nat_cmp}
use Rattle.th_base.specs.Launchable.{is_launchable}
use Rattle.th_coarse.proofs.made.is_made.Goals as goal

pub returns-else-is_launchable : goal.returns-else-is_launchable
returns-else-is_launchable c =
    let classes = c.args.hierarchy.now in
    let made = contains nat_cmp c.args.created.now c.args.class.0 in
    c.contains.ensures ∙ ap (λ b. b || made) (sym (sym c.is_launchable.ensures ∙ c.if-is_launchable.false))
    ∙ ap (λ b. b && (is_launchable classes c.args.class.0 || made)) (sym (sym c.is_subclass.ensures ∙ c.if-is_subclass.true))
