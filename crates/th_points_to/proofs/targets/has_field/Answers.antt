use Rattle.std.proofs.Common.{ℕ, sym, ap, ◌∙◌}
use Rattle.std.specs.Option.{option_map}
use Rattle.th_base.specs.declared.number.ClassId.{ClassId}
use Rattle.th_points_to.proofs.TargetLemmas.{site_class_inside}
use Rattle.th_points_to.proofs.targets.has_field.Goals as goal

pub class_has-requires : goal.class_has-requires
class_has-requires c =
    let h = c.args.hierarchy.now in
    let p = c.args.program.now in
    site_class_inside h p c.args.site.0 c.in-Some.class.0 (sym (c.site_class.ensures h p c.requires) ∙ ap (option_map {U = ℕ} (λ (k : ClassId). k.0)) c.in-Some.is)
